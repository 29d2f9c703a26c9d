-- The starred cases.
pub mod Table
