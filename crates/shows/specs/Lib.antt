-- Demand 3.
pub mod Shows
