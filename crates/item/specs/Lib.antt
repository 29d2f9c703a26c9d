-- The items of a plan.
pub mod Item
