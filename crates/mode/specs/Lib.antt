-- One destination byte: the mode table and the collision rules.
pub mod Mode
