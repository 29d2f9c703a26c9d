-- What the contracts of this crate's public functions that answer say.
mod Once
