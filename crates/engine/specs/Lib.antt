-- A tick, a run, and the engine.
pub mod Tick
pub mod Run
pub mod Engine
pub mod Machine
