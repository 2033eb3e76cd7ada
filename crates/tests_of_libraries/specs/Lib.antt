-- a pass of a lock with its number
pub mod Numbered
-- passes and sources of a room, and what is so of them between two calls
pub mod Crews
