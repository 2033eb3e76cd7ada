-- a history with one entry more
pub mod Grown
-- what a desk has at hand, with one entry more
pub mod Tallied
-- the history with which an accept answers
pub mod Answered
-- what one pass added to a history
pub mod Added
-- a pass after a turn of the lock
pub mod Asking
-- the passes of a new shared port, and their keys
pub mod KeysMade
-- the keys at the close
pub mod Closing
-- what the crates above may cite: passes may go to another thread
pub mod Laws
