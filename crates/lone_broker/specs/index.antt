-- ==== the words of public contracts

-- a set of sessions: the bits of a word
pub mod Sessions
-- who waits for what, and who is a suspect
pub mod Index
-- what a call leaves of a session, and what it begins
pub mod Waiting
-- ==== the words of private functions

-- the shards that stand on the shelves, and the watchers of a gauge
pub mod Shelved
-- what an index keeps between any two calls
pub mod Kept
