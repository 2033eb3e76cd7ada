-- ==== the words of public contracts

-- the watchers of each key, as a caller sees them
pub mod Watches
-- ==== the words of private functions

-- what a shard's rows keep: rising ids below a limit, each under its key
pub mod Row
-- the lists of a shard: a row for each key
pub mod Rows
