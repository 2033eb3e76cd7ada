-- ==== the words of public contracts

-- what came of accepting a request
pub mod Came
-- decisions that were carried out
pub mod Carried
-- a request that was accepted
pub mod Accepted
-- a delayed call before and after its completion
pub mod Finished
-- ==== the words of private functions

-- the items of a list that keeps the only one in place
pub mod FewItems
-- how far the acceptance has come
pub mod Stand
-- what became of each named partition, with a state of it
pub mod Seen
-- states that are no older than what was read of their gauges
pub mod Fresh
-- a call as it looks at the partitions of its operation
pub mod Looks
-- what was read at these looks
pub mod Readings
