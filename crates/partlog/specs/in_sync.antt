-- ==== the words of public contracts

-- what happens to the replicas of a partition
pub mod ReplicaEvent
-- how many records were appended
pub mod LogEnd
-- how far a replica has fetched
pub mod Position
-- who is in sync, how many are, and the high watermark
pub mod InSync
-- when a replica had caught up
pub mod CaughtUp
-- who lags
pub mod Lagging
-- what is kept, and the history that it stands for
pub mod Standings
-- a history in which nobody left the set
pub mod NobodyLeft
-- a worked history
pub mod Worked
-- ==== the words of private functions

-- what one call makes of what is kept
pub mod Steps
