-- ==== the words of public contracts

-- what contracts see of a partition's log: its bytes, its followers and its history
pub mod History
-- what an entry of the history adds to the log: records and bytes
pub mod Added
-- the batches of a history, with their base offsets
pub mod Batches
-- what a history says of the partition's replicas
pub mod Replicas
-- the state of a history: batches, log end, high watermark and how many are in sync; also at a place of it
pub mod State
-- a batch put at the end of a log
pub mod Appended
-- the high watermark, the visible bytes and the end bytes
pub mod Gauges
-- the moment of the clock's history
pub mod Moment
-- what holds of every log
pub mod Kept
-- a log that a call looked at
pub mod Looked
-- the replicas that follow a partition
pub mod Follower
-- an offset that can be fetched from
pub mod InRange
-- a log that a follower fetched from
pub mod Followed
-- who lags, and that whoever was taken out did
pub mod Lagging
-- a log that those who lagged were taken out of
pub mod Shrunk
-- the clock's history after it was told a moment
pub mod Ticked
-- where reading from an offset begins
pub mod Start
-- whole batches: from a place on, up to a place, as many as fit, and their bytes
pub mod Taken
-- where a batch ends and the next one may begin
pub mod Boundary
-- what the batches of a log show of a state
pub mod Readable
-- numbers none of which is smaller than it was
pub mod Fallen
-- who of the followers is in sync, and the high watermark that follows; in_sync.antt says what is in it
pub mod in_sync
-- ==== the words of private functions

-- batches that follow each other
pub mod Rows
-- where each batch begins
pub mod Starts
-- what is kept of a log beside its bytes and its history
pub mod Tracked
-- what is kept of the clock beside its history
pub mod Timed
