-- what the crates above may cite
pub mod Laws
-- what is read of one partition
pub mod PartBatches
-- what a fetch asks of the partition at a place
pub mod AskedParts
-- what is decided of a request is one thing
pub mod DecidedOnce
-- a stamped batch has its length
pub mod Stamped
-- what is told from the readings is the answer over the states that were read
pub mod AnswersAgree
-- so it is for a produce and for a fetch
mod ToldOnce
-- what is told of the partition or the topic at a place
mod ToldAt
-- the needs of a request beside what became of its partitions
pub mod Needs
-- the values of an operation's gauges
pub mod Values
-- whether a request waits, from how far its needs are reached
pub mod Waits
-- a batch is put only where there is room for it
pub mod Room
-- a batch is put into a log, where there is room
pub mod Putting
-- what becomes of a partition of a fetch
pub mod Fetching
-- what is decided of a named partition of a produce, cause by cause
mod ProduceDecided
-- what a body of bytes carries are bytes
mod RequestBytes
-- something is decided of every request
mod Decided
-- the partitions that a request names, one more at a time
mod NextNamed
-- a request asks no log twice
mod NamedOnce
-- the outcomes speak of their own logs
mod Honest
-- results of honest decisions
mod Sound
-- the reply to a request that was read has a frame
pub mod Spellable
-- how many bytes a reply takes of one partition
pub mod ReplyRoom
