-- ==== the words of public contracts

-- what becomes of each named partition, and the entry that it leaves
pub mod Decisions
-- on what terms a produce is asked
pub mod OnTerms
-- a batch that a produce sent, and what becomes of it
pub mod Sent
-- decisions that ask logs which are there, each once
pub mod Deciding
-- a history with the entry of a call
pub mod WithEntry
-- a log that was asked: its entry, what became of the partition, and where the entry stands
pub mod Entered
-- the gauges of a partition, by their numbers
pub mod PartitionGauges
-- whether a request waits, and as what
pub mod Waiting
-- what became of the named partitions, as it decides whether the request waits
pub mod Results
-- numbers that were read of the named partitions
pub mod Numbered
-- states of the partitions by their numbers
pub mod ByPart
-- the reply to a request
pub mod Answer
-- what was read of each named partition for a reply
pub mod LogReadings
-- how many bytes of records were read for a reply, and how many it may still take
pub mod BytesRead
-- ==== the words of private functions

-- what is told of each named partition, from what was read, and the fields of that
pub mod ToldParts
-- how far the needs of a request are reached, from numbers of its partitions
pub mod Reached
-- a request that waits unless the states just seen satisfy it
pub mod MayWait
-- a partition that was appended to
pub mod Appends
