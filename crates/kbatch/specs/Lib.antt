-- ==== the words of public contracts

-- CRC-32C, bit by bit
pub mod Crc
-- a record, and records one after the other, as bytes
pub mod Record
-- the header's fields
pub mod Head
-- a batch: the header and the records after it
pub mod Batch
-- the header's numbers by place
pub mod Kept
-- what is wrong with bytes that are no batch, and what is wrong first
pub mod Fault
-- the base offset and the leader epoch written into a batch
pub mod Stamp
-- the batch that a writer makes of records
pub mod Written
-- ==== the words of private functions

-- the remainder after bits that are 0
pub mod Zeros
-- a record's parts, read from the left, and where it ends
pub mod Walk
-- records and headers, read with all that they hold
pub mod Decode
