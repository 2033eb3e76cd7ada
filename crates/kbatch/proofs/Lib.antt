-- what the bits of a message leave, by zeros
pub mod Slices
-- the table has the remainders of bytes with zeros after them
pub mod Table
-- the header's fields, and its numbers by place
pub mod Places
-- how many bytes there are at least
pub mod Lengths
-- what follows for a batch's bytes
pub mod Batches
-- headers one after the other
pub mod HeadersLoop
-- what is read of a record is spelled so, and what is spelled so is read
pub mod Parts
-- records one after the other
pub mod Records
-- bytes are a batch or have one first fault
pub mod Faults
-- what is spelled is read with its values
pub mod Decoding
-- items one after the other, as a loop reads them
pub mod ListsLoop
-- how many bytes a record takes
pub mod Sizes
-- what a writer has put, part by part
pub mod Puts
-- the batch that is written of records is one of these records
pub mod Making
-- bytes are a batch, or one fault is their first
pub mod Total
-- what proofs of other crates may cite
pub mod Laws
