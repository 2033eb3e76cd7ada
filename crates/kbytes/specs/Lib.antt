-- ==== the words of public contracts

-- numbers that are bytes
pub mod Octets
-- the fields, from values to bytes
pub mod Field
-- which values have a spelling
pub mod FitsField
-- bytes, and the place up to which they were read
pub mod Cursor
-- fields read from the left, and the first fault
pub mod Reading
-- what stands at the front of bytes where a varint is read
pub mod Fronts
-- what is written is read again
pub mod Again
-- what a list ends as, where a `&mut` to its items was lent
pub mod Lends
