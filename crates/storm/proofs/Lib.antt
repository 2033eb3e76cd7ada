-- the batches of the blocks before a block
pub mod Blocks
-- the states of the generator, and the draws before a request
pub mod Drawn
-- the value of a record
pub mod Values
-- requests that can be sent
pub mod WholeRequests
-- bytes, and the length of a batch
pub mod Octets
-- the frames of a load
pub mod Frames
-- the order of the lines
pub mod Ordered
-- the text of a load
pub mod Texts
-- a batch that is written over another
pub mod Formed
-- lines, one request after the other
pub mod Fronts
-- what the lines of a load say
pub mod Contents
-- how long requests wait, and how late the moments are
pub mod Drained
-- laws for the crates that play a load
pub mod Laws
