-- ==== the words of public contracts

-- what a pass has seen, and what it did
pub mod Book
-- a transcript as it is told in an account
pub mod Told
-- which entries are a pass's own
pub mod Owned
-- what holds of a book
pub mod IsBook
-- a pass took followers out
pub mod TakenOut
-- the books of all passes, and the account that they come to
pub mod Together
-- two passes, written out
pub mod Worked
-- three passes that waited, written out
pub mod WorkedWaits
-- a pass that took a follower out, written out
pub mod WorkedLeaves
-- ==== the words of lemmas that the crates above may cite

-- a pass amid a call
pub mod Underway
-- a call is accepted
pub mod Accepting
-- a delayed call comes to its end
pub mod Finishing
-- a pass takes the turn of one partition
pub mod Turns
