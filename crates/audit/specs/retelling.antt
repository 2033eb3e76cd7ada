-- ==== the words of public contracts

-- a history whose entries can be put into an empty log again
pub mod Playable
-- what became of the partitions of a call, computed again
pub mod Retells
-- an account that can be printed session by session
pub mod Tellable
-- ==== the words of private functions

-- the numbers of a history before each of its entries
pub mod NumbersUpTo
-- what is shown of the partitions of a call
pub mod WasShown
-- what is printed of some of an account's sessions
pub mod Shares
