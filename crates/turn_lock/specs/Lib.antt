-- ==== the words of public contracts

-- a history begins with what was seen
pub mod StartsWith
-- the entries of one pass
pub mod OfPass
-- a history to which one pass added entries
pub mod AddedBy
-- what passes know, at the start and later
pub mod Passes
-- what a clause says of a lock and of its passes
pub mod Locks
-- whose turn it is
pub mod Turns
-- what a turn is after its value was lent
pub mod Lending
-- ==== the words of private functions

-- the rule of the table
pub mod InLine
-- what each step on the table tells
pub mod Moves
