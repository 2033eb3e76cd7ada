-- ==== the words of public contracts

-- what an entry says, and what a history says of each kind
pub mod Entries
-- what a port says of itself, and the history that says the same
pub mod History
-- what is behind the lock
pub mod Desk
-- a shared port, and its passes
pub mod PortViews
-- the passes of a new shared port
pub mod Fresh
-- what an answer tells, and what a pass is after it asked
pub mod Asked
-- the history at the close
pub mod Closed
-- ==== the words of private functions

-- a pass by its pass of the lock
pub mod Keys
-- what a desk has at hand of its history
pub mod Tallies
