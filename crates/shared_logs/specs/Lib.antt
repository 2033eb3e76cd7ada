-- ==== the words of public contracts

-- what a clause sees of a partition's desk and of the clock's, and their names
pub mod Desks
-- the entries that a lock sees of a partition's history and of the clock's, and the passes that they name
pub mod Entries
-- the histories that entries tell of
pub mod Histories
-- what a partition's desk and the clock's keep between any two calls
pub mod Keeps
-- the clock's desk was told a moment
pub mod Ticked
-- at a partition's desk followers were taken out
pub mod Shrunk
-- what a clause sees of the logs that threads share, and of what a thread has of them
pub mod Shared
-- what is so of a pass between any two calls
pub mod Seen
-- what others did between two calls of a pass
pub mod Coming
-- a turn in which a call left its entry
pub mod Asked
-- where bytes stand that are sought in a log
pub mod Sought
-- the clock was told a moment, and who lagged then was taken out
pub mod Shrinking
-- the passes of new logs
pub mod Making
-- a pass amid a call
pub mod Amid
-- what a call leaves behind it
pub mod Left
-- the logs as they are closed
pub mod Closing
-- how they end
pub mod Ended
-- ==== the words of private functions

-- how the logs and a pass are seen behind their locks
pub mod Locked
-- a turn of a lock, by what the pass knew before it and knows after it
pub mod Turned
-- the locks of new logs, and their passes as they are dealt out
pub mod Dealt
-- passes taken apart for the close
pub mod Apart
-- what is left of locks that were closed
pub mod Gone
