-- what the crates above may cite
pub mod Laws
-- the entries that a lock sees, beside the histories
pub mod Beside
-- who left an entry
pub mod Owners
-- a history that one pass goes on
pub mod Adding
-- a partition's desk, as its history goes on
pub mod Entering
-- the clock's desk, as its history goes on
pub mod TickedClock
-- what a whole turn of a lock tells of the histories
pub mod Telling
-- what a pass knows of a lock, as its turn goes on
pub mod Keys
-- followers that a pass took out
pub mod Shrinking
-- a pass after a turn of a lock
pub mod Passes
-- numbers that rise
pub mod Rising
-- the ticks of a history, and those that one pass added
pub mod Ticks
-- a pass after a turn of the clock's lock
pub mod Moments
-- a pass whose seat in the room went on
pub mod Steps
-- locks and passes as they are dealt out
pub mod Dealt
-- the passes of new logs
pub mod NewPasses
-- passes taken apart, and put together again
pub mod Apart
-- locks that are closed
pub mod Gone
-- new logs, from the parts of a room
pub mod NewLogs
-- sums over the passes, and over their numbers
pub mod Wins
-- the passes of seats and hands, one by one
pub mod Gathered
-- what came to the logs after each pass saw them
pub mod Came
-- what waits, by the closed logs
pub mod Unmet
-- which pass added a tick
pub mod Added
-- logs that were closed
pub mod Closed
-- how shared logs end
pub mod Ending
-- a pass that is the same over two steps
pub mod Same
-- entries that are left over two steps
pub mod Leaving
-- the histories that a turn finds
pub mod Finding
