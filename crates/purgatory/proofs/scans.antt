-- what the crates above may cite
pub mod Laws
-- seats that go on
pub mod Goes
-- tables with one value given anew, and lists that mirror them
pub mod Tables
-- an inspector after a step of its scanner
pub mod Inspecting
-- a scanner that learns and reads
pub mod Looking
-- a check that is left
pub mod Leaving
-- tallies over the same words and values
pub mod Sums
-- watchers that stay in their places
pub mod Rows
-- a shard beside its scanner's listing, after a step
pub mod Entries
-- session words: small numbers, and the generation at which one is open
pub mod Sessions
-- an inspector that leaves or wins
pub mod Ending
-- a shard's gauges, and their keys
pub mod Gauges
-- a shard's listing after a step
pub mod Shelves
-- the duties of a scan, one after another
pub mod Duties
-- a watcher that is checked
pub mod Watching
-- an operation that is listed under a need's gauge
pub mod Marking
-- a shard that is purged
pub mod Purging
-- an operation that is listed under its deadline
pub mod Deadlines
-- the timers of the wheels
pub mod Timers
-- a pass of the clock's listing that is met and checked
pub mod Settling
-- the clock's listing after a step
pub mod ClockEntries
-- the timers that come out as a scan of the clock begins, one after another
pub mod Coming
