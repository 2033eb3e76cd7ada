-- ==== the words of public contracts

-- a scanner's seat that goes on: its steps are those before and newer ones
pub mod Going
-- a scan of a gauge, as the steps of its scanner
pub mod Scanned
-- how an operation comes to be listed, or why not, as the steps of its scanner
pub mod Listing
-- what a clause sees of a shard's desk and of the clock's, and their names
pub mod Desks
-- what a shard's desk keeps between any two calls
pub mod ShardKeeps
-- when the timer of a deadline comes, and which entries have one
pub mod Timing
-- what the clock's desk keeps between any two calls
pub mod ClockKeeps
-- ==== the words of private functions

-- what a scanner keeps of its present meeting
pub mod Inspected
-- what a check leaves of the scanner's listing and duties
pub mod Checked
-- a shard beside its scanner's listing, and what becomes of its rows
pub mod Shelf
-- the clock's scanner beside the timers of its entries, and what becomes of a pass's
pub mod Coming
