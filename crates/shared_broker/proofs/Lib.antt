-- what is so of a pass stays so between its calls
mod SessionsStand
-- a pass told the clock a moment
mod Ticking
-- what is so of a pass that is made
mod MakingPasses
-- passes taken apart for the close, and their transcripts by their numbers
mod ClosingSheets
-- the books of all passes come to a lawful account
mod ClosingBooks
-- the account of a closed broker
mod ClosingAccount
-- a result that is an error
mod Results
-- a call that was won, as it is completed
mod WonCalls
-- the gauges of an operation
mod Gauges
-- a call whose operation was registered
mod Enlisted
-- a call over two steps
mod Steps
-- a call that looks at the clock
mod Delayed
-- a call that is accepted
mod Served
-- the last call of a transcript
mod LastCalls
-- a call that waits
mod KeptCalls
-- what is so of a pass
mod PassStands
-- a call is written down
mod WrittenDown
-- a pass whose last call was served
mod ServedPass
-- a pass whose request waits
mod KeptPass
-- a pass may go to another thread
mod SentPass
-- a range of a log that a pass has seen
mod Ranges
-- what the crates above may cite
pub mod Laws
