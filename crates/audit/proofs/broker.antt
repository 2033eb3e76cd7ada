-- what the crates above may cite
pub mod Laws
-- what holds either way, and what the tests of a board tell
mod Cases
-- how histories grow, and what stays of their states
mod Growth
-- what accepting a request leaves in the histories
mod Entries
-- numbers that count up, and how often a point stands among some
mod Counting
-- what is decided of a request asks only logs that are there, and puts batches whole
mod Fair
-- histories that go on, and what holds in every account that goes on from them
mod Going
-- who left the entries, as one entry more comes
mod Ledger
-- a request is accepted, or completed by looks
mod Accepting
-- what a pass's entries have to do with the clock, as histories go on
mod Timely
-- whoever was taken out lagged then
mod Late
-- the entries that a request leaves
mod NewEntries
-- what holds of a call in every account that goes on
mod Calls
-- what holds of a board as one session changes
mod Boards
-- a play goes on line by line, and its lines keep the configuration
mod LineByLine
-- lines come to one play
mod PlayOnce
-- how much is left to do on a board
mod Work
-- lines play to something
mod PlaySome
-- what holds of a board as a request comes, and as a session ends
mod Acts
-- what holds of a board as a waiting request is answered
mod Answering
-- the account of a sound board is lawful
mod Lawful
-- a play keeps its board sound
mod Playing
-- between two lines nothing that waits is answerable
mod Resting
-- what a board is to the lines that it was fed
mod FedLines
-- the account of a play of a trace is that of the run of its lines
mod RunOfLines
-- the worked requests have bodies
mod WorkedBodies
-- the worked trace
mod WorkedPlays
