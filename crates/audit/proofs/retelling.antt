-- what is decided of a request asks a log only for what can be played again
pub mod Sound
-- each entry of a lawful account can be put into a log again
pub mod LawfulParts
-- the partition of a name and an index
mod PartLogs
-- an entry of a history, put after those before it
pub mod Entries
-- the numbers before each entry, and what was readable there
pub mod Befores
-- the steps of decisions, computed one after the other by their points
pub mod ByPoints
-- what is read again of the partitions of a call
pub mod Reread
-- what is computed of a call that was answered
pub mod Answered
-- the replies of calls and of sessions, one after the other
pub mod Tellings
-- the account of a run, and the numbers of its sessions
pub mod Printing
-- the account of a trace's run can be printed session by session
pub mod Runs
-- what the crates above may cite
pub mod Laws
