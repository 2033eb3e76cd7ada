-- the words of the command line, as they are matched
pub mod Spellings
-- writing a part piece by piece
pub mod Writes
-- what a replay comes to, from what was read and what was played
pub mod Replays
-- what a replay on workers comes to
pub mod Workings
-- what a storm comes to
pub mod Stormings
-- what stops a service before it opens its port, and which service it is
pub mod Services
