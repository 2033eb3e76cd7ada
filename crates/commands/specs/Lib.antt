-- ==== the words of public contracts

-- what the words of the command line say
pub mod Commands
-- the exit code of what stopped a run
pub mod Codes
-- what a replay gives
pub mod Replay
-- what a replay on workers gives
pub mod Worked
-- what a storm comes to
pub mod Stormed
-- what a service comes to
pub mod Served
-- ==== the words of private functions

-- what is written of lines that weren't played to the last
pub mod LinesFront
-- what was read of a source, and what was written to a sink
pub mod Streams
-- how a run ends whose lanes are done
pub mod Finish
