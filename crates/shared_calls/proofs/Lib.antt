-- decisions that are carried out one after the other
pub mod Carrying
-- one of them, in a turn of its partition
pub mod Turning
-- how far a log reaches
pub mod Bounds
-- what came of some partitions and then of others
pub mod Coming
-- what came of one of them
pub mod One
-- the next one in a loop over them
pub mod Nexts
-- what became of the partitions of a request
pub mod Results
-- a request is accepted whole
pub mod Whole
-- what a result tells
pub mod Telling
-- the partition of a gauge
pub mod Gauges
-- what was seen of the named partitions
pub mod Seen
-- the partitions of some of them
pub mod Asked
-- fresh states satisfy what the values read of their gauges satisfied
pub mod Rising
-- the partitions of a request, topic by topic
pub mod Topics
-- the gauges that a request needs
pub mod Needs
-- a pass that went on, and what it sees
pub mod Passes
-- a call's looks
pub mod Looks
-- what was read at them
pub mod Readings
-- how much that is
pub mod Room
-- a delayed call was won, and comes to its end
pub mod Wins
-- how a request of each kind comes to its end
pub mod Ends
