-- ==== the words of public contracts

-- ticks, levels and buckets, and the place of an entry
pub mod Place
-- the entries by id, and the moment of the wheels
pub mod Timers
-- what turning the wheels to a moment does to an entry
pub mod Turn
-- the list of due ids, with its room
pub mod DueList
-- ==== the words of private functions

-- an entry that waits at a moment, and its bucket's number
pub mod Wait
-- the buckets of the entries, and their count
pub mod Filed
-- what a step of a turn keeps: no entry is lost, and none is handed out twice
pub mod Handover
-- linked buckets: who follows whom
pub mod Ring
