-- the batches of a history that goes on
pub mod Appending
-- bounds on the numbers of a history
pub mod Bounds
-- the numbers of a history, from what the scans give
pub mod Gathered
-- a batch that is put at the end of a log and stamped there
pub mod Stamping
-- batches that follow each other in a log
pub mod Rows
-- batches from a place on, up to a place, and as many as fit
pub mod Fronts
-- where what is taken of the batches ends
pub mod Taking
-- the batches wholly below an offset
pub mod Below
-- the batches of a log and its history
pub mod Whole
-- earlier states of a log
pub mod Earlier
-- what a search among the starts of batches finds
pub mod Halving
-- what a history says of the replicas, as it goes on
pub mod Replicas
-- whoever was taken out lagged, as a history goes on
pub mod Lagging
-- what those who are taken out leave of a log
pub mod Taken
-- all who lag are taken out, one after the other
pub mod Shrinking
-- the clock's moment as its history goes on
pub mod Timing
-- what is kept of a log as it grows
pub mod Tracking
-- no number falls as a history grows
pub mod Growing
-- what proofs of other crates may cite
pub mod Laws
