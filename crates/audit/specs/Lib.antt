-- ==== the words of public contracts

-- who left each entry of an account, and the states at its points
pub mod Histories
-- what a lawful call is
pub mod LawfulCall
-- a lawful account
pub mod IsLawful
-- a transcript fits its input, and the bytes sent
pub mod Fits
-- what the account of a trace's run is to the trace
pub mod RunOf
-- what is printed of an account
pub mod Printed
-- what is printed of links that were served
pub mod ServePrint
-- an account that may be printed
pub mod Printable
-- small accounts, written out
pub mod Worked
-- the specification of the broker; broker.antt says what is in it
pub mod broker
-- what each session was sent, computed again; retelling.antt says what is in it
pub mod retelling
-- ==== the words of private functions

-- entries of which the replicas can be told
pub mod Trackable
-- sums over sessions
pub mod Totals
-- transcripts that are lent
pub mod Links
