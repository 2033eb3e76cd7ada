-- a field that stands at the front of bytes, or not
mod Fronts
-- a reply that is read, field by field
mod Steps
-- what holds of an answer in one of its cases
mod Cases
-- batches that follow each other
mod Rows
-- the fields of a reply stand in a body in one way
mod Fields
-- a reply is taken in one way, or refused for one cause
mod Verdicts
-- the request with which a replica asks is one that a broker reads
mod Requests
-- a copy that takes what a reply brings
mod Taking
-- what flowed over a link
mod Flowing
-- bytes that come piece by piece
mod Filling
-- whole rounds, and the one that breaks off
mod Going
-- copies of one log
mod Prefixes
-- batches of a partition's log, and what is read of them from a copy's end on
mod Stored
-- places of one history that rise
mod Places
-- what the reply of a broker comes to
mod Answers
-- what a lawful call found that asks for what follows a copy's end
mod Finding
-- a copy that holds the first batches of a log
mod Held
-- the batches of a partition's history
mod LogRows
-- one reply of a broker whose account is lawful
mod Turns
-- whole rounds over a session of such a broker
mod Sessions
-- following it from the first round on
mod Followed
-- a worked session
mod WorkedSession
-- a run, from its words to its status
mod Runs
