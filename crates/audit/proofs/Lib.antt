-- what the crates above may cite
pub mod Laws
-- the numbers of a summary, step by step
pub mod Tallies
-- a call was accepted in one way, and has one reply at most
pub mod ReplyOnce
-- the calls that have a reply, as one more comes
mod Replied
-- a lawful account has one print
pub mod Prints
-- worked calls that waited
pub mod WorkedCalls
-- a worked account that is lawful
pub mod WorkedAccounts
-- worked accounts with a follower that was taken out
pub mod WorkedLeaves
-- what a worked account prints
pub mod WorkedPrints
-- produces of one batch to one partition
pub mod WorkedProduces
-- the worked requests have bodies
pub mod WorkedRequests
-- a worked run
pub mod WorkedRuns
-- what holds of a call that went well
pub mod Ends
-- each entry of a lawful account was left by a lawful call
mod EntryOfCall
-- followers alone fetch, and from no offset above the log end
mod InRange
-- an entry that the replicas are told of
pub mod Tracking
-- the logs of a lawful account are bounded, and the replicas can be told of their entries
pub mod Bounded
-- what became of the partitions of a request
mod ResultsStand
-- links in rising number
mod RisingLinks
-- an account has one print of its links
pub mod OneServePrint
