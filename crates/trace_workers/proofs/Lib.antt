-- what the crates above may cite
pub mod Laws
-- the one transcript of a session, as calls come and it ends
mod Transcripts
-- an end that fits what is left of the input fits also what comes behind that
mod Fronts
-- the lines that a session keeps of its replies, as calls come and its pass sees more
mod Telling
-- what a session received, as it handles frames, collects replies and ends
mod Going
-- a frame is handled, or shows how its session ends
mod Frames
-- a session that rests
mod Resting
-- the moments that lines tell
mod Moments
-- what a line of a trace may rely on
mod Traced
-- what sessions and the clock have of the lines
mod Untouched
-- a session that moves, and sessions before the first line
mod Moving
-- a worker, as lines come and its sessions go on
mod Workers
-- the pass of the clock tells a moment
mod Clocks
-- a worker may do each line that is its own
mod Taking
-- a worker may go to another thread
mod SentWorker
-- the passes of a new broker, taken one after the other
mod NewPasses
-- sessions and clock are dealt
mod Deals
-- workers that have worked
mod Working
-- all sessions and the clock in one hand
mod Gathering
-- how many sessions lines name
mod Counting
-- the lines of a load as they are played
mod LoadLines
-- a run whose lines are all done
mod Begun
-- the moments by which a run is drained
mod Seconds
-- all sessions and the clock in one hand, as they go on
mod JoinedOn
-- joined sessions are taken apart for the close, and put together again
mod Sessions
-- the ticks of an account whose clock one pass alone has told
mod Ticks
-- what holds of each pass in a list, and what is found by its number
mod Places
-- one session that rests, and what the account has of it
mod Alone
-- the account of joined sessions that came to rest is that of a run
mod WorkerRun
-- the lines that its sessions kept
mod Kept
-- what is printed of them, pass by pass
mod Parts
-- whether a call is lawful asks neither passes nor winners
mod LawfulAlike
-- the lines of every trace have an account of a run
mod EveryTrace
