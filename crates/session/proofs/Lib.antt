-- what flowed over a link, over one call and over two
mod Flowing
-- a pass that goes on, over two steps
mod Going
-- the replies of a session, as calls come
mod Replying
-- what the rest of an input shows is one end
mod Shown
-- a request that is answered, step by step
mod Handling
-- the transcript of a session, as calls come
mod Lasting
-- a session as it goes on and ends
mod Serving
