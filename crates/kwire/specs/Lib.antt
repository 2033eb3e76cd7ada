-- ==== the words of public contracts

-- the port and the topics
pub mod Configuration
-- topics as they may be declared
pub mod DeclaredTopics
-- frames of a stream
pub mod Frames
-- layouts of fields, and the first fault of bytes
pub mod Layouts
-- the apis, and the layouts of their requests
pub mod Apis
-- requests and their bodies
pub mod IsRequest
-- which bodies are no request, and why
pub mod Refusal
-- what is asked, as a borrowed request holds it
pub mod Views
-- the bytes of replies
pub mod Spelling
-- which replies have a frame
pub mod IsSpellable
-- ==== the words of private functions

-- reading by a layout from the left
pub mod Reading
-- partitions that topic entries name, as they are kept
pub mod Mentions
