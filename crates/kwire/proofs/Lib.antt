-- looking for a name among topics
pub mod Names
-- what a fetch asks of one partition, as it is read
pub mod FetchParts
-- a whole frame at the front of a stream, both ways
pub mod FrameLaws
-- places after fields
pub mod Places
-- each field of a request alone
pub mod FieldLaws
-- a field of each kind, both ways
pub mod KindLaws
-- reading by a layout gives its fields, or the first fault
pub mod LayoutLaws
-- no bytes spell two values, or have two first faults
pub mod OneReading
-- types whose values are the fields of a layout
pub mod Typed
-- a body is one request, or is refused for one cause
pub mod RequestLaws
-- a request that is spelled out names few topics and partitions
pub mod FewNamed
-- what the code reads of a body is a request, or why there is none
pub mod BodyLaws
-- items that are read one after the other
pub mod ItemLoops
-- a partition is named twice exactly where one of the mentions was mentioned before
pub mod TwiceNamed
-- mentions that are put one after the other, and looked for among those before them
pub mod MentionLoops
-- streams that are whole frames, one after the other
pub mod StreamLaws
-- partitions looked up among the topics, one topic after the other
pub mod Lookups
-- a stream is cut into whole frames in one way
pub mod FramesOnce
-- fields that are written one after the other
pub mod Spelled
-- a frame that was begun, with its body
pub mod BegunFrames
-- a reply's frame that was begun, with its fields
pub mod ReplyFrames
-- fields of the numbers from 0 on
pub mod Ranges
-- replies to produces and fetches whose lengths and counts are in range
pub mod SpellableLaws
-- no body is refused because memory ran out
pub mod NeverForMemory
-- what the crates above may cite
pub mod Laws
