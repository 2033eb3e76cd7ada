-- What the crates above may cite: laws of frames at the front of a stream, of requests, and of replies that have a frame.

-- what stands at the front of a stream, and how a whole frame parts it
pub use Rattle.kwire.proofs.FrameLaws.{whole_frame, whole_parts}
-- whole frames, one after the other
pub use Rattle.kwire.proofs.StreamLaws.{frame_kept, IsNextBody, next_body, not_too_long, nothing_left, whole_ends, whole_within, whole_before}
-- a stream is cut into whole frames in one way
pub use Rattle.kwire.proofs.FramesOnce.{sent_frames}
-- a body is one request, or is refused for one cause, and not both
pub use Rattle.kwire.proofs.RequestLaws.{same_request, same_refusal, not_both, request_or_refusal}
-- no body is refused because memory ran out
pub use Rattle.kwire.proofs.NeverForMemory.{refused_for}
-- the fields of a request that is spelled out are in range, and it names at most 64 topics and partitions
pub use Rattle.kwire.proofs.FewNamed.{spelled_fits, spelled_topics, spelled_partitions}
-- replies that have a frame
pub use Rattle.kwire.proofs.SpellableLaws.{IsProducedTopic, IsFetchedPart, IsFetchedTopic, IsInfo, records_in, produced_spellable, fetched_spellable, metadata_spellable, versions_spellable}
-- fields that are written one after the other
pub use Rattle.kwire.proofs.Spelled.{Put, put_start, put_on, then_field, on_ok, put_item, put_all, in_range_item, in_range_first}
-- a reply's frame that was begun, with its fields
pub use Rattle.kwire.proofs.ReplyFrames.{has_size, frame_short, frame_spelled}
