-- What the crates above may cite.

-- what is decided of a request is one thing
pub use Rattle.kanswer.proofs.DecidedOnce.{decided_once}
-- a batch keeps its length where it is stamped
pub use Rattle.kanswer.proofs.Stamped.{batch_sized}
-- what is told from the readings is the answer over the states that were read
pub use Rattle.kanswer.proofs.AnswersAgree.{produced_is, fetched_is}
-- the values of an operation's gauges are those of its partitions' states, in the order of its needs
pub use Rattle.kanswer.proofs.Values.{values_by_part}
-- a batch is put only where there is room for it, and has fewer records than bytes
pub use Rattle.kanswer.proofs.Room.{HasRoom, PutsWithRoom, decided_with_room}
-- a log's bytes are those of its batches
pub use Rattle.kanswer.proofs.Putting.{log_bytes}
-- something is decided of every request whose records are bytes, so of every request that was read from bytes
pub use Rattle.kanswer.proofs.Decided.{ask_decided, requests_decided}
-- the partitions that a request names, one more at a time
pub use Rattle.kanswer.proofs.NextNamed.{produce_next, fetch_next, produce_next_topic, fetch_next_topic}
-- it asks logs that are there, each once, and its outcomes speak of their own logs
pub use Rattle.kanswer.proofs.NamedOnce.{decided_within, request_asks_once}
pub use Rattle.kanswer.proofs.Honest.{sound, decides_honest}
-- as many results as named partitions, and what stands of them one by one
pub use Rattle.kanswer.proofs.Sound.{Differs, result_other, all_at, one_more_part, none_paired, zip_length, decided_count, all_bounded, few_named}
-- what is decided on terms, cause by cause
pub use Rattle.kanswer.proofs.ProduceDecided.{produce_with_id, produce_unknown, produce_bad_acks, produce_batch}
-- how many bytes the readings have with one more, and that a partition's readable batches take no more than the reply may still take
pub use Rattle.kanswer.proofs.ReplyRoom.{bytes_push, seen_room}
-- the reply to a request that was read has a frame
pub use Rattle.kanswer.proofs.Spellable.{answer_spellable}
-- what a body of bytes carries are bytes, and parts of bytes are
pub use Rattle.kanswer.proofs.RequestBytes.{HasBytes, CarriesBytes, request_bytes, none_are_bytes, front_bytes, back_bytes, both_bytes}
-- what is read of one partition
pub use Rattle.kanswer.proofs.PartBatches.{not_not, full_read, some_bytes}
