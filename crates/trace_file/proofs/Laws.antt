-- What the crates above may cite.

-- words spell one line
pub use Rattle.trace_file.proofs.Lines.{words_say}
-- no session receives more bytes than the trace has, and only sessions that there may be are named
pub use Rattle.trace_file.proofs.FewBytes.{few_bytes, few_sessions}
-- a trace has no first bad line
pub use Rattle.trace_file.proofs.OneFault.{trace_has_none}
-- the digits of bytes are those of the first ones and then of the rest
pub use Rattle.trace_file.proofs.HexParts.{encode_with-append}
