-- What follows for the bytes of a batch, and that a stamped batch is one.
use Rattle.std.proofs.Common.{◌≡◌, ℕ, ◌+◌, ◌^◌, ◌<◌, ◌≤◌, List, ◌++◌, length, drop, refl, sym, ap, ◌∙◌, arith, pos}
use Rattle.std.specs.Int.{w32, cast_unsigned}
use Rattle.kbatch.specs.declared.record.Record.{Record}
use Rattle.kbatch.specs.Head.{Head, IsHead, head_bytes}
use Rattle.kbatch.specs.Record.{records_from}
use Rattle.kbatch.specs.Batch.{IsBatch}
use Rattle.kbatch.specs.Kept.{count_of}
use Rattle.kbatch.specs.Stamp.{stamped}
use Rattle.kbatch.specs.Crc.{crc32c_of}
use Rattle.kbatch.proofs.Places.{number_stands, head_len}
use Rattle.kbatch.proofs.Lengths.{records_len}

pub batch_len : (bytes : List ℕ) (rs : List Record) → IsBatch bytes rs → 61 + length rs ≤ length bytes
batch_len bytes rs is = omega (arith, ap length is.parts, head_len is.head (records_from 0 rs), records_len 0 rs)

pub batch_count : (bytes : List ℕ) (rs : List Record) → IsBatch bytes rs → count_of bytes ≡ length rs
batch_count bytes rs is = ap count_of is.parts ∙ number_stands is.head (records_from 0 rs) is.in_range ∙ ap (cast_unsigned w32) is.count

pub stamped_head : ℕ → Head → Head
stamped_head base h = record h { base_offset = pos base; leader_epoch = pos 0 }

stamped_parts : (base : ℕ) (h : Head) (rest : List ℕ) → stamped base (head_bytes h ++ rest) ≡ head_bytes (stamped_head base h) ++ rest
unfolding head_bytes stamped_head
stamped_parts base h rest = refl

stamped_fits : (base : ℕ) (h : Head) → base < 2 ^ 63 → IsHead h → IsHead (stamped_head base h)
unfolding stamped_head
stamped_fits base h lt is = record {
  base_offset = record { sfits = omega arith };
  batch_length = is.batch_length;
  leader_epoch = record { sfits = omega arith };
  magic = is.magic;
  crc = is.crc;
  attributes = is.attributes;
  last_offset_delta = is.last_offset_delta;
  base_timestamp = is.base_timestamp;
  max_timestamp = is.max_timestamp;
  producer_id = is.producer_id;
  producer_epoch = is.producer_epoch;
  base_sequence = is.base_sequence;
  count = is.count;
}

-- the crc doesn't cover what is stamped
stamped_tail : (base : ℕ) (h : Head) (rest : List ℕ) → drop 21 (stamped base (head_bytes h ++ rest)) ≡ drop 21 (head_bytes h ++ rest)
unfolding head_bytes
stamped_tail base h rest = refl

pub stamped_len : (base : ℕ) (h : Head) (rest : List ℕ) → length (stamped base (head_bytes h ++ rest)) ≡ length (head_bytes h ++ rest)
unfolding head_bytes
stamped_len base h rest = refl

pub batch_stamped : (base : ℕ) (bytes : List ℕ) (rs : List Record) → base < 2 ^ 63 → IsBatch bytes rs → IsBatch (stamped base bytes) rs
unfolding stamped_head
batch_stamped base bytes rs lt is =
    let rest = records_from 0 rs in
    let len : length (stamped base bytes) ≡ length bytes = ap (λ (xs : List ℕ). length (stamped base xs)) is.parts ∙ stamped_len base is.head rest ∙ ap length (sym is.parts) in
    let tail : drop 21 (stamped base bytes) ≡ drop 21 bytes = ap (λ (xs : List ℕ). drop 21 (stamped base xs)) is.parts ∙ stamped_tail base is.head rest ∙ ap (drop 21) (sym is.parts) in
    record {
      head = stamped_head base is.head;
      in_range = stamped_fits base is.head lt is.in_range;
      each = is.each;
      parts = ap (stamped base) is.parts ∙ stamped_parts base is.head rest;
      most = omega (arith, len, is.most);
      batch_length = is.batch_length ∙ ap pos (sym len);
      magic = is.magic;
      crc = is.crc ∙ ap crc32c_of (sym tail);
      plain = is.plain;
      no_transaction = is.no_transaction;
      no_control = is.no_control;
      count = is.count;
      some_record = is.some_record;
      last = is.last;
    }
