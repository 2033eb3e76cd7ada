-- What is spelled is read with its values.
use Rattle.std.proofs.Common.{◌≡◌, ℕ, suc, ◌+◌, ◌^◌, ◌<◌, List, [], ◌∷◌, ◌++◌, length, drop, Some, refl, sym, ap, subst, ◌∙◌, append_assoc, arith}
use Rattle.std.specs.List.{flat_map, AllByRecursion}
use Rattle.std.proofs.lemmas.List.{append-nil, length-append}
use Rattle.kbatch.specs.declared.record.Record.{Record}
use Rattle.kbatch.specs.declared.record.Header.{Header}
use Rattle.kbatch.specs.Record.{sized, header_bytes, body_bytes, record_bytes, records_from, IsRecord}
use Rattle.kbatch.specs.Walk.{header_at, parts_at}
use Rattle.kbatch.specs.Decode.{list_at, body_at, record_at}
use Rattle.kbatch.specs.Batch.{IsBatch}
use Rattle.kbatch.specs.Kept.{count_of}
use Rattle.kbatch.proofs.Batches.{batch_count}
use Rattle.kbatch.proofs.Lengths.{sized_len}
use Rattle.kbatch.proofs.Places.{head_len, rest_stands}
use Rattle.kbatch.proofs.Parts.{same_some, key_reads, header_reads, parts_of, parts_read, are_short, tail_below}

headers_read : (hs : List Header) (rest : List ℕ) → length (flat_map header_bytes hs ++ rest) < 2 ^ 31 → list_at header_at (length hs) (flat_map header_bytes hs ++ rest) ≡ Some hs
unfolding list_at
headers_read [] rest lt = refl
headers_read (h ∷ hs) rest lt =
    let regrouped : flat_map header_bytes (h ∷ hs) ++ rest ≡ header_bytes h ++ (flat_map header_bytes hs ++ rest) = append_assoc (header_bytes h) (flat_map header_bytes hs) rest in
    let lt2 : length (header_bytes h ++ (flat_map header_bytes hs ++ rest)) < 2 ^ 31 = subst (λ (xs : List ℕ). length xs < 2 ^ 31) regrouped lt in
    ap (list_at header_at (suc (length hs))) regrouped
    ∙ rw (header_reads h (flat_map header_bytes hs ++ rest) lt2, headers_read hs rest (tail_below (2 ^ 31) (header_bytes h) (flat_map header_bytes hs ++ rest) lt2)) refl

body_reads : (delta : ℕ) (r : Record) → delta < 2 ^ 31 → IsRecord r → length (body_bytes delta r) < 2 ^ 31 → body_at (body_bytes delta r) ≡ Some r
unfolding body_at
body_reads delta r delta_lt is lt =
    let body = body_bytes delta r in
    let more : length (body ++ []) < 2 ^ 31 = omega (arith, length-append body []) in
    let parts : parts_at body ≡ Some (parts_of delta r []) = ap parts_at (sym (append-nil body)) ∙ parts_read delta r [] delta_lt is more in
    let short = (are_short delta r [] more).headers in
    rw (parts, headers_read r.headers [] short) refl

record_reads : (delta : ℕ) (r : Record) (rest : List ℕ) → delta < 2 ^ 31 → IsRecord r → length (record_bytes delta r ++ rest) < 2 ^ 31 → record_at (record_bytes delta r ++ rest) ≡ Some (r, rest)
unfolding record_at
record_reads delta r rest delta_lt is lt =
    let body = body_bytes delta r in
    let short : length body < 2 ^ 31 = omega (arith, length-append (sized (Some body)) rest, sized_len body) in
    rw (key_reads body rest lt, body_reads delta r delta_lt is short) refl

-- records are read one after the other
pub records_read : (delta : ℕ) (rs : List Record) (rest : List ℕ) → AllByRecursion IsRecord rs → delta + length (records_from delta rs ++ rest) < 2 ^ 31 → list_at record_at (length rs) (records_from delta rs ++ rest) ≡ Some rs
unfolding list_at
records_read delta [] rest each lt = refl
records_read delta (r ∷ rs) rest each lt =
    let behind_r = records_from (suc delta) rs ++ rest in
    let regrouped : records_from delta (r ∷ rs) ++ rest ≡ record_bytes delta r ++ behind_r = append_assoc (record_bytes delta r) (records_from (suc delta) rs) rest in
    let len = ap length regrouped in
    let parts = length-append (record_bytes delta r) behind_r in
    let some = sized_len (body_bytes delta r) in
    ap (list_at record_at (suc (length rs))) regrouped
    ∙ rw (record_reads delta r behind_r (omega arith) each.0 (omega arith), records_read (suc delta) rs rest each.1 (omega arith)) refl

-- those of a batch are read, and are its only ones
pub batch_reads : (bytes : List ℕ) (rs : List Record) → IsBatch bytes rs → list_at record_at (count_of bytes) (drop 61 bytes) ≡ Some rs
batch_reads bytes rs is =
    let text = records_from 0 rs in
    let count : count_of bytes ≡ length rs = batch_count bytes rs is in
    let rest : drop 61 bytes ≡ text ++ [] = ap (λ (xs : List ℕ). drop 61 xs) is.parts ∙ rest_stands is.head text ∙ sym (append-nil text) in
    let size = ap length is.parts ∙ head_len is.head text in
    let short : 0 + length (text ++ []) < 2 ^ 31 = omega (arith, length-append text [], size, is.most) in
    ap (λ n. list_at record_at n (drop 61 bytes)) count ∙ ap (list_at record_at (length rs)) rest ∙ records_read 0 rs [] is.each short

pub batch_once : (bytes : List ℕ) (rs others : List Record) → IsBatch bytes rs → IsBatch bytes others → rs ≡ others
batch_once bytes rs others is too = same_some rs others (sym (batch_reads bytes rs is) ∙ batch_reads bytes others too)
