-- No session of a trace receives more bytes than the trace has, and only sessions that there may be are named.
use Rattle.std.proofs.Common.{◌≡◌, ◌≢◌, refl, ℕ, ◌+◌, ◌*◌, ◌%◌, ◌≤◌, ◌<◌, Bool, true, false, cond, eqb, List, [], ◌∷◌, length, Ok, Err, ap, arith, length-append, ◌||◌, inl, inr}
use Rattle.std.proofs.lemmas.Bool.{or_cases, eqb-true}
use Rattle.std.specs.Prelude.{codes}
use Rattle.std.specs.Fmt.{decimal}
use Rattle.std.specs.List.{AllZip, slice_split, onto_first}
use Rattle.hex.specs.declared.error.FromHexError.TheVariants.{OddLength}
use Rattle.hex.specs.Hex.{decode_of, decode_pairs}
use Rattle.hex.proofs.HexLemmas.{decode_pairs-ok}
use Rattle.trace_file.specs.declared.line.Line.{Line}
use Rattle.trace_file.specs.declared.line.Line.TheVariants.{Topic, Feed, Shut, Clock, End}
use Rattle.trace_file.specs.declared.line.TheConstants.{MOST_SESSIONS, MOST_TRACE_BYTES}
use Rattle.trace_file.specs.IsLine.{IsLine, IsFeedLine, words_of}
use Rattle.trace_file.specs.Contents.{bytes_in, input_of, is_named}
use Rattle.trace_file.specs.Trace.{pieces_of, without_empty_end, IsTrace}

-- how many bytes these pieces have
abbrev size_of : List (List ℕ) → ℕ
size_of [] = 0
size_of (piece ∷ pieces) = length piece + size_of pieces

onto_size : (c : ℕ) (parts : List (List ℕ)) → size_of (onto_first c parts) ≤ 1 + size_of parts
onto_size c [] = omega arith
onto_size c (part ∷ parts) = omega arith

split_size : (p : ℕ → Bool) (text : List ℕ) → size_of (slice_split p text) ≤ length text
split_size p [] = omega arith
split_size p (c ∷ cs) = by_test (p c) (split_size p cs)
  where
    by_test : (b : Bool) → size_of (slice_split p cs) ≤ length cs → size_of (cond b ([] ∷ slice_split p cs) (onto_first c (slice_split p cs))) ≤ length (c ∷ cs)
    by_test true behind = omega (arith, behind)
    by_test false behind = omega (arith, behind, onto_size c (slice_split p cs))

last_size : (b : Bool) (piece : List ℕ) → size_of (cond b [] (piece ∷ [])) ≤ length piece
last_size true piece = omega arith
last_size false piece = omega arith

end_size : (pieces : List (List ℕ)) → size_of (without_empty_end pieces) ≤ size_of pieces
end_size [] = omega arith
end_size (piece ∷ []) = omega (arith, last_size (eqb (length piece) 0) piece)
end_size (piece ∷ next ∷ pieces) = omega (arith, end_size (next ∷ pieces))

decoded_by_test : (b : Bool) (hex bytes : List ℕ) → cond b (Err OddLength) (decode_pairs 0 hex) ≡ Ok bytes → decode_pairs 0 hex ≡ Ok bytes
decoded_by_test true hex bytes e = absurd cc
decoded_by_test false hex bytes e = e

-- the digits are twice as many as the bytes
pub decoded_len : (hex bytes : List ℕ) → decode_of hex ≡ Ok bytes → length hex ≡ 2 * length bytes
decoded_len hex bytes e = (decode_pairs-ok 0 hex bytes (decoded_by_test (eqb (length hex % 2) 1) hex bytes e)).1

-- and where there are digits, there are bytes
pub decoded_some : (hex bytes : List ℕ) → decode_of hex ≡ Ok bytes → hex ≢ [] → 0 < length bytes
decoded_some [] bytes e some = absurd (some refl)
decoded_some (c ∷ hex) bytes e some = omega (arith, decoded_len (c ∷ hex) bytes e)

feed_size : (piece : List ℕ) (session : ℕ) (bytes : List ℕ) → IsFeedLine (words_of piece) session bytes → length bytes ≤ length piece
feed_size piece session bytes h =
    let words : size_of (words_of piece) ≡ size_of (codes "bytes" ∷ decimal session ∷ h.hex ∷ []) = ap size_of h.spelled in
    omega (arith, words, split_size (λ byte. eqb byte 32) piece, decoded_len h.hex bytes h.digits)

taken_size : (b : Bool) (bytes : List ℕ) (n : ℕ) → length bytes ≤ n → length (cond b bytes []) ≤ n
taken_size true bytes n le = le
taken_size false bytes n le = omega arith

line_size : (s : ℕ) (piece : List ℕ) (line : Line) → IsLine piece line → length (bytes_in s line) ≤ length piece
line_size s piece (Topic name partitions followers least) h = omega arith
line_size s piece (Feed session bytes) h = taken_size (eqb session s) bytes (length piece) (feed_size piece session bytes h)
line_size s piece (Shut session) h = omega arith
line_size s piece (Clock t) h = omega arith
line_size s piece End h = omega arith

lines_size : (s : ℕ) (pieces : List (List ℕ)) (lines : List Line) → AllZip IsLine pieces lines → length (input_of s lines) ≤ size_of pieces
lines_size s [] [] h = omega arith
lines_size s [] (line ∷ lines) h = absurd h
lines_size s (piece ∷ pieces) [] h = absurd h
lines_size s (piece ∷ pieces) (line ∷ lines) h =
    omega (arith, length-append (bytes_in s line) (input_of s lines), line_size s piece line h.0, lines_size s pieces lines h.1)

pub few_bytes : (text : List ℕ) (lines : List Line) (s : ℕ) → IsTrace text lines → length (input_of s lines) ≤ MOST_TRACE_BYTES
few_bytes text lines s h =
    omega (arith, h.size, lines_size s (pieces_of text) lines h.spelled, end_size (slice_split (λ byte. eqb byte 10) text), split_size (λ byte. eqb byte 10) text)

named_there : (s session : ℕ) (rest : Bool) → session < MOST_SESSIONS → (rest ≡ true → s < MOST_SESSIONS) → (eqb session s || rest) ≡ true → s < MOST_SESSIONS
named_there s session rest lt later found =
    elim (or_cases (eqb session s) rest found) [
      | inl this ↦ omega (arith, lt, eqb-true session s this)
      | inr behind ↦ later behind
    ]

lines_named : (s : ℕ) (pieces : List (List ℕ)) (lines : List Line) → AllZip IsLine pieces lines → is_named s lines ≡ true → s < MOST_SESSIONS
lines_named s pieces [] h found = absurd cc
lines_named s [] (line ∷ lines) h found = absurd h
lines_named s (piece ∷ pieces) (Topic name partitions followers least ∷ lines) h found = lines_named s pieces lines h.1 found
lines_named s (piece ∷ pieces) (Feed session bytes ∷ lines) h found = named_there s session (is_named s lines) h.0.in_range (λ e. lines_named s pieces lines h.1 e) found
lines_named s (piece ∷ pieces) (Shut session ∷ lines) h found = named_there s session (is_named s lines) h.0.in_range (λ e. lines_named s pieces lines h.1 e) found
lines_named s (piece ∷ pieces) (Clock t ∷ lines) h found = lines_named s pieces lines h.1 found
lines_named s (piece ∷ pieces) (End ∷ lines) h found = lines_named s pieces lines h.1 found

pub few_sessions : (text : List ℕ) (lines : List Line) (s : ℕ) → IsTrace text lines → is_named s lines ≡ true → s < MOST_SESSIONS
few_sessions text lines s h found = lines_named s (pieces_of text) lines h.spelled found
