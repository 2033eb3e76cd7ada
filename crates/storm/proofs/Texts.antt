-- The text of a load: its lines are read back, and it isn't too long.
use Rattle.std.proofs.Common.{◌≡◌, ℕ, zero, suc, ◌+◌, ◌*◌, ◌<◌, ◌≤◌, Bool, true, false, List, [], ◌∷◌, ◌++◌, length, sym, ap, subst, ◌∙◌, arith}
use Rattle.std.specs.Prelude.{if◌then◌else◌}
use Rattle.std.specs.List.{flat_map, range_with_len, AllByRecursion, AllZip}
use Rattle.std.specs.Fmt.{decimal}
use Rattle.std.proofs.lemmas.Fmt.{length-decimal-le}
use Rattle.std.proofs.lemmas.List.{length-append}
use Rattle.std.proofs.lemmas.List.Concat.{flat_map-append}
use Rattle.hex.specs.Hex.{encode_lower, lower_digits}
use Rattle.hex.proofs.HexLemmas.{length-encode_with}
use Rattle.kbytes.proofs.Laws.{all_append}
use Rattle.trace_file.specs.declared.line.Line.{Line}
use Rattle.trace_file.specs.declared.line.Line.TheVariants.{Feed, Clock, End}
use Rattle.trace_file.specs.IsLine.{IsLine}
use Rattle.trace_file.specs.PrintedLine.{text_of, IsWritable}
use Rattle.trace_file.specs.Trace.{pieces_of, IsTrace}
use Rattle.storm.specs.Generator.{state_after}
use Rattle.storm.specs.Places.{block_of, session_of, draws_before}
use Rattle.storm.specs.Lines.{topic_line, frame_from, feed_line, ends_block, clock_lines, request_lines, storm_lines}
use Rattle.storm.proofs.Frames.{frame_short}
use Rattle.storm.proofs.Ordered.{load_in_order, storm_is_new}

abbrev text_all : List Line → List ℕ
text_all lines = flat_map text_of lines

-- ---- each line is read back

-- what the law of written lines says
abbrev pub IsReadBack : Type 0
IsReadBack = (line : Line) (rest : List ℕ) → IsWritable line → (piece : List ℕ) × IsLine piece line × (pieces_of (text_of line ++ rest) ≡ piece ∷ pieces_of rest)

all_spelled : IsReadBack → (lines : List Line) → AllByRecursion IsWritable lines → AllZip IsLine (pieces_of (text_all lines)) lines
all_spelled back [] all = tt
all_spelled back (line ∷ lines) all =
    let here = back line (text_all lines) all.0 in
    subst (λ (pieces : List (List ℕ)). AllZip IsLine pieces (line ∷ lines)) (sym here.2) (here.1, all_spelled back lines all.1)

clock_writable : (b : Bool) (t : ℕ) → t ≤ 1000000000000000 → AllByRecursion IsWritable (if b then Clock t ∷ [] else [])
clock_writable true t le = (le, tt)
clock_writable false t le = tt

one_writable : (seed n i : ℕ) → i < 200000 → AllByRecursion IsWritable (request_lines seed n i)
unfolding feed_line
one_writable seed n i few =
    let short = frame_short (state_after seed (draws_before i)) i few in
    ((omega arith, short.some, short.bytes), clock_writable (ends_block n i) (10 * (block_of i + 1)) (omega (arith, few)))

requests_writable : (seed n i k : ℕ) → i + k ≤ 200000 → AllByRecursion IsWritable (flat_map (request_lines seed n) (range_with_len i k))
requests_writable seed n i zero le = tt
requests_writable seed n i (suc k) le =
    all_append IsWritable (request_lines seed n i) (flat_map (request_lines seed n) (range_with_len (i + 1) k)) (one_writable seed n i (omega (arith, le))) (requests_writable seed n (i + 1) k (omega (arith, le)))

load_writable : (seed n : ℕ) → n ≤ 200000 → AllByRecursion IsWritable (storm_lines seed n)
load_writable seed n le = (
  (storm_is_new.named, omega arith, omega arith, omega arith, omega arith),
  all_append IsWritable (flat_map (request_lines seed n) (range_with_len 0 n)) (End ∷ []) (requests_writable seed n 0 n (omega (arith, le))) (tt, tt),
)

-- ---- its size

feed_size : (session : ℕ) (bytes : List ℕ) → session < 100 → length bytes ≤ 129 → length (text_of (Feed session bytes)) ≤ 268
feed_size session bytes few short =
    let digits : length (decimal session) ≤ 2 = length-decimal-le 2 session (omega arith) (omega (arith, few)) (omega (arith, few)) in
    omega (arith, short, digits, length-encode_with lower_digits bytes, length-append (encode_lower bytes) (10 ∷ []), length-append (decimal session) (32 ∷ (encode_lower bytes ++ 10 ∷ [])))

clock_size : (b : Bool) (t : ℕ) → t < 1000000 → length (text_all (if b then Clock t ∷ [] else [])) ≤ 13
clock_size true t few =
    let digits : length (decimal t) ≤ 6 = length-decimal-le 6 t (omega arith) (omega (arith, few)) (omega (arith, few)) in
    omega (arith, digits, length-append (decimal t) (10 ∷ []), length-append (text_of (Clock t)) [])
clock_size false t few = omega arith

one_size : (seed n i : ℕ) → i < 200000 → length (text_all (request_lines seed n i)) ≤ 281
unfolding feed_line
one_size seed n i few =
    let short = frame_short (state_after seed (draws_before i)) i few in
    let feed = feed_size (session_of i) (frame_from (state_after seed (draws_before i)) i) (omega arith) short.most in
    let clock = clock_size (ends_block n i) (10 * (block_of i + 1)) (omega (arith, few)) in
    omega (arith, feed, clock, length-append (text_of (Feed (session_of i) (frame_from (state_after seed (draws_before i)) i))) (text_all (clock_lines n i)))

requests_size : (seed n i k : ℕ) → i + k ≤ 200000 → length (text_all (flat_map (request_lines seed n) (range_with_len i k))) ≤ 281 * k
requests_size seed n i zero le = omega arith
requests_size seed n i (suc k) le =
    let more = flat_map (request_lines seed n) (range_with_len (i + 1) k) in
    let parts : length (text_all (request_lines seed n i ++ more)) ≡ length (text_all (request_lines seed n i)) + length (text_all more) =
    ap length (flat_map-append text_of (request_lines seed n i) more) ∙ length-append (text_all (request_lines seed n i)) (text_all more) in
    omega (arith, parts, one_size seed n i (omega (arith, le)), requests_size seed n (i + 1) k (omega (arith, le)))

topic_size : length (text_of topic_line) ≤ 16
topic_size =
    let partitions : length (decimal 8) ≤ 1 = length-decimal-le 1 8 (omega arith) (omega arith) (omega arith) in
    let followers : length (decimal 1) ≤ 1 = length-decimal-le 1 1 (omega arith) (omega arith) (omega arith) in
    omega (arith, partitions, followers, length-append (decimal 8) (32 ∷ (decimal 1 ++ 10 ∷ [])), length-append (decimal 1) (10 ∷ []))

load_size : (seed n : ℕ) → n ≤ 200000 → length (text_all (storm_lines seed n)) ≤ 67108864
load_size seed n le =
    let requests = flat_map (request_lines seed n) (range_with_len 0 n) in
    let all : length (text_all (storm_lines seed n)) ≡ length (text_of topic_line) + length (text_all (requests ++ End ∷ [])) = length-append (text_of topic_line) (text_all (requests ++ End ∷ [])) in
    let parts : length (text_all (requests ++ End ∷ [])) ≡ length (text_all requests) + 4 = ap length (flat_map-append text_of requests (End ∷ [])) ∙ length-append (text_all requests) (text_all (End ∷ [])) in
    omega (arith, le, all, parts, topic_size, requests_size seed n 0 n (omega (arith, le)))

pub load_is_trace : IsReadBack → (seed n : ℕ) → n ≤ 200000 → IsTrace (text_all (storm_lines seed n)) (storm_lines seed n)
load_is_trace back seed n le = record {
  size = load_size seed n le;
  spelled = all_spelled back (storm_lines seed n) (load_writable seed n le);
  order = load_in_order seed n;
}
