-- The lines of some requests, one request after the other.
use Rattle.std.proofs.Common.{◌≡◌, ℕ, zero, suc, ◌+◌, ◌-◌, ◌<◌, List, [], ◌∷◌, ◌++◌, sym, ap, ◌∙◌, append_assoc, append-nil, arith}
use Rattle.std.proofs.lemmas.List.Concat.{flat_map-append}
use Rattle.std.specs.List.{flat_map, range_with_len}
use Rattle.trace_file.specs.declared.line.Line.{Line}
use Rattle.trace_file.specs.declared.line.Line.TheVariants.{End}
use Rattle.storm.specs.Generator.{state_after}
use Rattle.storm.specs.Places.{draws_of, draws_before}
use Rattle.storm.specs.Lines.{topic_line, feed_line, clock_lines, request_lines, lines_from, front_lines, storm_lines}
use Rattle.storm.proofs.Drawn.{drawn_more, none_drawn}

range_joined : (a m n : ℕ) → range_with_len a m ++ range_with_len (a + m) n ≡ range_with_len a (m + n)
range_joined a zero n =
    let from : a + 0 ≡ a = omega arith in
    let count : n ≡ 0 + n = omega arith in
    ap (λ (k : ℕ). range_with_len k n) from ∙ ap (range_with_len a) count
range_joined a (suc m) n =
    let from : a + suc m ≡ (a + 1) + m = omega arith in
    let count : suc (m + n) ≡ suc m + n = omega arith in
    ap (λ (k : ℕ). a ∷ range_with_len (a + 1) m ++ range_with_len k n) from ∙ ap (λ (xs : List ℕ). a ∷ xs) (range_joined (a + 1) m n) ∙ ap (range_with_len a) count

-- the lines of requests, and of those that come next
pub lines_joined : (seed n first count more : ℕ) → lines_from seed n first count ++ lines_from seed n (first + count) more ≡ lines_from seed n first (count + more)
lines_joined seed n first count more =
    sym (flat_map-append (request_lines seed n) (range_with_len first count) (range_with_len (first + count) more)) ∙ ap (flat_map (request_lines seed n)) (range_joined first count more)

-- the lines of the requests before one, and its own
pub lines_more : (seed n i : ℕ) → lines_from seed n 0 i ++ request_lines seed n i ≡ lines_from seed n 0 (i + 1)
lines_more seed n i =
    let here : 0 + i ≡ i = omega arith in
    let one : request_lines seed n i ≡ lines_from seed n (0 + i) 1 = sym (append-nil (request_lines seed n i)) ∙ ap (λ (k : ℕ). lines_from seed n k 1) (sym here) in
    ap (λ (xs : List Line). lines_from seed n 0 i ++ xs) one ∙ lines_joined seed n 0 i 1

-- what is kept of the lines and of the generator before a request
pub record IsBefore (seed n : ℕ) (start : List Line) (i : ℕ) (lines : List Line) (state : ℕ) : Type 0 where
  pub lines_are : lines ≡ start ++ lines_from seed n 0 i
  pub state_is : state ≡ state_after seed (draws_before i)

pub none_before : (seed n : ℕ) (start : List Line) (state : ℕ) → state ≡ seed → IsBefore seed n start 0 start state
none_before seed n start state is = record {
  lines_are = sym (append-nil start);
  state_is = is ∙ none_drawn seed;
}

pub one_more : (seed n : ℕ) (start : List Line) (i : ℕ) (lines fed clocked : List Line) (line : Line) (x y : ℕ) → IsBefore seed n start i lines x → line ≡ feed_line x i → y ≡ state_after x (draws_of i)
    → fed ≡ lines ++ line ∷ [] → clocked ≡ fed ++ clock_lines n i → IsBefore seed n start (i + 1) clocked y
one_more seed n start i lines fed clocked line x y before is drawn feeds clocks =
    let place : line ≡ feed_line (state_after seed (draws_before i)) i = is ∙ ap (λ (z : ℕ). feed_line z i) before.state_is in
    record {
      lines_are =
          clocks ∙ ap (λ (xs : List Line). xs ++ clock_lines n i) feeds ∙ append_assoc lines (line ∷ []) (clock_lines n i)
          ∙ ap (λ (z : Line). lines ++ (z ∷ clock_lines n i)) place
          ∙ ap (λ (xs : List Line). xs ++ request_lines seed n i) before.lines_are ∙ append_assoc start (lines_from seed n 0 i) (request_lines seed n i)
          ∙ ap (λ (xs : List Line). start ++ xs) (lines_more seed n i);
      state_is = drawn ∙ ap (λ (z : ℕ). state_after z (draws_of i)) before.state_is ∙ drawn_more seed i;
    }

-- the lines before a request, and its own
pub front_more : (seed n i : ℕ) → front_lines seed n i ++ request_lines seed n i ≡ front_lines seed n (i + 1)
front_more seed n i = ap (λ (xs : List Line). topic_line ∷ xs) (lines_more seed n i)

-- those behind it
abbrev pub lines_behind : ℕ → ℕ → ℕ → List Line
lines_behind seed n i = lines_from seed n (i + 1) (n - (i + 1)) ++ End ∷ []

pub storm_split : (seed n i : ℕ) → i < n → front_lines seed n i ++ (request_lines seed n i ++ lines_behind seed n i) ≡ storm_lines seed n
storm_split seed n i less =
    let rest = n - (i + 1) in
    let all : (i + 1) + rest ≡ n = omega (arith, less) in
    let from : i + 1 ≡ 0 + (i + 1) = omega arith in
    let behind : lines_from seed n 0 (i + 1) ++ lines_from seed n (i + 1) rest ≡ lines_from seed n 0 n =
    ap (λ (k : ℕ). lines_from seed n 0 (i + 1) ++ lines_from seed n k rest) from ∙ lines_joined seed n 0 (i + 1) rest ∙ ap (lines_from seed n 0) all in
    sym (append_assoc (front_lines seed n i) (request_lines seed n i) (lines_behind seed n i))
    ∙ ap (λ (xs : List Line). xs ++ lines_behind seed n i) (front_more seed n i)
    ∙ sym (append_assoc (front_lines seed n (i + 1)) (lines_from seed n (i + 1) rest) (End ∷ []))
    ∙ ap (λ (xs : List Line). (topic_line ∷ xs) ++ End ∷ []) behind
