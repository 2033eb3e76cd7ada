-- The lines of a load are in the order of a trace.
use Rattle.std.proofs.Common.{◌≡◌, ℕ, zero, suc, ◌+◌, ◌*◌, ◌/◌, ◌≤◌, Bool, true, false, List, [], ◌∷◌, ◌++◌, length, refl, sym, ap, subst, arith}
use Rattle.std.specs.Prelude.{codes, if◌then◌else◌}
use Rattle.std.specs.List.{All, AllPairs, flat_map, range_with_len}
use Rattle.std.proofs.lemmas.List.{length-append}
use Rattle.std.proofs.lemmas.List.Kept.{AllPairs-cons}
use Rattle.std.proofs.lemmas.List.Elements.{All-cons, All-weaker}
use Rattle.kwire.specs.Configuration.{IsNewTopic}
use Rattle.trace_file.specs.declared.line.Line.{Line}
use Rattle.trace_file.specs.declared.line.Line.TheVariants.{Topic, Feed, Shut, Clock, End}
use Rattle.trace_file.specs.IsInOrder.{IsTopic, MayFollow, IsInOrder}
use Rattle.trace_file.specs.Contents.{topic_in}
use Rattle.storm.specs.Places.{block_of}
use Rattle.storm.specs.Lines.{topic_line, feed_line, ends_block, request_lines, front_lines, storm_lines}

-- lines differ by their kinds
kind : Line → ℕ
kind (Topic name partitions followers least) = 0
kind (Feed session bytes) = 1
kind (Shut session) = 2
kind (Clock t) = 3
kind End = 4

moment : Line → ℕ
moment (Topic name partitions followers least) = 0
moment (Feed session bytes) = 0
moment (Shut session) = 0
moment (Clock t) = t
moment End = 0

-- bytes and moments that don't fall, and then the end
abbrev pub Goes : ℕ → List Line → Type 0
Goes m [] = ⊥
Goes m (Topic name partitions followers least ∷ lines) = ⊥
Goes m (Feed session bytes ∷ lines) = Goes m lines
Goes m (Shut session ∷ lines) = ⊥
Goes m (Clock t ∷ lines) = (m ≤ t) × Goes t lines
Goes m (End ∷ lines) = lines ≡ []

-- one of those lines
abbrev IsLater : ℕ → Line → Type 0
IsLater m (Topic name partitions followers least) = ⊥
IsLater m (Feed session bytes) = Unit {0}
IsLater m (Shut session) = ⊥
IsLater m (Clock t) = m ≤ t
IsLater m End = Unit {0}

later : (k m : ℕ) (lines : List Line) → k ≤ m → Goes m lines → All (IsLater k) lines
later k m [] le goes = absurd goes
later k m (Topic name partitions followers least ∷ lines) le goes = absurd goes
later k m (Feed session bytes ∷ lines) le goes = All-cons (IsLater k) (Feed session bytes) lines tt (later k m lines le goes)
later k m (Shut session ∷ lines) le goes = absurd goes
later k m (Clock t ∷ lines) le goes = All-cons (IsLater k) (Clock t) lines (omega (arith, le, goes.0)) (later k t lines (omega (arith, le, goes.0)) goes.1)
later k m (End ∷ lines) le goes = All-cons (IsLater k) End lines tt (subst (All (IsLater k)) (sym goes) (λ i d lt. absurd (omega (arith, lt))))

no_topic : (m : ℕ) (line : Line) → IsLater m line → IsTopic line → ⊥
no_topic m (Topic name partitions followers least) is topic = is
no_topic m (Feed session bytes) is topic = topic
no_topic m (Shut session) is topic = topic
no_topic m (Clock t) is topic = topic
no_topic m End is topic = topic

feed_first : (session : ℕ) (bytes : List ℕ) (line : Line) → IsLater 0 line → MayFollow (Feed session bytes) line
unfolding kind
feed_first session bytes line is = record {
  end_last = λ e. omega (arith, ap kind e);
  topics_first = λ topic. absurd (no_topic 0 line is topic);
  no_fall = λ t u e _. absurd (omega (arith, ap kind e));
  closed_once = λ s e _. omega (arith, ap kind e);
}

topic_first : (line : Line) → IsLater 0 line → MayFollow topic_line line
unfolding kind
topic_first line is = record {
  end_last = λ e. omega (arith, ap kind e);
  topics_first = λ topic. tt;
  no_fall = λ t u e _. absurd (omega (arith, ap kind e));
  closed_once = λ s e _. omega (arith, ap kind e);
}

clock_first : (m : ℕ) (line : Line) → IsLater m line → MayFollow (Clock m) line
unfolding kind moment
clock_first m line is = record {
  end_last = λ e. omega (arith, ap kind e);
  topics_first = λ topic. absurd (no_topic m line is topic);
  no_fall = λ t u e f. let after : m ≤ u = subst (IsLater m) f is in omega (arith, after, ap moment e);
  closed_once = λ s e _. omega (arith, ap kind e);
}

pairs : (m : ℕ) (lines : List Line) → Goes m lines → AllPairs MayFollow lines
pairs m [] goes = absurd goes
pairs m (Topic name partitions followers least ∷ lines) goes = absurd goes
pairs m (Feed session bytes ∷ lines) goes =
    AllPairs-cons MayFollow (Feed session bytes) lines
    (All-weaker (IsLater 0) (MayFollow (Feed session bytes)) (feed_first session bytes) lines (later 0 m lines (omega arith) goes)) (pairs m lines goes)
pairs m (Shut session ∷ lines) goes = absurd goes
pairs m (Clock t ∷ lines) goes =
    AllPairs-cons MayFollow (Clock t) lines (All-weaker (IsLater t) (MayFollow (Clock t)) (clock_first t) lines (later t t lines (omega arith) goes.1)) (pairs t lines goes.1)
pairs m (End ∷ lines) goes = subst (λ (xs : List Line). AllPairs MayFollow (End ∷ xs)) (sym goes) (λ i j d lt within. absurd (omega (arith, lt, within)))

-- ---- the lines of a load

with_clock : (b : Bool) (m t : ℕ) (lines after : List Line) → m ≤ t → Goes t (lines ++ after) → Goes m (lines ++ after) → Goes m (((if b then Clock t ∷ [] else []) ++ lines) ++ after)
with_clock true m t lines after le on still = (le, on)
with_clock false m t lines after le on still = still

goes_on : (seed n i k m : ℕ) → m ≤ 10 * (i / 16 + 1) → Goes m (flat_map (request_lines seed n) (range_with_len i k) ++ End ∷ [])
unfolding feed_line
goes_on seed n i zero m le = refl
goes_on seed n i (suc k) m le =
    with_clock (ends_block n i) m (10 * (block_of i + 1)) (flat_map (request_lines seed n) (range_with_len (i + 1) k)) (End ∷ []) le
    (goes_on seed n (i + 1) k (10 * (i / 16 + 1)) (omega arith)) (goes_on seed n (i + 1) k m (omega (arith, le)))

-- ---- its topic

no_more_topics : (m : ℕ) (front back : List Line) (name : List ℕ) (partitions followers least : ℕ) → Goes m (front ++ Topic name partitions followers least ∷ back) → ⊥
no_more_topics m [] back name partitions followers least goes = goes
no_more_topics m (Topic a b c d ∷ front) back name partitions followers least goes = goes
no_more_topics m (Feed a b ∷ front) back name partitions followers least goes = no_more_topics m front back name partitions followers least goes
no_more_topics m (Shut a ∷ front) back name partitions followers least goes = goes
no_more_topics m (Clock t ∷ front) back name partitions followers least goes = no_more_topics t front back name partitions followers least goes.1
no_more_topics m (End ∷ front) back name partitions followers least goes =
    omega (arith, ap length goes, length-append front (Topic name partitions followers least ∷ back))

pub storm_is_new : IsNewTopic [] (codes "storm") 8 1 1
storm_is_new = record {
  named = record {
    some = omega arith;
    short = omega arith;
    bytes = refl;
    no_dot = λ e. omega (arith, ap length e);
    no_dots = λ e. omega (arith, ap length e);
  };
  once = λ there. omega (arith, there.1);
  some = omega arith;
  few = omega arith;
  replicas = omega arith;
  in_sync = omega arith;
  enough = omega arith;
}

name_in : Line → List ℕ
name_in (Topic name partitions followers least) = name
name_in (Feed session bytes) = []
name_in (Shut session) = []
name_in (Clock t) = []
name_in End = []

counts_in : Line → ℕ × ℕ × ℕ
counts_in (Topic name partitions followers least) = (partitions, followers, least)
counts_in (Feed session bytes) = (0, 0, 0)
counts_in (Shut session) = (0, 0, 0)
counts_in (Clock t) = (0, 0, 0)
counts_in End = (0, 0, 0)

first_of : List Line → Line
first_of [] = End
first_of (line ∷ lines) = line

others_of : List Line → List Line
others_of [] = []
others_of (line ∷ lines) = lines

one_topic : (rest front back : List Line) (name : List ℕ) (partitions followers least : ℕ) → Goes 0 rest → topic_line ∷ rest ≡ front ++ Topic name partitions followers least ∷ back
    → IsNewTopic (flat_map topic_in front) name partitions followers least
unfolding name_in counts_in first_of others_of
one_topic rest [] back name partitions followers least goes e =
    let named : codes "storm" ≡ name = ap (λ (xs : List Line). name_in (first_of xs)) e in
    let counted : 8 ≡ partitions = ap (λ (xs : List Line). (counts_in (first_of xs)).0) e in
    let followed : 1 ≡ followers = ap (λ (xs : List Line). (counts_in (first_of xs)).1) e in
    let one : 1 ≡ least = ap (λ (xs : List Line). (counts_in (first_of xs)).2) e in
    subst (λ (k : List ℕ). IsNewTopic [] k partitions followers least) named
    (subst (λ (k : ℕ). IsNewTopic [] (codes "storm") k followers least) counted
    (subst (λ (k : ℕ). IsNewTopic [] (codes "storm") 8 k least) followed (subst (λ (k : ℕ). IsNewTopic [] (codes "storm") 8 1 k) one storm_is_new)))
one_topic rest (line ∷ front) back name partitions followers least goes e =
    absurd (no_more_topics 0 front back name partitions followers least (subst (Goes 0) (ap others_of e) goes))

pub load_in_order : (seed n : ℕ) → IsInOrder (storm_lines seed n)
load_in_order seed n =
    let rest = flat_map (request_lines seed n) (range_with_len 0 n) ++ End ∷ [] in
    let goes : Goes 0 rest = goes_on seed n 0 n 0 (omega arith) in record {
      pairs = AllPairs-cons MayFollow topic_line rest (All-weaker (IsLater 0) (MayFollow topic_line) topic_first rest (later 0 0 rest (omega arith) goes)) (pairs 0 rest goes);
      topics = λ front back name partitions followers least e. one_topic rest front back name partitions followers least goes e;
      before_end = front_lines seed n n;
      ended = refl;
    }
