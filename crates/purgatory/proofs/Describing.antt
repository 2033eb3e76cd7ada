-- A pass that writes its operation down.
use Rattle.std.proofs.Common.{⊎_elim, ◌≡◌, ◌≢◌, ◌∙◌, ℕ, ◌+◌, ◌*◌, ◌^◌, ◌<◌, ◌≤◌, List, length, get_or, map, ap, refl, subst, sym, arith}
use Rattle.std.specs.Prelude.{All}
use Rattle.std.specs.List.{range_with_len}
use Rattle.std.proofs.lemmas.Bool.{cases_lt}
use Rattle.std.proofs.lemmas.List.{get_or_default, same_lists}
use Rattle.std.proofs.lemmas.List.FromFn.{get_or-map-range_with_len, length-map-range_with_len}
use Rattle.opcond.specs.declared.need.Need.{Need}
use Rattle.opcond.specs.Operation.{IsValid, Operation}
use Rattle.room_core.specs.declared.shape.Shape.{Shape}
use Rattle.room_core.specs.Described.{operation_of}
use Rattle.room_core.specs.Description.{IsOperation, need_of, needs_of}
use Rattle.room_core.specs.Gauges.{clock_of}
use Rattle.room_core.specs.State.{Caller}
use Rattle.room_core.proofs.Laws.{put_else, put_here}
use Rattle.room_table.specs.declared.part.CallerStep.{CallerStep}
use Rattle.room_table.specs.Seats.{CallerView, caller_did, caller_now}
use Rattle.purgatory.specs.Listed.{AreDescribed, Describes, HasWritten, HasWrittenNeed, IsDescribed, with_words}
use Rattle.purgatory.proofs.Goes.{goes_far, one_step, stays}

pub describes_same : (a : CallerView) → Describes a a
describes_same a = record { went = stays a; same = refl }

pub describes_far : (a b c : CallerView) → Describes a b → Describes b c → Describes a c
describes_far a b c g h = record {
  went = goes_far a b c g.went h.went;
  same = h.same ∙ ap (λ (x : Caller). with_words x (caller_now c).description) g.same;
}

-- a word is written
describes_one : (a b : CallerView) (at word : ℕ) → b ≡ caller_did a (CallerStep.Described at word) → Describes a b
describes_one a b at word e = record {
  went = one_step a b (CallerStep.Described at word) e;
  same = subst (λ (v : CallerView). caller_now v ≡ with_words (caller_now a) (caller_now v).description) (sym e) refl;
}

word_here : (a b : CallerView) (at word : ℕ) → b ≡ caller_did a (CallerStep.Described at word) → (caller_now b).description at ≡ word
word_here a b at word e = ap (λ (v : CallerView). (caller_now v).description at) e ∙ put_here (caller_now a).description at word

word_else : (a b : CallerView) (at word i : ℕ) → b ≡ caller_did a (CallerStep.Described at word) → i ≢ at → (caller_now b).description i ≡ (caller_now a).description i
word_else a b at word i e n = ap (λ (v : CallerView). (caller_now v).description i) e ∙ put_else (caller_now a).description at word i n

pub written_now : (a b c : CallerView) (at word : ℕ) → b ≡ a → c ≡ caller_did b (CallerStep.Described at word) → HasWritten at word a c
written_now a b c at word same e =
    let step : c ≡ caller_did a (CallerStep.Described at word) = e ∙ ap (λ (v : CallerView). caller_did v (CallerStep.Described at word)) same in
    record { describes = describes_one a c at word step; here = word_here a c at word step; others = λ i n. word_else a c at word i step n }

-- a word is there already
pub written_before : (a b : CallerView) (at word : ℕ) → b ≡ a → (caller_now a).description at ≡ word → HasWritten at word a b
written_before a b at word same is = subst (HasWritten at word a) (sym same) (record { describes = describes_same a; here = is; others = λ i n. refl })

-- the words of a need
pub need_written : (a b c d : CallerView) (at : ℕ) (need : Need) → HasWritten at need.gauge a b → HasWritten (at + 1) need.start b c → HasWritten (at + 2) need.cap c d → HasWrittenNeed at need a d
need_written a b c d at need first second third = record {
  describes = describes_far a c d (describes_far a b c first.describes second.describes) third.describes;
  gauge = third.others at (λ e. omega (arith, e)) ∙ second.others at (λ e. omega (arith, e)) ∙ first.here;
  start = third.others (at + 1) (λ e. omega (arith, e)) ∙ second.here;
  cap = third.here;
  before = λ i less.
      third.others i (λ e. omega (arith, e, less))
      ∙ second.others i (λ e. omega (arith, e, less))
      ∙ first.others i (λ e. omega (arith, e, less));
}

same_need : (a b : Need) → a.gauge ≡ b.gauge → a.start ≡ b.start → a.cap ≡ b.cap → a ≡ b
same_need a b gauge start cap = λ i. record { gauge = gauge i; start = start i; cap = cap i }

module _ (a b : CallerView) (n : ℕ) (need : Need) (w : HasWrittenNeed (3 + 3 * n) need a b) where
  abbrev was : ℕ → ℕ
  was = (caller_now a).description

  abbrev now : ℕ → ℕ
  now = (caller_now b).description

  need_here : need_of now n ≡ need
  need_here =
      let second : 4 + 3 * n ≡ 3 + 3 * n + 1 = omega arith in
      let third : 5 + 3 * n ≡ 3 + 3 * n + 2 = omega arith in
      same_need (need_of now n) need w.gauge (ap now second ∙ w.start) (ap now third ∙ w.cap)

  -- the needs before it stay
  need_before : (i : ℕ) → i < n → need_of now i ≡ need_of was i
  need_before i less =
      same_need (need_of now i) (need_of was i)
      (w.before (3 + 3 * i) (omega (arith, less)))
      (w.before (4 + 3 * i) (omega (arith, less)))
      (w.before (5 + 3 * i) (omega (arith, less)))

-- the first needs of a list, and one more
pub described_more : (needs : List Need) (a b : CallerView) (n : ℕ) (last : Need) → HasWrittenNeed (3 + 3 * n) (get_or needs n last) a b → n < length needs
    → AreDescribed needs n (caller_now a).description → AreDescribed needs (n + 1) (caller_now b).description
described_more needs a b n last w there before i d less =
    let need = get_or needs n last in
    ⊎_elim
    (λ (l : i < n). need_before a b n need w i l ∙ before i d l)
    (λ (m : n ≤ i).
    let same : i ≡ n = omega (arith, less, m) in
    ap (need_of (caller_now b).description) same ∙ need_here a b n need w ∙ get_or_default needs n last d there ∙ ap (λ k. get_or needs k d) (sym same))
    (cases_lt i n)

-- the operation that the words describe
pub operation_is : (op : Operation) (words : ℕ → ℕ) → IsDescribed op words → operation_of words ≡ op
operation_is op words is =
    let f = need_of words in
    let n = needs_of words in
    let count = is.count in
    let size = length-map-range_with_len f 0 n in
    let needs : map f (range_with_len 0 n) ≡ op.needs =
    same_lists (map f (range_with_len 0 n)) op.needs (size ∙ count)
    (λ k d less.
    let below : k < n = omega (arith, less, size) in
    get_or-map-range_with_len f 0 n k k d below (omega arith) ∙ is.needs k d (omega (arith, below, count))) in
    λ i. record { needs = needs i; least = is.least i; deadline = is.deadline i }

-- it is one that may be opened
pub may_open : (shape : Shape) (op : Operation) (words : ℕ → ℕ) → IsDescribed op words → IsValid op → All (λ (need : Need). need.gauge < clock_of shape) op.needs → IsOperation shape words
may_open shape op words is valid below =
    let count = is.count in
    let few = valid.few in
    let gauge = λ (i : ℕ) (less : i < needs_of words). ap (λ (need : Need). need.gauge) (is.needs i (need_of words i) (omega (arith, less, count))) in
    record {
      few = omega (arith, count, few);
      gauges = λ i less. subst (λ g. g < clock_of shape) (sym (gauge i less)) (below i (need_of words i) (omega (arith, less, count)));
      distinct = λ i j l m e.
          let d = need_of words i in
          valid.distinct i j d l (omega (arith, m, count))
          (sym (ap (λ (need : Need). need.gauge) (is.needs i d (omega (arith, l, m, count)))) ∙ e ∙ ap (λ (need : Need). need.gauge) (is.needs j d (omega (arith, m, count))));
      caps = λ i less. subst (λ c. c < 2 ^ 31) (sym (ap (λ (need : Need). need.cap) (is.needs i (need_of words i) (omega (arith, less, count))))) (valid.caps i (need_of words i) (omega (arith, less, count)));
      least = subst (λ n. n < 2 ^ 31) (sym is.least) valid.least;
    }
