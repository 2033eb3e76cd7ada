-- A pass that reads the gauges of its operation, and the clock.
use Rattle.std.proofs.Common.{⊎_elim, inl, ◌≡◌, ◌≢◌, ◌∙◌, ℕ, ◌+◌, ◌<◌, ◌≤◌, List, [], ◌∷◌, ◌++◌, Option, Some, cond, length, get_or, set, take, ap, refl, subst, sym, arith}
use Rattle.std.specs.Prelude.{AllPairs, IsSome}
use Rattle.std.proofs.lemmas.Bool.{cases_lt}
use Rattle.std.proofs.lemmas.List.{get_or_default, get_or-set_other, get_or-set_same, get_or-take, length-take-le, take_all, take_more, take_more_set}
use Rattle.opcond.specs.declared.need.Need.{Need}
use Rattle.opcond.specs.Operation.{Operation}
use Rattle.room_core.specs.declared.parts.Stage.{Stage}
use Rattle.room_core.specs.declared.parts.Stage.TheVariants.{Checking}
use Rattle.room_core.specs.Checks.{AreRead, is_checking}
use Rattle.room_core.specs.Description.{gauge_of, need_of}
use Rattle.room_core.specs.Put.{put}
use Rattle.room_core.specs.State.{Caller}
use Rattle.room_core.proofs.Laws.{put_else, put_here}
use Rattle.room_table.specs.declared.part.CallerStep.{CallerStep}
use Rattle.room_table.specs.Seats.{CallerView, caller_did, caller_now}
use Rattle.purgatory.specs.Listed.{AreTaken, HasReadAll, IsDescribed, Keeps}
use Rattle.purgatory.specs.Registered.{have_read}
use Rattle.purgatory.proofs.Goes.{keeps_by}

reads_more : (seat : CallerView) (needs : List Need) (values : List ℕ) (need : Need) (value : ℕ) → length needs ≡ length values
    → have_read seat (needs ++ need ∷ []) (values ++ value ∷ []) ≡ caller_did (have_read seat needs values) (CallerStep.Read need.gauge value)
reads_more seat [] [] need value e = refl
reads_more seat [] (v ∷ vs) need value e = absurd (omega (arith, e))
reads_more seat (n ∷ ns) [] need value e = absurd (omega (arith, e))
reads_more seat (n ∷ ns) (v ∷ vs) need value e = reads_more (caller_did seat (CallerStep.Read n.gauge v)) ns vs need value (omega (arith, e))

-- one need more
pub has_read_more : (old a b : CallerView) (needs : List Need) (values : List ℕ) (n value : ℕ) (d : Need) → n < length needs → n < length values
    → a ≡ have_read old (take n needs) (take n values) → b ≡ caller_did a (CallerStep.Read (get_or needs n d).gauge value)
    → b ≡ have_read old (take (n + 1) needs) (take (n + 1) (set values n value))
has_read_more old a b needs values n value d less few before e =
    let need = get_or needs n d in
    let same : length (take n needs) ≡ length (take n values) = length-take-le n needs (omega (arith, less)) ∙ sym (length-take-le n values (omega (arith, few))) in
    e ∙ ap (λ (v : CallerView). caller_did v (CallerStep.Read need.gauge value)) before
    ∙ sym (reads_more old (take n needs) (take n values) need value same)
    ∙ ap (λ xs. have_read old xs (take n values ++ value ∷ [])) (sym (take_more needs n d less))
    ∙ ap (have_read old (take (n + 1) needs)) (sym (take_more_set values n value few))

-- in a check a value that is read is a reading
reading_taken : (a b : CallerView) (gauge value : ℕ) → b ≡ caller_did a (CallerStep.Read gauge value) → (caller_now a).stage ≡ Checking
    → (caller_now b).readings ≡ put (caller_now a).readings gauge (Some value)
reading_taken a b gauge value e checking =
    let readings = (caller_now a).readings in
    ap (λ (v : CallerView). (caller_now v).readings) e
    ∙ ap (λ (s : Stage). cond (is_checking s) (put readings gauge (Some value)) readings) checking

pub reads_keep : (a b : CallerView) (gauge value : ℕ) → b ≡ caller_did a (CallerStep.Read gauge value) → Keeps a b
reads_keep a b gauge value e = keeps_by a b (CallerStep.Read gauge value) (record { generation = refl; description = refl; owed = refl; taken = refl }) e

pub reads_stage : (a b : CallerView) (gauge value : ℕ) → b ≡ caller_did a (CallerStep.Read gauge value) → (caller_now b).stage ≡ (caller_now a).stage
reads_stage a b gauge value e = ap (λ (v : CallerView). (caller_now v).stage) e

-- the readings of the first needs, and one more
pub taken_more : (a b : CallerView) (needs : List Need) (values : List ℕ) (n value : ℕ) (last : Need) → AllPairs (λ (x y : Need). x.gauge ≢ y.gauge) needs
    → n < length needs → n < length values → b ≡ caller_did a (CallerStep.Read (get_or needs n last).gauge value) → (caller_now a).stage ≡ Checking
    → AreTaken needs values n (caller_now a) → AreTaken needs (set values n value) (n + 1) (caller_now b)
taken_more a b needs values n value last distinct less few e checking before i d v l =
    let need = get_or needs n last in
    let readings = (caller_now a).readings in
    let now = reading_taken a b need.gauge value e checking in
    ⊎_elim
    (λ (lower : i < n).
    let other : (get_or needs i last).gauge ≢ need.gauge = distinct i n last lower less in
    let here : get_or needs i d ≡ get_or needs i last = get_or_default needs i d last (omega (arith, lower, less)) in
    ap (λ (x : Need). (caller_now b).readings x.gauge) here
    ∙ ap (λ (f : ℕ → Option ℕ). f (get_or needs i last).gauge) now
    ∙ put_else readings need.gauge (Some value) (get_or needs i last).gauge other
    ∙ before i last v lower
    ∙ ap (λ x. Some x) (sym (get_or-set_other values n i value v (λ same. omega (arith, same, lower)))))
    (λ (m : n ≤ i).
    let same : i ≡ n = omega (arith, l, m) in
    let here : get_or needs i d ≡ need = ap (λ k. get_or needs k d) same ∙ get_or_default needs n d last less in
    ap (λ (x : Need). (caller_now b).readings x.gauge) here
    ∙ ap (λ (f : ℕ → Option ℕ). f need.gauge) now
    ∙ put_here readings need.gauge (Some value)
    ∙ ap (λ x. Some x) (sym (ap (λ k. get_or (set values n value) k v) same ∙ get_or-set_same values n value v few)))
    (cases_lt i n)

-- all needs are read
pub has_read_all : (old a : CallerView) (needs : List Need) (values : List ℕ) → Keeps old a → (caller_now a).stage ≡ Checking → length needs ≤ length values
    → a ≡ have_read old (take (length needs) needs) (take (length needs) values) → AreTaken needs values (length needs) (caller_now a)
    → HasReadAll needs (take (length needs) values) old a
has_read_all old a needs values keeps checking few read taken = record {
  keeps = keeps;
  checking = checking;
  read = read ∙ ap (λ xs. have_read old xs (take (length needs) values)) (take_all (length needs) needs (omega arith));
  each = length-take-le (length needs) values few;
  taken = λ i d v less. taken i d v less ∙ ap (λ x. Some x) (sym (get_or-take (length needs) values i v less));
}

some_is : (o : Option ℕ) (v : ℕ) → o ≡ Some v → IsSome o
some_is o v e = subst (λ (x : Option ℕ). IsSome x) (sym e) refl

-- so the clock may be read last
pub are_read : (op : Operation) (values : List ℕ) (clock : ℕ) (caller : Caller) → IsDescribed op caller.description → AreTaken op.needs values (length op.needs) caller
    → AreRead caller.readings clock caller.description
are_read op values clock caller is taken i less =
    let count = is.count in
    let below : i < length op.needs = omega (arith, less, count) in
    let d = need_of caller.description i in
    let gauge : gauge_of caller.description i ≡ (get_or op.needs i d).gauge = ap (λ (x : Need). x.gauge) (is.needs i d below) in
    inl (subst (λ g. IsSome (caller.readings g)) (sym gauge) (some_is _ _ (taken i d 0 below)))
