-- What a pass keeps beside its seat, after a step.
use Rattle.std.proofs.Common.{⊎_elim, ◌≡◌, ◌≢◌, ◌∙◌, ℕ, ◌+◌, ◌<◌, ◌≤◌, List, length, get_or, set, cond, ap, refl, subst, sym, arith}
use Rattle.std.specs.Prelude.{true, false, max, nat_le}
use Rattle.std.proofs.lemmas.Bool.{cases_eq, cond-true, cond-false, le-leb, lt-leb}
use Rattle.std.proofs.lemmas.List.{get_or-set_other, get_or-set_same, get_or_past, length-set}
use Rattle.room_core.specs.Gauges.{IsPass}
use Rattle.room_core.specs.Put.{put}
use Rattle.room_core.specs.State.{Caller}
use Rattle.room_core.proofs.Laws.{put_else, put_here}
use Rattle.room_table.specs.declared.part.CallerStep.{CallerStep}
use Rattle.room_table.specs.Seats.{CallerView, caller_did, caller_now}
use Rattle.purgatory.specs.Going.{OwesElse}
use Rattle.purgatory.specs.Owned.{IsCounted, IsOwner, unsettled, untaken}
use Rattle.purgatory.specs.Paying.{Pays}
use Rattle.purgatory.proofs.Goes.{kept_same, one_step, stays}

module _ (number generation wins taken : ℕ) (owed : List ℕ) (a b : CallerView) (step : CallerStep) (i : IsOwner number generation wins taken owed a) (e : b ≡ caller_did a step) where
  there_still : IsPass b.table.shape b.pass
  there_still =
      let there = i.there in
      let passes : b.table.shape.passes ≡ a.table.shape.passes = ap (λ (v : CallerView). v.table.shape.passes) e in
      let pass : b.pass ≡ a.pass = ap (λ (v : CallerView). v.pass) e in
      omega (arith, there, passes, pass)

  few_still : b.table.shape.gauges ≤ 193
  few_still =
      let few = i.few in
      let same : b.table.shape.gauges ≡ a.table.shape.gauges = ap (λ (v : CallerView). v.table.shape.gauges) e in
      omega (arith, few, same)

-- the counts where nothing was won or taken
counts_kept : (wins taken : ℕ) (a b : Caller) → b.generation ≡ a.generation → b.stage ≡ a.stage → b.wins ≡ a.wins → b.taken ≡ a.taken → IsCounted wins taken a → IsCounted wins taken b
counts_kept wins taken a b generation stage won took h = record {
  wins_are = h.wins_are ∙ sym (ap (λ xs. length xs) won);
  taken_are = h.taken_are ∙ sym (ap (λ xs. length xs) took);
  few_wins = subst (λ n. wins + unsettled b.stage ≤ n) (sym generation) (subst (λ s. wins + unsettled s ≤ a.generation) (sym stage) h.few_wins);
  all_taken = subst (λ n. taken + untaken b.stage ≡ n) (sym generation) (subst (λ s. taken + untaken s ≡ a.generation) (sym stage) h.all_taken);
}

counts_step : (wins taken : ℕ) (a b : CallerView) (step : CallerStep) → b ≡ caller_did a step → IsCounted wins taken (caller_now (caller_did a step)) → IsCounted wins taken (caller_now b)
counts_step wins taken a b step e h = subst (λ (v : CallerView). IsCounted wins taken (caller_now v)) (sym e) h

-- a list with a value given anew, beside the table
set_put : (f : ℕ → ℕ) (xs : List ℕ) (at x : ℕ) → at < length xs → ((i : ℕ) → get_or xs i 0 ≡ f i) → (i : ℕ) → get_or (set xs at x) i 0 ≡ put f at x i
set_put f xs at x less same i =
    ⊎_elim
    (λ (here : i ≡ at). ap (λ j. get_or (set xs at x) j 0) here ∙ get_or-set_same xs at x 0 less ∙ sym (ap (put f at x) here ∙ put_here f at x))
    (λ (n : i ≢ at). get_or-set_other xs at i x 0 n ∙ same i ∙ sym (put_else f at x i n))
    (cases_eq i at)

-- a step that gives one debt anew
pub owner_owes : (number generation wins taken : ℕ) (owed : List ℕ) (a b : CallerView) (step : CallerStep) (gauge debt : ℕ) → IsOwner number generation wins taken owed a → b ≡ caller_did a step
    → (caller_now (caller_did a step)).generation ≡ (caller_now a).generation → (caller_now (caller_did a step)).owed ≡ put (caller_now a).owed gauge debt
    → gauge < length owed → IsCounted wins taken (caller_now (caller_did a step)) → IsOwner number generation wins taken (set owed gauge debt) b
owner_owes number generation wins taken owed a b step gauge debt i e same debts less counts = record {
  number_is = i.number_is ∙ sym (ap (λ (v : CallerView). v.pass) e);
  there = there_still number generation wins taken owed a b step i e;
  generation_is = i.generation_is ∙ sym same ∙ sym (ap (λ (v : CallerView). (caller_now v).generation) e);
  counts = subst (λ (v : CallerView). IsCounted wins taken (caller_now v)) (sym e) counts;
  few = few_still number generation wins taken owed a b step i e;
  size = length-set owed gauge debt ∙ i.size ∙ sym (ap (λ (v : CallerView). v.table.shape.gauges) e);
  owes = λ g. set_put (caller_now a).owed owed gauge debt less i.owes g ∙ sym (ap (λ (f : ℕ → ℕ). f g) debts) ∙ sym (ap (λ (v : CallerView). (caller_now v).owed g) e);
}

-- the pass asks for a scan up to a value
pub owner_asks : (number generation wins taken : ℕ) (owed : List ℕ) (a b : CallerView) (gauge value debt : ℕ) → IsOwner number generation wins taken owed a → b ≡ caller_did a (CallerStep.Asked gauge value)
    → debt ≡ max (get_or owed gauge 0) value → gauge < length owed → IsOwner number generation wins taken (set owed gauge debt) b
owner_asks number generation wins taken owed a b gauge value debt i e is less =
    owner_owes number generation wins taken owed a b (CallerStep.Asked gauge value) gauge debt i e refl
    (ap (λ n. put (caller_now a).owed gauge (max n value)) (sym (i.owes gauge)) ∙ ap (put (caller_now a).owed gauge) (sym is)) less (counts_kept wins taken (caller_now a) (caller_now (caller_did a (CallerStep.Asked gauge value))) refl refl refl refl i.counts)

put_same : (f : ℕ → ℕ) (at i : ℕ) → put f at (f at) i ≡ f i
put_same f at i =
    ⊎_elim
    (λ (here : i ≡ at). ap (put f at (f at)) here ∙ put_here f at (f at) ∙ sym (ap f here))
    (λ (n : i ≢ at). put_else f at (f at) i n)
    (cases_eq i at)

-- what the other gauges are owed stays where one debt is looked at
pub relieves_others : (a b : CallerView) (gauge begun : ℕ) → b ≡ caller_did a (CallerStep.Relieved gauge begun) → OwesElse gauge (caller_now a) (caller_now b)
relieves_others a b gauge begun e other n =
    let debt = (caller_now a).owed gauge in
    ap (λ (v : CallerView). (caller_now v).owed other) e ∙ put_else (caller_now a).owed gauge (cond (nat_le debt begun) 0 debt) other n

pub relieves : (a b : CallerView) (gauge begun : ℕ) → b ≡ caller_did a (CallerStep.Relieved gauge begun) → Pays gauge a b
relieves a b gauge begun e = record {
  went = one_step a b (CallerStep.Relieved gauge begun) e;
  kept = record {
    generation = ap (λ (v : CallerView). (caller_now v).generation) e;
    description = ap (λ (v : CallerView). (caller_now v).description) e;
    stage = ap (λ (v : CallerView). (caller_now v).stage) e;
    wins = ap (λ (v : CallerView). (caller_now v).wins) e;
    taken = ap (λ (v : CallerView). (caller_now v).taken) e;
  };
  others = relieves_others a b gauge begun e;
}

pub pays_none : (a : CallerView) (gauge : ℕ) → Pays gauge a a
pays_none a gauge = record { went = stays a; kept = kept_same (caller_now a); others = λ other n. refl }

-- a debt that no scan has paid stays
pub owner_still : (number generation wins taken : ℕ) (owed : List ℕ) (a b : CallerView) (gauge begun : ℕ) → IsOwner number generation wins taken owed a
    → b ≡ caller_did a (CallerStep.Relieved gauge begun) → begun < get_or owed gauge 0 → IsOwner number generation wins taken owed b
owner_still number generation wins taken owed a b gauge begun i e more =
    let step = CallerStep.Relieved gauge begun in
    let debt = (caller_now a).owed gauge in
    let is = i.owes gauge in
    let test : nat_le debt begun ≡ false = lt-leb debt begun (omega (arith, is, more)) in
    record {
      number_is = i.number_is ∙ sym (ap (λ (v : CallerView). v.pass) e);
      there = there_still number generation wins taken owed a b step i e;
      generation_is = i.generation_is ∙ sym (ap (λ (v : CallerView). (caller_now v).generation) e);
      counts = counts_step wins taken a b step e (counts_kept wins taken (caller_now a) (caller_now (caller_did a step)) refl refl refl refl i.counts);
      few = few_still number generation wins taken owed a b step i e;
      size = i.size ∙ sym (ap (λ (v : CallerView). v.table.shape.gauges) e);
      owes = λ g.
          i.owes g ∙ sym (put_same (caller_now a).owed gauge g)
          ∙ ap (λ d. put (caller_now a).owed gauge d g) (sym (cond-false (nat_le debt begun) 0 debt test))
          ∙ sym (ap (λ (v : CallerView). (caller_now v).owed g) e);
    }

-- a debt that a scan has paid is gone
pub owner_paid : (number generation wins taken : ℕ) (owed : List ℕ) (a b : CallerView) (gauge begun : ℕ) → IsOwner number generation wins taken owed a
    → b ≡ caller_did a (CallerStep.Relieved gauge begun) → get_or owed gauge 0 ≤ begun → gauge < length owed → IsOwner number generation wins taken (set owed gauge 0) b
owner_paid number generation wins taken owed a b gauge begun i e paid less =
    let debt = (caller_now a).owed gauge in
    let is = i.owes gauge in
    let test : nat_le debt begun ≡ true = le-leb debt begun (omega (arith, is, paid)) in
    owner_owes number generation wins taken owed a b (CallerStep.Relieved gauge begun) gauge 0 i e refl
    (ap (λ d. put (caller_now a).owed gauge d) (cond-true (nat_le debt begun) 0 debt test)) less
    (counts_kept wins taken (caller_now a) (caller_now (caller_did a (CallerStep.Relieved gauge begun))) refl refl refl refl i.counts)

pub relieves_paid : (number generation wins taken : ℕ) (owed : List ℕ) (a b : CallerView) (gauge begun : ℕ) → IsOwner number generation wins taken owed a
    → b ≡ caller_did a (CallerStep.Relieved gauge begun) → get_or owed gauge 0 ≤ begun → (caller_now b).owed gauge ≡ 0
relieves_paid number generation wins taken owed a b gauge begun i e paid =
    let debt = (caller_now a).owed gauge in
    let is = i.owes gauge in
    let test : nat_le debt begun ≡ true = le-leb debt begun (omega (arith, is, paid)) in
    ap (λ (v : CallerView). (caller_now v).owed gauge) e ∙ put_here (caller_now a).owed gauge (cond (nat_le debt begun) 0 debt) ∙ cond-true (nat_le debt begun) 0 debt test

-- nothing is owed past the gauges
pub owes_past : (number generation wins taken : ℕ) (owed : List ℕ) (a : CallerView) → IsOwner number generation wins taken owed a → (gauge : ℕ) → length owed ≤ gauge → (caller_now a).owed gauge ≡ 0
owes_past number generation wins taken owed a i gauge past = sym (i.owes gauge) ∙ get_or_past owed gauge 0 past

-- a value that was read may be asked for
pub may_ask : (a b : CallerView) (gauge value : ℕ) → b ≡ caller_did a (CallerStep.Read gauge value)
    → value ≤ (caller_now b).greatest gauge
may_ask a b gauge value e =
    let greatest = (caller_now a).greatest in
    let is : (caller_now b).greatest gauge ≡ max (greatest gauge) value =
    ap (λ (v : CallerView). (caller_now v).greatest gauge) e ∙ put_here greatest gauge (max (greatest gauge) value) in
    omega (arith, is)

-- a value that is read leaves what is owed
pub owner_reads : (number generation wins taken : ℕ) (owed : List ℕ) (a b : CallerView) (gauge value : ℕ) → IsOwner number generation wins taken owed a → b ≡ caller_did a (CallerStep.Read gauge value) → IsOwner number generation wins taken owed b
owner_reads number generation wins taken owed a b gauge value i e =
    let step = CallerStep.Read gauge value in
    record {
      number_is = i.number_is ∙ sym (ap (λ (v : CallerView). v.pass) e);
      there = there_still number generation wins taken owed a b step i e;
      generation_is = i.generation_is ∙ sym (ap (λ (v : CallerView). (caller_now v).generation) e);
      counts = counts_step wins taken a b step e (counts_kept wins taken (caller_now a) (caller_now (caller_did a step)) refl refl refl refl i.counts);
      few = few_still number generation wins taken owed a b step i e;
      size = i.size ∙ sym (ap (λ (v : CallerView). v.table.shape.gauges) e);
      owes = λ g. i.owes g ∙ sym (ap (λ (v : CallerView). (caller_now v).owed g) e);
    }

-- a step that leaves what is owed
pub owner_steps : (number generation wins taken later won took : ℕ) (owed : List ℕ) (a b : CallerView) (step : CallerStep) → IsOwner number generation wins taken owed a → b ≡ caller_did a step
    → later ≡ (caller_now (caller_did a step)).generation → (caller_now (caller_did a step)).owed ≡ (caller_now a).owed → IsCounted won took (caller_now (caller_did a step))
    → IsOwner number later won took owed b
owner_steps number generation wins taken later won took owed a b step i e is same counts = record {
  number_is = i.number_is ∙ sym (ap (λ (v : CallerView). v.pass) e);
  there = there_still number generation wins taken owed a b step i e;
  generation_is = is ∙ sym (ap (λ (v : CallerView). (caller_now v).generation) e);
  counts = counts_step won took a b step e counts;
  few = few_still number generation wins taken owed a b step i e;
  size = i.size ∙ sym (ap (λ (v : CallerView). v.table.shape.gauges) e);
  owes = λ g. i.owes g ∙ sym (ap (λ (f : ℕ → ℕ). f g) same) ∙ sym (ap (λ (v : CallerView). (caller_now v).owed g) e);
}
