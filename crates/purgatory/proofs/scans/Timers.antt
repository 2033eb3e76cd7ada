-- The timers of the wheels: one that is put, and those that come out.
use Rattle.std.proofs.Common.{⊎_elim, inl, inr, ◌≡◌, ◌≢◌, ◌∙◌, ◌↔◌, ◌⊎◌, ℕ, ◌+◌, ◌-◌, ◌^◌, ◌<◌, ◌≤◌, Bool, true, false, List, Option, Some, None, min, get_or, length, option_map, ap, refl, subst, sym, arith}
use Rattle.std.specs.Prelude.{IsSomeAnd, IsTrue, replicate}
use Rattle.std.specs.Bool.{OnFalse, OnTrue}
use Rattle.std.proofs.lemmas.Bool.{cases_lt, false≢true}
use Rattle.std.proofs.lemmas.List.{get_or-replicate, get_or-set_other, get_or-set_same, get_or_past, length-replicate, length-set}
use Rattle.room_core.specs.declared.parts.Entry.{Entry}
use Rattle.timing_wheel.specs.declared.timer.Timer.{Timer}
use Rattle.timing_wheel.specs.Timers.{Timers, deadline_of, ids_of, with_entry}
use Rattle.purgatory.specs.scans.Timing.{HasTimer, IsTimed, farthest}

abbrev deadline_in : Option Timer → Option ℕ
deadline_in o = option_map (λ (t : Timer). t.deadline) o

-- one that is put, or taken out

timer_here : (w : Timers) (id : ℕ) (o : Option Timer) → id < ids_of w → deadline_of (with_entry w id o) id ≡ deadline_in o
timer_here w id o less = ap deadline_in (get_or-set_same w.slots id o None less)

timer_else : (w : Timers) (id other : ℕ) (o : Option Timer) → other ≢ id → deadline_of (with_entry w id o) other ≡ deadline_of w other
timer_else w id other o n = ap deadline_in (get_or-set_other w.slots id other o None n)

module _ (w new : Timers) (id : ℕ) (out : new ≡ with_entry w id None) where
  pub out_moment : new.moment ≡ w.moment
  out_moment = ap (λ (t : Timers). t.moment) out

  pub out_ids : ids_of new ≡ ids_of w
  out_ids = ap ids_of out ∙ length-set w.slots id None

  pub out_here : id < ids_of w → deadline_of new id ≡ None
  out_here less = ap (λ (t : Timers). deadline_of t id) out ∙ timer_here w id None less

  pub out_else : (other : ℕ) → other ≢ id → deadline_of new other ≡ deadline_of w other
  out_else other n = ap (λ (t : Timers). deadline_of t other) out ∙ timer_else w id other None n

-- put by a call that says whether it lists the id
abbrev WasPut : Timers → Timers → ℕ → ℕ → Type 0
WasPut w new id reach = (w.moment < reach) × (new ≡ with_entry w id (Some (record { deadline = reach; put = w.moment })))

abbrev WasRefused : Timers → Timers → ℕ → ℕ → Type 0
WasRefused w new id reach = (reach ≤ w.moment) × (new ≡ with_entry w id None)

pub put_or_not : (b : Bool) (w new : Timers) (id reach : ℕ) → (IsTrue b ↔ (w.moment < reach))
    → OnTrue b (new ≡ with_entry w id (Some (record { deadline = reach; put = w.moment }))) → OnFalse b (new ≡ with_entry w id None)
    → WasPut w new id reach ⊎ WasRefused w new id reach
put_or_not true w new id reach l e n = inl (l.0 refl, e)
put_or_not false w new id reach l e n =
    ⊎_elim
    (λ (less : w.moment < reach). absurd (false≢true (l.1 less)))
    (λ (more : reach ≤ w.moment). inr (more, n))
    (cases_lt w.moment reach)

module _ (w new : Timers) (id deadline reach : ℕ) (put : WasPut w new id reach ⊎ WasRefused w new id reach) where
  pub put_moment : new.moment ≡ w.moment
  put_moment =
      ⊎_elim
      (λ (p : WasPut w new id reach). ap (λ (t : Timers). t.moment) p.1)
      (λ (p : WasRefused w new id reach). out_moment w new id p.1)
      put

  pub put_ids : ids_of new ≡ ids_of w
  put_ids =
      ⊎_elim
      (λ (p : WasPut w new id reach). ap ids_of p.1 ∙ length-set w.slots id _)
      (λ (p : WasRefused w new id reach). out_ids w new id p.1)
      put

  pub put_else : (other : ℕ) → other ≢ id → deadline_of new other ≡ deadline_of w other
  put_else other n =
      ⊎_elim
      (λ (p : WasPut w new id reach). ap (λ (t : Timers). deadline_of t other) p.1 ∙ timer_else w id other _ n)
      (λ (p : WasRefused w new id reach). out_else w new id p.1 other n)
      put

  pub put_timed : id < ids_of w → reach ≡ min deadline (w.moment + farthest) → HasTimer w.moment deadline (deadline_of new id)
  put_timed there is =
      ⊎_elim
      (λ (p : WasPut w new id reach).
      subst (HasTimer w.moment deadline) (sym (ap (λ (t : Timers). deadline_of t id) p.1 ∙ timer_here w id _ there))
      (record { later = p.0; in_time = omega (arith, is) }))
      (λ (p : WasRefused w new id reach).
      let few = p.0 in
      subst (HasTimer w.moment deadline) (sym (out_here w new id p.1 there)) (omega (arith, few, is)))
      put

-- those that come out by a moment

none_new : (new : Option ℕ) → ((d : ℕ) → new ≡ Some d → ⊥) → new ≡ None
none_new None n = refl
none_new (Some d) n = absurd (n d refl)

no_number : (d : ℕ) → None ≡ Some d → ⊥
no_number d e = absurd (cc)

number_same : (d e : ℕ) → Some d ≡ Some e → d ≡ e
number_same d e same = cc

module _ (t : ℕ) (old new : Option ℕ) (others : (d : ℕ) → (new ≡ Some d) ↔ ((old ≡ Some d) × (t < d))) where
  none_left : old ≡ None → new ≡ None
  none_left none = none_new new (λ d e. no_number d (sym none ∙ ((others d).0 e).0))

  pub comes_out : (d : ℕ) → old ≡ Some d → d ≤ t → new ≡ None
  comes_out d is due = none_new new (λ other e.
      let was = (others other).0 e in
      let same = number_same d other (sym is ∙ was.0) in
      let less = was.1 in
      omega (arith, same, less, due))

  some_left : (d : ℕ) → old ≡ Some d → t < d → new ≡ Some d
  some_left d is late = (others d).1 (is, late)

pub stays_timed : (m t : ℕ) (entry : Option Entry) (old new : Option ℕ) → m ≤ t → ((d : ℕ) → (new ≡ Some d) ↔ ((old ≡ Some d) × (t < d)))
    → IsTimed m entry old → ((d : ℕ) → old ≡ Some d → t < d) → IsTimed t entry new
stays_timed m t None old new later others timed late = none_left t old new others timed
stays_timed m t (Some entry) None new later others timed late =
    subst (HasTimer t entry.deadline) (sym (none_left t None new others refl)) (omega (arith, timed, later))
stays_timed m t (Some entry) (Some d) new later others timed late =
    subst (HasTimer t entry.deadline) (sym (some_left t (Some d) new others d refl (late d refl))) (record { later = late d refl; in_time = timed.in_time })

-- the deadline of an entry that has a timer is past the moment
pub timed_later : (m : ℕ) (entry : Entry) (timer : Option ℕ) (d : ℕ) → HasTimer m entry.deadline timer → timer ≡ Some d → m < entry.deadline
timed_later m entry None d timed is = absurd (no_number d is)
timed_later m entry (Some x) d timed is =
    let later = timed.later in
    let by = timed.in_time in
    omega (arith, later, by)

-- a timer that comes in time stays
pub stays_in_time : (m deadline d : ℕ) (timer : Option ℕ) → timer ≡ Some d → m < d → d ≤ deadline → HasTimer m deadline timer
stays_in_time m deadline d timer is later by = subst (HasTimer m deadline) (sym is) (record { later = later; in_time = by })

-- what a timer says of being due
pub due_some : (o : Option Timer) (t : ℕ) → IsSomeAnd o (λ timer. timer.deadline ≤ t) → (d : ℕ) × (option_map (λ (x : Timer). x.deadline) o ≡ Some d) × (d ≤ t)
due_some None t h = absurd h
due_some (Some timer) t h = (timer.deadline, refl, h)

pub some_due : (o : Option Timer) (t d : ℕ) → option_map (λ (x : Timer). x.deadline) o ≡ Some d → d ≤ t → IsSomeAnd o (λ timer. timer.deadline ≤ t)
some_due None t d e due = absurd (no_number d e)
some_due (Some timer) t d e due = let same = number_same timer.deadline d e in omega (arith, same, due)

-- an id that has a timer is one of the wheels'
pub timed_within : (slots : List (Option Timer)) (id t : ℕ) → IsSomeAnd (get_or slots id None) (λ timer. timer.deadline ≤ t) → id < length slots
timed_within slots id t h =
    ⊎_elim
    (λ (less : id < length slots). less)
    (λ (more : length slots ≤ id). absurd (subst (λ (o : Option Timer). IsSomeAnd o (λ timer. timer.deadline ≤ t)) (get_or_past slots id None more) h))
    (cases_lt id (length slots))

-- nothing stands in a list of nothing
pub none_there : {A : Type 0} (n i : ℕ) → get_or (replicate n (let o : Option A = None in o)) i None ≡ None
none_there {A} n i =
    ⊎_elim
    (λ (less : i < n). get_or-replicate n i None None less)
    (λ (more : n ≤ i). get_or_past (replicate n None) i None (subst (λ k. k ≤ i) (sym (length-replicate n (let o : Option A = None in o))) more))
    (cases_lt i n)

-- what the code puts: no number is above 2^64 - 1
pub reach_is : (moment deadline sum reach : ℕ) → deadline < 2 ^ 64 → sum ≡ min (moment + farthest) (2 ^ 64 - 1) → reach ≡ min deadline sum → reach ≡ min deadline (moment + farthest)
reach_is moment deadline sum reach few first second = omega (arith, few, first, second)
