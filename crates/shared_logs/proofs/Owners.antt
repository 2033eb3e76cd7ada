-- Who left an entry.
use Rattle.std.proofs.Common.{◌≡◌, ℕ, zero, suc, ◌≤◌, Bool, true, false, cond, eqb, eq-eqb, List, [], ◌∷◌, drop, map, Option, Some, None, refl, ap, ◌∙◌, arith}
use Rattle.std.specs.Prelude.{slice_get}
use Rattle.partlog.specs.declared.clock_event.ClockEvent.{ClockEvent}
use Rattle.partlog.specs.declared.clock_event.ClockEvent.TheVariants as clocks
use Rattle.partlog.specs.declared.event.PartEvent.{PartEvent}
use Rattle.partlog.specs.declared.event.PartEvent.TheVariants.{Append, Follow, Look, Shrink}
use Rattle.partlog.specs.Added.{added_bytes}
use Rattle.audit.specs.Histories.{Owner, clock_owner_of, owner_of}
use Rattle.turn_lock.specs.OfPass.{of_pass}
use Rattle.audit.specs.broker.GoesOn.{the_owner}
use Rattle.audit.specs.broker.Timely.{pass_of}
use Rattle.shared_logs.specs.declared.entries.ClockEntry.{ClockEntry}
use Rattle.shared_logs.specs.declared.entries.LogEntry.{LogEntry}
use Rattle.shared_logs.specs.Entries.{clock_by, clock_entries, entries_from, entry_by}

abbrev by_or : ℕ → Option (Option Owner) → ℕ
by_or n (Some (Some owner)) = owner.by
by_or n (Some None) = n
by_or n None = n

abbrev is_there : {A : Type 0} → Option A → Bool
is_there (Some x) = true
is_there None = false

abbrev value_or : {A : Type 0} → A → Option A → A
value_or x (Some y) = y
value_or x None = x

abbrev is_owned : Option (Option Owner) → Bool
is_owned (Some owner) = is_there owner
is_owned None = false

nobody : {A : Type 0} → false ≡ true → A
nobody e = absurd cc

event_named : (e : PartEvent) (by seq : ℕ) → Some (owner_of e) ≡ Some (the_owner by seq) → pass_of e ≡ by
event_named (Append b s count len) by seq e = ap (by_or 0) e
event_named (Follow b s replica offset t) by seq e = ap (by_or 0) e
event_named (Look b s) by seq e = ap (by_or 0) e
event_named (Shrink b replica t) by seq e = nobody (ap is_owned e)

pub named : (es : List PartEvent) (log : List ℕ) (place by seq : ℕ) → slice_get (map owner_of es) place ≡ Some (the_owner by seq)
    → (entry : LogEntry) × (slice_get (entries_from es log) place ≡ Some entry) × (entry_by entry ≡ by)
named [] log place by seq e = nobody (ap is_there e)
named (event ∷ es) log zero by seq e = (_, refl, event_named event by seq e)
named (event ∷ es) log (suc place) by seq e = named es (drop (added_bytes event) log) place by seq e

-- the entry of an event
pub entry_at : (es : List PartEvent) (log : List ℕ) (place : ℕ) (event : PartEvent) → slice_get es place ≡ Some event → (entry : LogEntry) × (slice_get (entries_from es log) place ≡ Some entry) × (entry.event ≡ event)
entry_at [] log place event e = nobody (ap is_there e)
entry_at (x ∷ es) log zero event e = (_, refl, ap (value_or x) e)
entry_at (x ∷ es) log (suc place) event e = entry_at es (drop (added_bytes x) log) place event e

pub clock_named : (es : List ClockEvent) (ps : List ℕ) (place by seq : ℕ) → slice_get (map clock_owner_of es) place ≡ Some (the_owner by seq)
    → (entry : ClockEntry) × (slice_get (clock_entries es ps) place ≡ Some entry) × (clock_by entry ≡ by)
clock_named [] ps place by seq e = nobody (ap is_there e)
clock_named (clocks.Tick t ∷ es) ps zero by seq e = nobody (ap is_owned e)
clock_named (clocks.Tick t ∷ es) ps (suc place) by seq e = clock_named es (drop 1 ps) place by seq e
clock_named (clocks.Look b s ∷ es) ps zero by seq e = (_, refl, ap (by_or 0) e)
clock_named (clocks.Look b s ∷ es) ps (suc place) by seq e = clock_named es ps place by seq e

module _ {E : Type 0} (by : E → ℕ) (pass : ℕ) where
  -- what is left of the entries of a pass has none of it
  rest_none : (b : Bool) (x : E) (xs : List E) → cond b (x ∷ xs) xs ≡ [] → (b ≡ true → ⊥) × (xs ≡ [])
  rest_none true x xs e = absurd cc
  rest_none false x xs e = ((λ never. nobody never), e)

  none_in : (place : ℕ) (xs : List E) (x : E) → of_pass by pass xs ≡ [] → slice_get xs place ≡ Some x → by x ≡ pass → ⊥
  none_in place [] x none at is = nobody (ap is_there at)
  none_in zero (y ∷ ys) x none at is =
      let same : by y ≡ pass = ap by (ap (value_or y) at) ∙ is in
      (rest_none (eqb (by y) pass) y (of_pass by pass ys) none).0 (eq-eqb (by y) pass same)
  none_in (suc place) (y ∷ ys) x none at is = none_in place ys x (rest_none (eqb (by y) pass) y (of_pass by pass ys) none).1 at is

  pub none_behind : (first place : ℕ) (xs : List E) (x : E) → of_pass by pass (drop first xs) ≡ [] → first ≤ place → slice_get xs place ≡ Some x → by x ≡ pass → ⊥
  none_behind first place [] x none le at is = nobody (ap is_there at)
  none_behind zero place (y ∷ ys) x none le at is = none_in place (y ∷ ys) x none at is
  none_behind (suc first) zero (y ∷ ys) x none le at is = absurd (omega (arith, le))
  none_behind (suc first) (suc place) (y ∷ ys) x none le at is = none_behind first place ys x none (omega (arith, le)) at is
