-- Deadlines that are to come, under an insert and a turn.
use Rattle.std.proofs.Common.{◌≡◌, ◌≢◌, ℕ, ◌<◌, ◌≤◌, ◌↔◌, ⊎_elim, List, Option, Some, None, Bool, true, false, not, IsSomeAnd, IsTrue, get_or, option_map, ap, refl, subst, arith, length-set, get_or-set_same, get_or-set_other}
use Rattle.std.specs.Bool.{OnFalse, OnTrue}
use Rattle.std.proofs.lemmas.List.{get_or_past, get_or_default}
use Rattle.std.proofs.lemmas.Bool.{cases_lt}
use Rattle.std.specs.Prelude.{All, Contains}
use Rattle.timing_wheel.specs.declared.timer.Timer.{Timer}
use Rattle.timing_wheel.specs.Timers.{Timers, deadline_of, entry_of, ids_of, with_entry}
use Rattle.timing_wheel.specs.Turn.{IsDue}

abbrev deadline_in : Option Timer → Option ℕ
deadline_in slot = option_map (λ entry. entry.deadline) slot

-- what the wheels hold of one id after an insert
pub record IsInserted (old new : Timers) (id deadline : ℕ) : Type 0 where
  pub slot : Option Timer
  pub changed : new ≡ with_entry old id slot
  pub ahead : old.moment < deadline → deadline_in slot ≡ Some deadline
  pub come : deadline ≤ old.moment → slot ≡ None

pub inserted : (old new : Timers) (id deadline : ℕ) (is_listed : Bool) → IsTrue is_listed ↔ (old.moment < deadline)
    → OnTrue is_listed (new ≡ with_entry old id (Some (record { deadline = deadline; put = old.moment })))
    → OnFalse is_listed (new ≡ with_entry old id None) → IsInserted old new id deadline
inserted old new id deadline true listed entry none = record {
  slot = Some (record { deadline = deadline; put = old.moment });
  changed = entry;
  ahead = λ l. refl;
  come = λ l. absurd (let ahead = listed.0 refl in omega arith);
}
inserted old new id deadline false listed entry none = record {
  slot = None;
  changed = none;
  ahead = λ l. absurd (let is : false ≡ true = listed.1 l in cc);
  come = λ l. refl;
}

-- a deadline that has come isn't listed
pub come_unlisted : (moment deadline : ℕ) (is_listed : Bool) → IsTrue is_listed ↔ (moment < deadline) → (not is_listed ≡ true) ↔ (deadline ≤ moment)
come_unlisted moment deadline true listed = ((λ h. absurd (let no : false ≡ true = h in cc)), (λ l. absurd (let ahead = listed.0 refl in omega arith)))
come_unlisted moment deadline false listed = (
  (λ h.
      ⊎_elim
      (λ (ahead : moment < deadline). absurd (let is : false ≡ true = listed.1 ahead in cc))
      (λ (come : deadline ≤ moment). come)
      (cases_lt moment deadline)),
  (λ l. refl),
)

module _ (old : Timers) (id : ℕ) (slot : Option Timer) where
  pub deadline_same : id < ids_of old → deadline_of (with_entry old id slot) id ≡ deadline_in slot
  deadline_same l = ap deadline_in (get_or-set_same old.slots id slot None l)

  pub deadline_other : (other : ℕ) → other ≢ id → deadline_of (with_entry old id slot) other ≡ deadline_of old other
  deadline_other other differs = ap deadline_in (get_or-set_other old.slots id other slot None differs)

  pub ids_same : ids_of (with_entry old id slot) ≡ ids_of old
  ids_same = length-set old.slots id slot

-- who is due has a deadline that comes by then
due_slot : (t : ℕ) (slot : Option Timer) → IsSomeAnd slot (λ timer. timer.deadline ≤ t) ↔ ((deadline : ℕ) × (deadline_in slot ≡ Some deadline) × (deadline ≤ t))
due_slot t None = ((λ h. absurd h), (λ (d, e, l). absurd cc))
due_slot t (Some timer) = ((λ l. (timer.deadline, refl, l)), (λ (d, e, l). let same : timer.deadline ≡ d = cc in omega arith))

pub due_comes : (t : ℕ) (timers : Timers) (id : ℕ) → IsDue t timers id ↔ ((deadline : ℕ) × (deadline_of timers id ≡ Some deadline) × (deadline ≤ t))
due_comes t timers id = due_slot t (entry_of timers id)

-- only an id of the wheels is due
pub due_within : (t : ℕ) (timers : Timers) (id : ℕ) → IsDue t timers id → id < ids_of timers
due_within t timers id due =
    ⊎_elim
    (λ (l : id < ids_of timers). l)
    (λ (l : ids_of timers ≤ id). absurd (subst (λ (slot : Option Timer). IsSomeAnd slot (λ timer. timer.deadline ≤ t)) (get_or_past timers.slots id None l) due))
    (cases_lt id (ids_of timers))

pub all_within : (t : ℕ) (timers : Timers) (ids : List ℕ) → ids_of timers ≡ 64 → ((id : ℕ) → Contains ids id ↔ IsDue t timers id) → All (λ id. id < 64) ids
all_within t timers ids many due k d l =
    let it : ℕ = get_or ids k d in
    let within = due_within t timers it ((due it).0 (k, l, get_or_default ids k it d l)) in
    omega arith

-- a deadline to come is past the moment, where each entry is
past_slot : (moment deadline : ℕ) (slot : Option Timer) → ((e : Timer) → slot ≡ Some e → moment < e.deadline) → deadline_in slot ≡ Some deadline → moment < deadline
past_slot moment deadline None past is = absurd cc
past_slot moment deadline (Some e) past is = let l = past e refl in let same : e.deadline ≡ deadline = cc in omega arith

pub coming_past : (timers : Timers) (id deadline : ℕ) → ((e : Timer) → entry_of timers id ≡ Some e → timers.moment < e.deadline) → deadline_of timers id ≡ Some deadline → timers.moment < deadline
coming_past timers id deadline past is = past_slot timers.moment deadline (entry_of timers id) past is
