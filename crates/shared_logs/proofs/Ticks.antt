-- The ticks of a history, and those among them that one pass added.
use Rattle.std.proofs.Common.{⊎_elim, ◌≡◌, ◌∙◌, ℕ, zero, suc, ◌≤◌, Bool, true, false, cond, eqb, eq-eqb, List, [], ◌∷◌, ◌++◌, Some, filter, fold, inl, inr, max, refl, ap, subst, sym, arith}
use Rattle.std.specs.Prelude.{All, Contains, slice_get, unwrap_or}
use Rattle.std.specs.List.{filter_map}
use Rattle.std.specs.List.Sorted.{IsStrictlyIncreasing}
use Rattle.std.proofs.lemmas.List.Elements.{All-contains_itself, All-weaker}
use Rattle.partlog.specs.declared.clock_event.ClockEvent.{ClockEvent}
use Rattle.partlog.specs.declared.clock_event.ClockEvent.TheVariants.{Look, Tick}
use Rattle.partlog.specs.Moment.{moment_of, tick_of}
use Rattle.audit.specs.Histories.{ticks_of}
use Rattle.turn_lock.specs.OfPass.{of_pass}
use Rattle.shared_logs.specs.declared.entries.ClockEntry.{ClockEntry}
use Rattle.shared_logs.specs.Entries.{clock_by}
use Rattle.shared_logs.specs.Histories.{events_of}
use Rattle.shared_logs.proofs.Rising.{Has, Rises, has_from, has_on, rises_from, rises_lower, rises_on, some_greatest}

pub ticks_append : (events more : List ClockEvent) → ticks_of (events ++ more) ≡ ticks_of events ++ ticks_of more
ticks_append [] more = refl
ticks_append (Tick t ∷ events) more = ap (λ (ts : List ℕ). t ∷ ts) (ticks_append events more)
ticks_append (Look by seq ∷ events) more = ticks_append events more

ticks_are : (events : List ClockEvent) → filter_map tick_of events ≡ ticks_of events
ticks_are [] = refl
ticks_are (Tick t ∷ events) = ap (λ (ts : List ℕ). t ∷ ts) (ticks_are events)
ticks_are (Look by seq ∷ events) = ticks_are events

pub moment_greatest : (events : List ClockEvent) → moment_of events ≡ fold max 0 (ticks_of events)
moment_greatest events = ap (fold max 0) (ticks_are events)

-- ---- with an event before them, kept or left out

rises_both : (n : ℕ) (event : ClockEvent) (xs ys : List ClockEvent) → ((m : ℕ) → Rises m (ticks_of ys) → Rises m (ticks_of xs)) → Rises n (ticks_of (event ∷ ys)) → Rises n (ticks_of (event ∷ xs))
rises_both n (Tick t) xs ys on rises = (rises.0, on t rises.1)
rises_both n (Look by seq) xs ys on rises = on n rises

rises_less : (n : ℕ) (event : ClockEvent) (xs ys : List ClockEvent) → ((m : ℕ) → Rises m (ticks_of ys) → Rises m (ticks_of xs)) → Rises n (ticks_of (event ∷ ys)) → Rises n (ticks_of xs)
rises_less n (Tick t) xs ys on rises =
    let first = rises.0 in
    on n (rises_lower n t (ticks_of ys) (omega (arith, first)) rises.1)
rises_less n (Look by seq) xs ys on rises = on n rises

has_both : (t : ℕ) (event : ClockEvent) (xs ys : List ClockEvent) → (Has (ticks_of xs) t → Has (ticks_of ys) t) → Has (ticks_of (event ∷ xs)) t → Has (ticks_of (event ∷ ys)) t
has_both t (Tick u) xs ys on has = ⊎_elim (λ (is : u ≡ t). inl is) (λ (rest : Has (ticks_of xs) t). inr (on rest)) has
has_both t (Look by seq) xs ys on has = on has

has_more : (t : ℕ) (event : ClockEvent) (ys : List ClockEvent) → Has (ticks_of ys) t → Has (ticks_of (event ∷ ys)) t
has_more t (Tick u) ys has = inr has
has_more t (Look by seq) ys has = has

has_first : (t : ℕ) (event : ClockEvent) (ys : List ClockEvent) → event ≡ Tick t → Has (ticks_of (event ∷ ys)) t
has_first t event ys is = subst (λ (e : ClockEvent). Has (ticks_of (e ∷ ys)) t) (sym is) (inl refl)

-- ---- those of some of the entries

module _ (p : ClockEntry → Bool) where
  rise_test : (n : ℕ) (e : ClockEntry) (es : List ClockEntry) (b : Bool) → ((m : ℕ) → Rises m (ticks_of (events_of es)) → Rises m (ticks_of (events_of (filter p es))))
      → Rises n (ticks_of (events_of (e ∷ es))) → Rises n (ticks_of (events_of (cond b (e ∷ filter p es) (filter p es))))
  rise_test n e es true on rises = rises_both n e.event (events_of (filter p es)) (events_of es) on rises
  rise_test n e es false on rises = rises_less n e.event (events_of (filter p es)) (events_of es) on rises

  some_rise : (n : ℕ) (es : List ClockEntry) → Rises n (ticks_of (events_of es)) → Rises n (ticks_of (events_of (filter p es)))
  some_rise n [] rises = tt
  some_rise n (e ∷ es) rises = rise_test n e es (p e) (λ m r. some_rise m es r) rises

  has_test : (t : ℕ) (e : ClockEntry) (es : List ClockEntry) (b : Bool) → (Has (ticks_of (events_of (filter p es))) t → Has (ticks_of (events_of es)) t)
      → Has (ticks_of (events_of (cond b (e ∷ filter p es) (filter p es)))) t → Has (ticks_of (events_of (e ∷ es))) t
  has_test t e es true on has = has_both t e.event (events_of (filter p es)) (events_of es) on has
  has_test t e es false on has = has_more t e.event (events_of es) (on has)

  some_has : (t : ℕ) (es : List ClockEntry) → Has (ticks_of (events_of (filter p es))) t → Has (ticks_of (events_of es)) t
  some_has t [] has = absurd has
  some_has t (e ∷ es) has = has_test t e es (p e) (some_has t es) has

  there_test : (t : ℕ) (e : ClockEntry) (es : List ClockEntry) (b : Bool) → Has (ticks_of (events_of (filter p es))) t → Has (ticks_of (events_of (cond b (e ∷ filter p es) (filter p es)))) t
  there_test t e es true has = has_more t e.event (events_of (filter p es)) has
  there_test t e es false has = has

  -- the tick of an entry that passes the test is among them
  pub there : (t i : ℕ) (es : List ClockEntry) (entry : ClockEntry) → slice_get es i ≡ Some entry → p entry ≡ true → entry.event ≡ Tick t → Has (ticks_of (events_of (filter p es))) t
  there t i [] entry at passes is = absurd cc
  there t zero (e ∷ es) entry at passes is =
      let same : e ≡ entry = ap (λ o. unwrap_or o entry) at in
      let kept : p e ≡ true = ap p same ∙ passes in
      subst (λ b. Has (ticks_of (events_of (cond b (e ∷ filter p es) (filter p es)))) t) (sym kept)
      (has_first t e.event (events_of (filter p es)) (ap (λ (x : ClockEntry). x.event) same ∙ is))
  there t (suc i) (e ∷ es) entry at passes is = there_test t e es (p e) (there t i es entry at passes is)

-- a tick is that of an entry
entry_test : (t : ℕ) (e : ClockEntry) (event : ClockEvent) (es : List ClockEntry) → e.event ≡ event → ((i : ℕ) × (entry : ClockEntry) × (slice_get es i ≡ Some entry) × (entry.event ≡ Tick t) → (i : ℕ) × (entry : ClockEntry) × (slice_get (e ∷ es) i ≡ Some entry) × (entry.event ≡ Tick t))
    → (Has (ticks_of (events_of es)) t → (i : ℕ) × (entry : ClockEntry) × (slice_get es i ≡ Some entry) × (entry.event ≡ Tick t)) → Has (ticks_of (event ∷ events_of es)) t
    → (i : ℕ) × (entry : ClockEntry) × (slice_get (e ∷ es) i ≡ Some entry) × (entry.event ≡ Tick t)
entry_test t e (Tick u) es is next on has = ⊎_elim (λ (same : u ≡ t). (0, e, refl, is ∙ ap Tick same)) (λ (rest : Has (ticks_of (events_of es)) t). next (on rest)) has
entry_test t e (Look by seq) es is next on has = next (on has)

pub tick_entry : (t : ℕ) (es : List ClockEntry) → Has (ticks_of (events_of es)) t → (i : ℕ) × (entry : ClockEntry) × (slice_get es i ≡ Some entry) × (entry.event ≡ Tick t)
tick_entry t [] has = absurd has
tick_entry t (e ∷ es) has = entry_test t e e.event es refl (λ found. (suc found.0, found.1, found.2, found.3)) (tick_entry t es) has

-- ---- those that a pass added itself

pub own_there : (t number i : ℕ) (es : List ClockEntry) (entry : ClockEntry) → slice_get es i ≡ Some entry → clock_by entry ≡ number → entry.event ≡ Tick t → Has (ticks_of (events_of (of_pass clock_by number es))) t
own_there t number i es entry at by is = there (λ (e : ClockEntry). eqb (clock_by e) number) t i es entry at (eq-eqb (clock_by entry) number by) is

module _ (number : ℕ) (seen mine : List ClockEntry) (own : of_pass clock_by number seen ≡ mine) where
  pub own_has : (t : ℕ) → Has (ticks_of (events_of mine)) t → Has (ticks_of (events_of seen)) t
  own_has t has = some_has (λ (e : ClockEntry). eqb (clock_by e) number) t seen (subst (λ (es : List ClockEntry). Has (ticks_of (events_of es)) t) (sym own) has)

  pub own_rising : IsStrictlyIncreasing (0 ∷ ticks_of (events_of seen)) → IsStrictlyIncreasing (0 ∷ ticks_of (events_of mine))
  own_rising rising =
      rises_on 0 (ticks_of (events_of mine))
      (subst (λ (es : List ClockEntry). Rises 0 (ticks_of (events_of es))) own (some_rise (λ (e : ClockEntry). eqb (clock_by e) number) 0 seen (rises_from 0 (ticks_of (events_of seen)) rising)))

  pub own_ticks : All (Contains (ticks_of (events_of seen))) (ticks_of (events_of mine))
  own_ticks =
      let ticks = ticks_of (events_of mine) in
      All-weaker (Contains ticks) (Contains (ticks_of (events_of seen))) (λ t c. has_on (ticks_of (events_of seen)) t (own_has t (has_from ticks t c))) ticks (All-contains_itself ticks)

  -- they are no later than the clock
  pub own_moment : fold max 0 (ticks_of (events_of mine)) ≤ moment_of (events_of seen)
  own_moment = subst (λ n. fold max 0 (ticks_of (events_of mine)) ≤ n) (sym (moment_greatest (events_of seen))) (some_greatest (ticks_of (events_of mine)) (ticks_of (events_of seen)) own_has)
