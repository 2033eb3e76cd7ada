-- Followers that a pass took out: in one turn of a partition, and over several; and the clock, where it was told a moment.
use Rattle.std.proofs.Common.{◌≡◌, ◌≢◌, ◌⊎◌, ℕ, ◌+◌, ◌-◌, ◌≤◌, ◌<◌, ℤ, Bool, true, false, List, ◌++◌, length, set, take, Option, Some, unwrap_or, refl, sym, ap, subst, ◌∙◌, arith, inl, inr, append_assoc}
use Rattle.std.proofs.lemmas.Bool.{cases_lt}
use Rattle.std.proofs.lemmas.Option.{slice_get_within}
use Rattle.std.specs.Prelude.{◌↔◌, IsTrue, slice_get}
use Rattle.std.specs.List.{AllByRecursion}
use Rattle.partlog.specs.declared.event.PartEvent.{PartEvent}
use Rattle.partlog.specs.declared.event.PartEvent.TheVariants.{Shrink}
use Rattle.partlog.specs.History.{History}
use Rattle.partlog.specs.Lagging.{NoneLags}
use Rattle.partlog.specs.Moment.{moment_of}
use Rattle.partlog.specs.Shrunk.{shrinks_at}
use Rattle.kbytes.proofs.Laws.{all_append, get_behind, get_set_other, get_set_same, same_or_not}
use Rattle.audit.specs.broker.Board.{empty_history, history_at}
use Rattle.audit.specs.broker.GoesOn.{Longer}
use Rattle.audit.specs.broker.Timely.{events_at, pass_of}
use Rattle.audit.proofs.broker.Laws.{NewEvents, all_get, all_longer_on, all_longer_self, all_on, events_of_part, longer_on, set_longer, was_there}
use Rattle.audit.specs.broker.books.TakenOut.{HasTakenOut}
use Rattle.shared_logs.specs.Asked.{HasTicked}
use Rattle.shared_logs.specs.Shared.{LogPassView}
use Rattle.shared_logs.specs.Shrinking.{HasShrunk, HasShrunkOne, HasTold, NoPartLags}
use Rattle.shared_logs.specs.Shrunk.{HasShrunkSome}
use Rattle.shared_logs.proofs.Entering.{shrinks_are, some_longer}
use Rattle.shared_logs.proofs.Same.{same_on, same_self}

-- ---- one partition's history went on

new_in : (P : PartEvent → Type 0) (parts : List History) (part : ℕ) (seen left : History) (more : List PartEvent) → slice_get parts part ≡ Some seen → left.events ≡ seen.events ++ more → AllByRecursion P more
    → NewEvents parts (set parts part left) P
new_in P parts part seen left more there events all q place event e past = elim (same_or_not q part) [
  | inl same ↦
      let within : part < length parts = slice_get_within parts part seen there in
      let at : events_at (set parts part left) q ≡ seen.events ++ more =
      ap (events_at (set parts part left)) same ∙ events_of_part (set parts part left) part left (get_set_same parts part left within) ∙ events in
      let was : events_at parts q ≡ seen.events = ap (events_at parts) same ∙ events_of_part parts part seen there in
      let size : length (events_at parts q) ≡ length seen.events = ap length was in
      let behind : length seen.events + (place - length seen.events) ≡ place = omega (arith, past, size) in
      let here : slice_get more (place - length seen.events) ≡ Some event =
      sym (get_behind seen.events more (place - length seen.events)) ∙ ap (slice_get (seen.events ++ more)) behind ∙ sym (ap (λ (es : List PartEvent). slice_get es place) at) ∙ e in
      all_get P more (place - length seen.events) event all here
  | inr other ↦
      let at : events_at (set parts part left) q ≡ events_at parts q = ap (λ (o : Option History). (unwrap_or o (empty_history 0)).events) (get_set_other parts part q left other) in
      let here : slice_get (events_at parts q) place ≡ Some event = sym (ap (λ (es : List PartEvent). slice_get es place) at) ∙ e in
      let less : place < length (events_at parts q) = slice_get_within (events_at parts q) place event here in
      absurd (omega (arith, less, past))
]

-- an entry of another pass, or one by which this pass took a follower out at this moment
abbrev IsLeave : ℕ → ℕ → PartEvent → Type 0
IsLeave number t event = pass_of event ≡ number → (replica : ℤ) × (event ≡ Shrink number replica t)

of_others : (number t : ℕ) (event : PartEvent) → pass_of event ≢ number → IsLeave number t event
of_others number t event other = λ own. absurd (other own)

of_leaves : (number t : ℕ) (event : PartEvent) → (replica : ℤ) × (event ≡ Shrink number replica t) → IsLeave number t event
of_leaves number t event leave = λ own. leave

-- others' entries came to it, and then the pass took followers out
pub one_taken : (number t : ℕ) (parts : List History) (part : ℕ) (seen found left : History) → slice_get parts part ≡ Some seen → (longer : Longer seen found) → AllByRecursion (λ event. pass_of event ≢ number) longer.more
    → HasShrunkSome number t found left → HasTakenOut number t parts (set parts part left)
one_taken number t parts part seen found left there longer others some =
    let leaves : List PartEvent = take some.count (shrinks_at found number t) in
    let events : left.events ≡ seen.events ++ (longer.more ++ leaves) =
    ap (λ (h : History). h.events) some.history ∙ ap (λ (es : List PartEvent). es ++ leaves) longer.events ∙ append_assoc seen.events longer.more leaves in
    let all : AllByRecursion (IsLeave number t) (longer.more ++ leaves) =
    all_append (IsLeave number t) longer.more leaves
    (all_on (λ (event : PartEvent). pass_of event ≢ number) (IsLeave number t) (of_others number t) longer.more others)
    (all_on (λ (event : PartEvent). (replica : ℤ) × (event ≡ Shrink number replica t)) (IsLeave number t) (of_leaves number t) leaves (shrinks_are number t some.count found)) in
    record {
      grown = set_longer parts part seen left there (longer_on seen found left longer (some_longer number t found left some));
      taken = λ q place event e whose past. new_in (IsLeave number t) parts part seen left (longer.more ++ leaves) there events all q place event e past whose;
    }

-- ---- several

taken_none : (number t : ℕ) (parts : List History) → HasTakenOut number t parts parts
taken_none number t parts = record {
  grown = all_longer_self parts;
  taken = λ part place event e whose past. let less = slice_get_within (events_at parts part) place event e in absurd (omega (arith, less, past));
}

taken_on : (number t : ℕ) (a b c : List History) → HasTakenOut number t a b → HasTakenOut number t b c → HasTakenOut number t a c
taken_on number t a b c f g = record {
  grown = all_longer_on a b c f.grown g.grown;
  taken = λ part place event e whose past. by_place part place event e whose past (cases_lt place (length (events_at b part)));
}
  where
    by_place : (part place : ℕ) (event : PartEvent) → slice_get (events_at c part) place ≡ Some event → pass_of event ≡ number → length (events_at a part) ≤ place
        → (place < length (events_at b part)) ⊎ (length (events_at b part) ≤ place) → (replica : ℤ) × (event ≡ Shrink number replica t)
    by_place part place event e whose past (inl less) = f.taken part place event (was_there b c g.grown part place event less e) whose past
    by_place part place event e whose past (inr behind) = g.taken part place event e whose behind

pub shrunk_self : (t : ℕ) (a : LogPassView) → HasShrunk t a a
shrunk_self t a = record { same = same_self a; taken = taken_none a.number t a.parts; clock = refl; ticked = refl }

pub shrunk_on : (t : ℕ) (a b c : LogPassView) → HasShrunk t a b → HasShrunk t b c → HasShrunk t a c
shrunk_on t a b c f g = record {
  same = same_on a b c f.same g.same;
  taken = taken_on a.number t a.parts b.parts c.parts f.taken (subst (λ (n : ℕ). HasTakenOut n t b.parts c.parts) f.same.number g.taken);
  clock = g.clock ∙ f.clock;
  ticked = g.ticked ∙ f.ticked;
}

-- none lags among the first so many partitions
abbrev pub NoneBelow : ℕ → ℕ → LogPassView → Type 0
NoneBelow n t pass = (part : ℕ) (h : History) → part < n → slice_get pass.parts part ≡ Some h → NoneLags h.followers h.events t

pub none_at_first : (t : ℕ) (pass : LogPassView) → NoneBelow 0 t pass
none_at_first t pass part h less there = absurd (omega (arith, less))

-- one more was gone through
pub none_more : (at t : ℕ) (old new : LogPassView) → HasShrunkOne at t old new → NoneLags (history_at new.parts at).followers (history_at new.parts at).events t → NoneBelow at t old → NoneBelow (at + 1) t new
none_more at t old new one here below part h less there = elim (same_or_not part at) [
  | inl same ↦
      let is : history_at new.parts at ≡ h = sym (ap (history_at new.parts) same) ∙ ap (λ (o : Option History). unwrap_or o (empty_history 0)) there in
      subst (λ (x : History). NoneLags x.followers x.events t) is here
  | inr other ↦ below part h (omega (arith, less, other)) (sym (one.alone part other) ∙ there)
]

pub none_in_all : (n t : ℕ) (pass : LogPassView) → length pass.parts ≤ n → NoneBelow n t pass → NoPartLags t pass.parts
none_in_all n t pass size below part h there =
    let less = slice_get_within pass.parts part h there in
    below part h (omega (arith, less, size)) there

-- ---- the clock was told a moment

-- which wasn't above its own
pub tick_stood : (t : ℕ) (old new : LogPassView) (told : HasTicked t old new) → t ≤ moment_of told.found → HasTold t old new
tick_stood t old new told past = record {
  between = new;
  told = told;
  shrunk = shrunk_self t new;
  none_lags = λ less. absurd (omega (arith, less, past));
  still = λ most. refl;
}

-- which was
pub tick_rose : (t : ℕ) (old between new : LogPassView) (told : HasTicked t old between) → moment_of told.found < t → HasShrunk t between new → NoPartLags t new.parts → HasTold t old new
tick_rose t old between new told rose shrunk none = record {
  between = between;
  told = told;
  shrunk = shrunk;
  none_lags = λ less. none;
  still = λ past. absurd (omega (arith, rose, past));
}

-- the moment that was found is no less, where none was added
pub not_risen : (rose : Bool) (found t : ℕ) → IsTrue rose ↔ (found < t) → rose ≡ false → t ≤ found
not_risen rose found t iff is = elim (cases_lt found t) [
  | inl less ↦ let up : rose ≡ true = iff.1 less in absurd (cc (is, up))
  | inr past ↦ past
]
