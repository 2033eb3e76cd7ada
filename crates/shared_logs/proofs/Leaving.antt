-- What a call leaves behind it, in one turn and over two steps.
use Rattle.std.proofs.Common.{◌≡◌, ℕ, ◌<◌, List, [], ◌∷◌, ◌++◌, length, set, Option, None, unwrap_or, refl, sym, ap, subst, append-nil, ◌∙◌, inl, inr}
use Rattle.std.proofs.lemmas.Option.{slice_get_within}
use Rattle.std.specs.Prelude.{◌⊎◌, slice_get}
use Rattle.partlog.specs.declared.clock_event.ClockEvent.{ClockEvent}
use Rattle.partlog.specs.declared.clock_event.ClockEvent.TheVariants as clocks
use Rattle.partlog.specs.declared.event.PartEvent.TheVariants.{Look}
use Rattle.partlog.specs.declared.numbers.Numbers.{Numbers}
use Rattle.partlog.specs.History.{History}
use Rattle.partlog.specs.Looked.{looked}
use Rattle.partlog.specs.Moment.{moment_of}
use Rattle.partlog.specs.State.{PartState as State, state_of}
use Rattle.kbytes.proofs.Laws.{get_set_other, get_set_same, get_there, same_or_not}
use Rattle.kanswer.specs.Decisions.{Entry, Outcome}
use Rattle.kanswer.specs.declared.entered.Entered.{Entered}
use Rattle.audit.specs.broker.Board.{empty_history, history_at}
use Rattle.kanswer.specs.WithEntry.{entered}
use Rattle.audit.specs.broker.GoesOn.{HaveGrown, Longer}
use Rattle.audit.proofs.broker.Laws.{all_longer_self, entered_events, entered_longer, event_of, event_owner, grown_clock, grown_parts, set_longer}
use Rattle.shared_logs.specs.Asked.{HasAsked, HasLooked, HasLookedAtClock, LeftOne}
use Rattle.shared_logs.specs.Coming.{HasStepped}
use Rattle.shared_logs.specs.Shared.{LogPassView}
use Rattle.shared_logs.specs.Left.{AreLeft, ClockEndsOwn, EndsOwn}
use Rattle.shared_logs.proofs.Same.{grown_on}

-- ---- one entry

pub ends_entered : (number seq t : ℕ) (h : History) (entry : Entry) → EndsOwn number seq (entered h number seq t entry)
ends_entered number seq t h entry = record {
  front = h.events;
  last = event_of number seq t entry;
  events = entered_events h number seq t entry;
  own = event_owner number seq t entry;
}

pub ends_looked : (number seq : ℕ) (h : History) → EndsOwn number seq (looked h number seq)
ends_looked number seq h = record { front = h.events; last = Look number seq; events = refl; own = refl }

-- ---- one turn

at_none : (parts : List History) (part : ℕ) → slice_get parts part ≡ None → history_at parts part ≡ empty_history 0
at_none parts part e = ap (λ (o : Option History). unwrap_or o (empty_history 0)) e

set_at : (found : List History) (part : ℕ) (left : History) → part < length found → history_at (set found part left) part ≡ left
set_at found part left there = ap (λ (o : Option History). unwrap_or o (empty_history 0)) (get_set_same found part left there)

pub left_one : (seq part : ℕ) (old new : LogPassView) (found : List History) (left : History) → LeftOne part old new found left → part < length found → EndsOwn old.number seq left → AreLeft seq old new
left_one seq part old new found left turn there ends = record {
  parts = λ p. elim (same_or_not p part) [
    | inl same ↦
        let is : history_at new.parts p ≡ left = ap (λ (parts : List History). history_at parts p) turn.parts ∙ ap (history_at (set found part left)) same ∙ set_at found part left there in
        inr (subst (EndsOwn old.number seq) (sym is) ends)
    | inr other ↦
        inl (ap (λ (parts : List History). history_at parts p) turn.parts
        ∙ ap (λ (o : Option History). unwrap_or o (empty_history 0)) (get_set_other found part p left other ∙ turn.alone p other))
  ];
  clock = inl turn.clock;
}

-- of a partition that is there
pub found_within : (part : ℕ) (old new : LogPassView) (found : List History) (left : History) → LeftOne part old new found left → part < length old.parts → part < length found
found_within part old new found left turn inside =
    let l = turn.others.grown.each part (history_at old.parts part) (get_there old.parts part (empty_history 0) inside) in
    slice_get_within found part l.0 l.1

pub asked_left : (part seq : ℕ) (outcome : State → Outcome) (old new : LogPassView) (came : Entered) (numbers : Numbers) → HasAsked part seq outcome old new came numbers → part < length old.parts → AreLeft seq old new
asked_left part seq outcome old new came numbers h inside =
    left_one seq part old new h.found h.left h.turn (found_within part old new h.found h.left h.turn inside)
    (subst (EndsOwn old.number seq) (sym h.entry.history) (ends_entered old.number seq (moment_of old.clock) (history_at h.found part) (outcome (state_of (history_at h.found part))).entry))

pub looked_left : (part seq gauge least : ℕ) (old new : LogPassView) (place : ℕ) (numbers : Numbers) → HasLooked part seq gauge least old new place numbers → part < length old.parts → AreLeft seq old new
looked_left part seq gauge least old new place numbers h inside =
    let left : History = looked (history_at h.found part) old.number seq in
    left_one seq part old new h.found left h.turn (found_within part old new h.found left h.turn inside) (ends_looked old.number seq (history_at h.found part))

pub clock_left : (seq least : ℕ) (old new : LogPassView) (place moment : ℕ) → HasLookedAtClock seq least old new place moment → AreLeft seq old new
clock_left seq least old new place moment h = record {
  parts = λ p. inl (ap (λ (parts : List History). history_at parts p) h.parts);
  clock = inr (record { front = h.found; events = h.clock });
}

-- ---- the histories go on by what was found and by the entry

looked_longer : (h : History) (number seq : ℕ) → Longer h (looked h number seq)
looked_longer h number seq = record { followers = refl; more = Look number seq ∷ []; bytes = []; events = refl; log = sym (append-nil h.log) }

pub one_grown : (part : ℕ) (old new : LogPassView) (found : List History) (left : History) → LeftOne part old new found left → part < length found → Longer (history_at found part) left
    → HaveGrown old.parts old.clock new.parts new.clock
one_grown part old new found left turn there longer =
    let parts : List History = set found part left in
    let own : HaveGrown found old.clock parts old.clock =
    grown_parts found parts old.clock (set_longer found part (history_at found part) left (get_there found part (empty_history 0) there) longer) in
    let whole : HaveGrown old.parts old.clock parts old.clock = grown_on old.parts found parts old.clock old.clock old.clock turn.others.grown own in
    subst (λ (es : List ClockEvent). HaveGrown old.parts old.clock new.parts es) (sym turn.clock) (subst (λ (hs : List History). HaveGrown old.parts old.clock hs old.clock) (sym turn.parts) whole)

pub asked_grown : (part seq : ℕ) (outcome : State → Outcome) (old new : LogPassView) (came : Entered) (numbers : Numbers) → HasAsked part seq outcome old new came numbers → part < length old.parts
    → HaveGrown old.parts old.clock new.parts new.clock
asked_grown part seq outcome old new came numbers h inside =
    let here : History = history_at h.found part in
    one_grown part old new h.found h.left h.turn (found_within part old new h.found h.left h.turn inside)
    (subst (Longer here) (sym h.entry.history) (entered_longer here old.number seq (moment_of old.clock) (outcome (state_of here)).entry))

pub looked_grown : (part seq gauge least : ℕ) (old new : LogPassView) (place : ℕ) (numbers : Numbers) → HasLooked part seq gauge least old new place numbers → part < length old.parts
    → HaveGrown old.parts old.clock new.parts new.clock
looked_grown part seq gauge least old new place numbers h inside =
    let here : History = history_at h.found part in
    let left : History = looked here old.number seq in
    one_grown part old new h.found left h.turn (found_within part old new h.found left h.turn inside) (looked_longer here old.number seq)

pub clock_grown : (seq least : ℕ) (old new : LogPassView) (place moment : ℕ) → HasLookedAtClock seq least old new place moment → HaveGrown old.parts old.clock new.parts new.clock
clock_grown seq least old new place moment h =
    let look : ClockEvent = clocks.Look old.number seq in
    let clock : List ClockEvent = h.found ++ look ∷ [] in
    let whole : HaveGrown old.parts old.clock old.parts clock =
    grown_on old.parts old.parts old.parts old.clock h.found clock h.others.grown (grown_clock old.parts old.parts h.found look (all_longer_self old.parts)) in
    subst (λ (es : List ClockEvent). HaveGrown old.parts old.clock new.parts es) (sym h.clock) (subst (λ (hs : List History). HaveGrown old.parts old.clock hs clock) (sym h.parts) whole)

-- ---- two steps

pub left_self : (seq : ℕ) (a : LogPassView) → AreLeft seq a a
left_self seq a = record { parts = λ p. inl refl; clock = inl refl }

-- where the histories stay
pub left_stepped : (seq : ℕ) (a b : LogPassView) → HasStepped a b → AreLeft seq a b
left_stepped seq a b step = record {
  parts = λ p. inl (ap (λ (parts : List History). history_at parts p) step.parts);
  clock = inl step.clock;
}

ends_on : (seq : ℕ) (a b c : LogPassView) → b.number ≡ a.number → (p : ℕ) → (history_at b.parts p ≡ history_at a.parts p) ⊎ EndsOwn a.number seq (history_at b.parts p)
    → (history_at c.parts p ≡ history_at b.parts p) ⊎ EndsOwn b.number seq (history_at c.parts p) → (history_at c.parts p ≡ history_at a.parts p) ⊎ EndsOwn a.number seq (history_at c.parts p)
ends_on seq a b c same p first (inr then) = inr (subst (λ (n : ℕ). EndsOwn n seq (history_at c.parts p)) same then)
ends_on seq a b c same p (inl first) (inl then) = inl (then ∙ first)
ends_on seq a b c same p (inr first) (inl then) = inr (subst (EndsOwn a.number seq) (sym then) first)

clock_ends_on : (seq : ℕ) (a b c : LogPassView) → b.number ≡ a.number → (b.clock ≡ a.clock) ⊎ ClockEndsOwn a.number seq b.clock
    → (c.clock ≡ b.clock) ⊎ ClockEndsOwn b.number seq c.clock → (c.clock ≡ a.clock) ⊎ ClockEndsOwn a.number seq c.clock
clock_ends_on seq a b c same first (inr then) = inr (subst (λ (n : ℕ). ClockEndsOwn n seq c.clock) same then)
clock_ends_on seq a b c same (inl first) (inl then) = inl (then ∙ first)
clock_ends_on seq a b c same (inr first) (inl then) = inr (subst (ClockEndsOwn a.number seq) (sym then) first)

pub left_on : (seq : ℕ) (a b c : LogPassView) → b.number ≡ a.number → AreLeft seq a b → AreLeft seq b c → AreLeft seq a c
left_on seq a b c same f g = record {
  parts = λ p. ends_on seq a b c same p (f.parts p) (g.parts p);
  clock = clock_ends_on seq a b c same f.clock g.clock;
}
