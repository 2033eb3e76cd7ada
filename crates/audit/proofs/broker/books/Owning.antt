-- Which entries are a pass's own, as others' entries come, as a call begins, and as its last call leaves one entry more.
use Rattle.std.proofs.Common.{◌≡◌, ◌≢◌, ℕ, ◌≤◌, ◌<◌, Bool, true, false, cond, eqb, List, [], ◌∷◌, ◌++◌, length, map, set, Option, Some, None, refl, sym, ap, subst, ◌∙◌, arith, inl, inr, append-nil, eq-eqb}
use Rattle.std.proofs.lemmas.Bool.{eqb-true}
use Rattle.std.proofs.lemmas.Grind.{flat_map-append}
use Rattle.std.proofs.lemmas.List.{length-map, map-append}
use Rattle.std.specs.Prelude.{slice_get}
use Rattle.std.specs.List.{AllByRecursion, flat_map}
use Rattle.std.specs.List.Sorted.{IsStrictlyIncreasing}
use Rattle.partlog.specs.declared.clock_event.ClockEvent.{ClockEvent}
use Rattle.partlog.specs.declared.clock_event.ClockEvent.TheVariants as clocks
use Rattle.partlog.specs.declared.event.PartEvent.{PartEvent}
use Rattle.partlog.specs.History.{History}
use Rattle.partlog.specs.State.{state_of}
use Rattle.audit.specs.declared.account.Point.{Point}
use Rattle.audit.specs.Histories.{Owner, owner_of, clock_owner_of}
use Rattle.audit.specs.IsLawful.{places_in}
use Rattle.audit.specs.LawfulCall.{step_points}
use Rattle.kbytes.proofs.Laws.{same_or_not, get_set_same, get_set_other, get_there, get_front, some_is}
use Rattle.kanswer.specs.Decisions.{Decision, Refuse, AskLog}
use Rattle.audit.specs.broker.Board.{history_at, empty_history}
use Rattle.kanswer.specs.WithEntry.{entered}
use Rattle.audit.specs.broker.Entering.{accept_all, steps_of}
use Rattle.audit.specs.broker.GoesOn.{HaveGrown, the_owner}
use Rattle.audit.specs.broker.Kept.{IsKept, owners_here, owners_at}
use Rattle.audit.proofs.broker.Laws.{IsFair, all_on, clock_point, entered_events, event_of, event_owner, get_map, kept_entry, map_get, owners_clock, owners_part, push_get, put, put_other, put_same}
use Rattle.audit.specs.broker.books.Owned.{AreOwn}
use Rattle.audit.proofs.broker.books.Growing.{owner_seen, owner_stands}

abbrev IsOf : (ℕ → List (Option Owner)) → ℕ → ℕ → Point → Type 0
IsOf owners number seq point = slice_get (owners point.part) point.place ≡ Some (the_owner number seq)

abbrev in_rows : List (List Point) → List Point
in_rows rows = flat_map (λ points. points) rows

-- ---- others' entries, and a call that begins

-- no call of the pass left an entry behind what it saw
abbrev pub CallsWithin : ℕ → List History → List ClockEvent → List History → List ClockEvent → Type 0
CallsWithin number parts clock later behind =
    (part place seq : ℕ) → slice_get (owners_at later behind part) place ≡ Some (the_owner number seq) → place < length (owners_at parts clock part)

pub own_others : (number : ℕ) (rows : List (List Point)) (parts later : List History) (clock behind : List ClockEvent) → HaveGrown parts clock later behind → CallsWithin number parts clock later behind
    → AreOwn (owners_at parts clock) number rows → AreOwn (owners_at later behind) number rows
own_others number rows parts later clock behind grown within own = record {
  left = λ part place seq e. own.left part place seq (owner_seen parts later clock behind grown part place (the_owner number seq) (within part place seq e) e);
  points = λ seq points e. all_on (IsOf (owners_at parts clock) number seq) (IsOf (owners_at later behind) number seq)
      (λ point is. owner_stands parts later clock behind grown point.part point.place (the_owner number seq) is) points (own.points seq points e);
  order = own.order;
}

pub own_begun : (owners : ℕ → List (Option Owner)) (number : ℕ) (rows : List (List Point)) → AreOwn owners number rows → AreOwn owners number (rows ++ [] ∷ [])
own_begun owners number rows own = record {
  left = λ part place seq e. let found = own.left part place seq e in (found.0, get_front rows ([] ∷ []) seq found.0 found.1, found.2);
  points = λ seq points e. elim (push_get rows [] points seq e) [
    | inl front ↦ own.points seq points front
    | inr last ↦ subst (AllByRecursion (IsOf owners number seq)) (sym last.1) tt
  ];
  order = λ part.
      let is : in_rows (rows ++ [] ∷ []) ≡ in_rows rows = flat_map-append (λ (points : List Point). points) rows ([] ∷ []) ∙ append-nil (in_rows rows) in
      subst (λ (points : List Point). IsStrictlyIncreasing (places_in part points)) (sym is) (own.order part);
}

-- ---- a table in which this pass alone has entries

abbrev only : ℕ → Option Owner → Option Owner
only number None = None
only number (Some owner) = cond (eqb owner.by number) (Some owner) None

abbrev alone : ℕ → (ℕ → List (Option Owner)) → ℕ → List (Option Owner)
alone number owners part = map (only number) (owners part)

abbrev no_rows : ℕ → List (List Point)
no_rows by = []

only_own : (number seq : ℕ) → only number (the_owner number seq) ≡ the_owner number seq
only_own number seq = ap (λ (b : Bool). cond b (the_owner number seq) None) (eq-eqb number number refl)

-- what is left of it was there, and is the pass's
only_is : (number by seq : ℕ) (o : Option Owner) → only number o ≡ the_owner by seq → (o ≡ the_owner by seq) × (by ≡ number)
only_is number by seq None e = absurd cc
only_is number by seq (Some owner) e = by_test (eqb owner.by number) refl e
  where
    by_test : (b : Bool) → eqb owner.by number ≡ b → cond b (Some owner) None ≡ the_owner by seq → (Some owner ≡ the_owner by seq) × (by ≡ number)
    by_test true is f =
        let same : owner ≡ record { by = by; seq = seq } = some_is owner (record { by = by; seq = seq }) f in
        (f, sym (ap (λ (x : Owner). x.by) same) ∙ eqb-true owner.by number is)
    by_test false is f = absurd cc

own_there : (number seq : ℕ) (owners : ℕ → List (Option Owner)) (part place : ℕ) → slice_get (owners part) place ≡ Some (the_owner number seq) → slice_get (alone number owners part) place ≡ Some (the_owner number seq)
own_there number seq owners part place e = map_get (only number) (owners part) place (the_owner number seq) e ∙ ap Some (only_own number seq)

own_from : (number by seq : ℕ) (owners : ℕ → List (Option Owner)) (part place : ℕ) → slice_get (alone number owners part) place ≡ Some (the_owner by seq)
    → (slice_get (owners part) place ≡ Some (the_owner by seq)) × (by ≡ number)
own_from number by seq owners part place e =
    let found = get_map (only number) (owners part) place (the_owner by seq) e in
    let is = only_is number by seq found.0 found.2 in
    (found.1 ∙ ap Some is.0, is.1)

to_kept : (owners : ℕ → List (Option Owner)) (number : ℕ) (rows : List (List Point)) → AreOwn owners number rows → IsKept (alone number owners) (put no_rows number rows)
to_kept owners number rows own = record {
  left = λ part place by seq e.
      let from = own_from number by seq owners part place e in
      let found = own.left part place seq (from.0 ∙ ap (λ (n : ℕ). Some (the_owner n seq)) from.1) in
      (found.0, ap (λ (xs : List (List Point)). slice_get xs seq) (put_same no_rows number rows by from.1) ∙ found.1, found.2);
  points = λ by seq points e. elim (same_or_not by number) [
    | inl same ↦
        let row : slice_get rows seq ≡ Some points = sym (ap (λ (xs : List (List Point)). slice_get xs seq) (put_same no_rows number rows by same)) ∙ e in
        subst (λ (n : ℕ). AllByRecursion (IsOf (alone number owners) n seq) points) (sym same)
        (all_on (IsOf owners number seq) (IsOf (alone number owners) number seq) (λ point is. own_there number seq owners point.part point.place is) points (own.points seq points row))
    | inr other ↦
        let none : slice_get [] seq ≡ Some points = sym (ap (λ (xs : List (List Point)). slice_get xs seq) (put_other no_rows number rows by other)) ∙ e in
        absurd cc
  ];
  order = λ by part. elim (same_or_not by number) [
    | inl same ↦ subst (λ (xs : List (List Point)). IsStrictlyIncreasing (places_in part (in_rows xs))) (sym (put_same no_rows number rows by same)) (own.order part)
    | inr other ↦ subst (λ (xs : List (List Point)). IsStrictlyIncreasing (places_in part (in_rows xs))) (sym (put_other no_rows number rows by other)) (λ k lt. absurd (omega (arith, lt)))
  ];
}

from_kept : (owners : ℕ → List (Option Owner)) (number : ℕ) (rows : List (List Point)) → IsKept (alone number owners) (put no_rows number rows) → AreOwn owners number rows
from_kept owners number rows kept = record {
  left = λ part place seq e.
      let found = kept.left part place number seq (own_there number seq owners part place e) in
      (found.0, sym (ap (λ (xs : List (List Point)). slice_get xs seq) (put_same no_rows number rows number refl)) ∙ found.1, found.2);
  points = λ seq points e.
      let row : slice_get (put no_rows number rows number) seq ≡ Some points = ap (λ (xs : List (List Point)). slice_get xs seq) (put_same no_rows number rows number refl) ∙ e in
      all_on (IsOf (alone number owners) number seq) (IsOf owners number seq) (λ point is. (own_from number number seq owners point.part point.place is).0) points (kept.points number seq points row);
  order = λ part. subst (λ (xs : List (List Point)). IsStrictlyIncreasing (places_in part (in_rows xs))) (put_same no_rows number rows number refl) (kept.order number part);
}

-- ---- one entry more, of the last call

own_entry : (owners owners1 : ℕ → List (Option Owner)) (number p place : ℕ) (before : List (List Point)) (points : List Point) → place ≡ length (owners p) → owners1 p ≡ owners p ++ the_owner number (length before) ∷ []
    → ((q : ℕ) → q ≢ p → owners1 q ≡ owners q) → AreOwn owners number (before ++ points ∷ []) → AreOwn owners1 number (before ++ (points ++ record { part = p; place = place } ∷ []) ∷ [])
own_entry owners owners1 number p place before points here entry elsewhere own =
    let one : alone number owners1 p ≡ alone number owners p ++ the_owner number (length before) ∷ [] =
    ap (map (only number)) entry ∙ map-append (only number) (owners p) (the_owner number (length before) ∷ [])
    ∙ ap (λ (o : Option Owner). alone number owners p ++ o ∷ []) (only_own number (length before)) in
    from_kept owners1 number (before ++ (points ++ record { part = p; place = place } ∷ []) ∷ [])
    (kept_entry (alone number owners) (alone number owners1) no_rows number p place before points (here ∙ sym (length-map (owners p) (only number))) one
    (λ q other. ap (map (only number)) (elsewhere q other)) (to_kept owners number (before ++ points ∷ []) own))

own_part : (parts : List History) (clock : List ClockEvent) (number p : ℕ) (found left : History) (event : PartEvent) (before : List (List Point)) (points : List Point)
    → p < length parts → length parts ≤ 64 → slice_get parts p ≡ Some found → left.events ≡ found.events ++ event ∷ [] → owner_of event ≡ the_owner number (length before)
    → AreOwn (owners_at parts clock) number (before ++ points ∷ [])
    → AreOwn (owners_at (set parts p left) clock) number (before ++ (points ++ record { part = p; place = length found.events } ∷ []) ∷ [])
own_part parts clock number p found left event before points within few there events owner own =
    let small : p < 64 = omega (arith, within, few) in
    let was : owners_at parts clock p ≡ map owner_of found.events = owners_part parts clock p found small there in
    let entry : owners_at (set parts p left) clock p ≡ owners_at parts clock p ++ the_owner number (length before) ∷ [] =
    owners_part (set parts p left) clock p left small (get_set_same parts p left within)
    ∙ ap (map owner_of) events ∙ map-append owner_of found.events (event ∷ [])
    ∙ ap (λ (o : Option Owner). map owner_of found.events ++ o ∷ []) owner
    ∙ ap (λ (os : List (Option Owner)). os ++ the_owner number (length before) ∷ []) (sym was) in
    let here : length found.events ≡ length (owners_at parts clock p) = sym (length-map found.events owner_of) ∙ sym (ap length was) in
    own_entry (owners_at parts clock) (owners_at (set parts p left) clock) number p (length found.events) before points here entry
    (λ q other. ap (λ (o : Option History). cond (eqb q 64) (map clock_owner_of clock) (owners_here o)) (get_set_other parts p q left other)) own

-- the clock was looked at
pub own_look : (parts : List History) (clock : List ClockEvent) (number seq : ℕ) (before : List (List Point)) (points : List Point) → seq ≡ length before → AreOwn (owners_at parts clock) number (before ++ points ∷ [])
    → AreOwn (owners_at parts (clock ++ clocks.Look number seq ∷ [])) number (before ++ (points ++ clock_point clock ∷ []) ∷ [])
own_look parts clock number seq before points is own =
    let event : ClockEvent = clocks.Look number seq in
    own_entry (owners_at parts clock) (owners_at parts (clock ++ event ∷ [])) number 64 (length clock) before points (sym (length-map clock clock_owner_of))
    (map-append clock_owner_of clock (event ∷ []) ∙ ap (λ (n : ℕ). map clock_owner_of clock ++ the_owner number n ∷ []) is)
    (λ q other. owners_clock parts clock (clock ++ event ∷ []) q other) own

-- what was decided of one partition is carried out
pub own_carried : (parts : List History) (clock : List ClockEvent) (number seq t : ℕ) (decision : Decision) (before : List (List Point)) (points : List Point) → seq ≡ length before → length parts ≤ 64 → IsFair (length parts) decision
    → AreOwn (owners_at parts clock) number (before ++ points ∷ [])
    → AreOwn (owners_at (accept_all number seq t (decision ∷ []) parts).1 clock) number (before ++ (points ++ step_points (steps_of (accept_all number seq t (decision ∷ []) parts).0)) ∷ [])
own_carried parts clock number seq t (Refuse code) before points is few fair own =
    subst (λ (ps : List Point). AreOwn (owners_at parts clock) number (before ++ ps ∷ [])) (sym (append-nil points)) own
own_carried parts clock number seq t (AskLog part outcome) before points is few fair own =
    let found = history_at parts part in
    let entry = (outcome (state_of found)).entry in
    own_part parts clock number part found (entered found number seq t entry) (event_of number seq t entry) before points fair.0 few (get_there parts part (empty_history 0) fair.0)
    (entered_events found number seq t entry) (event_owner number seq t entry ∙ ap (the_owner number) is) own
