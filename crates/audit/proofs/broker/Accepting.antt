-- A request is accepted, or completed by looks: who left the entries, and what every account shows that goes on from there.
use Rattle.std.proofs.Common.{◌≡◌, ◌≢◌, ℕ, ◌≤◌, ◌<◌, Bool, false, cond, eqb, List, [], ◌∷◌, ◌++◌, length, map, set, Option, Some, None, unwrap_or, refl, sym, ap, subst, ◌∙◌, arith, inl, inr, append_assoc, append-nil}
use Rattle.std.proofs.lemmas.Bool.{ne_eqb}
use Rattle.std.proofs.lemmas.List.{length-map, length-set, map-append}
use Rattle.std.specs.Prelude.{slice_get}
use Rattle.std.specs.List.{AllByRecursion, AllZip, cons_option}
use Rattle.partlog.specs.declared.clock_event.ClockEvent.{ClockEvent}
use Rattle.partlog.specs.declared.clock_event.ClockEvent.TheVariants as clocks
use Rattle.partlog.specs.declared.event.PartEvent.{PartEvent}
use Rattle.partlog.specs.History.{History}
use Rattle.partlog.specs.State.{PartState, state_of}
use Rattle.audit.specs.declared.account.Account.{Account}
use Rattle.audit.specs.declared.account.Point.{Point}
use Rattle.audit.specs.Histories.{Owner, owner_of, clock_owner_of, no_state, at_point}
use Rattle.audit.specs.LawfulCall.{Step, IsStep, IsLook, AreLooks, part_in, operation_parts, step_points, shown_as_completed}
use Rattle.kbytes.proofs.Laws.{same_or_not, get_set_same, get_set_other, get_there}
use Rattle.kanswer.specs.declared.accepted.Accepted.{Accepted}
use Rattle.kanswer.specs.declared.accepted.Accepted.TheVariants.{Refused, Appended, Seen}
use Rattle.kanswer.specs.Decisions.{Decision, Refuse, AskLog, Looked, look}
use Rattle.kanswer.specs.Waiting.{Shown}
use Rattle.audit.specs.broker.Board.{history_at, empty_history}
use Rattle.audit.specs.broker.Completing.{look_all, present}
use Rattle.kanswer.specs.WithEntry.{entered}
use Rattle.audit.specs.broker.Entering.{accept_all, steps_of}
use Rattle.audit.specs.broker.GoesOn.{the_owner, AllWhole, Follows}
use Rattle.audit.specs.broker.Kept.{IsKept, owners_here, owners_at}
use Rattle.audit.specs.broker.Sound.{AllBelow}
use Rattle.audit.proofs.broker.Growth.{event_of, entered_events, entered_whole, looked_state}
use Rattle.audit.proofs.broker.Entries.{IsFair, IsWithin, event_owner, set_whole, accepted_shows}
use Rattle.audit.proofs.broker.Going.{clock_point}
use Rattle.audit.proofs.broker.Ledger.{put, kept_entry}

-- ---- who left the entries

pub owners_part : (parts : List History) (clock : List ClockEvent) (p : ℕ) (h : History) → p < 64 → slice_get parts p ≡ Some h → owners_at parts clock p ≡ map owner_of h.events
owners_part parts clock p h lt e =
    let no : eqb p 64 ≡ false = ne_eqb p 64 (λ is. omega (arith, lt, is)) in
    ap (λ (b : Bool). cond b (map clock_owner_of clock) (owners_here (slice_get parts p))) no ∙ ap owners_here e

pub owners_clock : (parts : List History) (clock later : List ClockEvent) (q : ℕ) → q ≢ 64 → owners_at parts later q ≡ owners_at parts clock q
owners_clock parts clock later q other =
    let no : eqb q 64 ≡ false = ne_eqb q 64 other in
    ap (λ (b : Bool). cond b (map clock_owner_of later) (owners_here (slice_get parts q))) no
    ∙ sym (ap (λ (b : Bool). cond b (map clock_owner_of clock) (owners_here (slice_get parts q))) no)

-- a partition's history has an entry more, of the last call of a pass
pub kept_part : (parts : List History) (clock : List ClockEvent) (ledger : ℕ → List (List Point)) (by p : ℕ) (found left : History) (event : PartEvent) (before : List (List Point)) (points : List Point)
    → p < length parts → length parts ≤ 64 → slice_get parts p ≡ Some found → left.events ≡ found.events ++ event ∷ [] → owner_of event ≡ the_owner by (length before)
    → IsKept (owners_at parts clock) (put ledger by (before ++ points ∷ []))
    → IsKept (owners_at (set parts p left) clock) (put ledger by (before ++ (points ++ record { part = p; place = length found.events } ∷ []) ∷ []))
kept_part parts clock ledger by p found left event before points within few there events owner kept =
    let small : p < 64 = omega (arith, within, few) in
    let was : owners_at parts clock p ≡ map owner_of found.events = owners_part parts clock p found small there in
    let entry : owners_at (set parts p left) clock p ≡ owners_at parts clock p ++ the_owner by (length before) ∷ [] =
    owners_part (set parts p left) clock p left small (get_set_same parts p left within)
    ∙ ap (map owner_of) events ∙ map-append owner_of found.events (event ∷ [])
    ∙ ap (λ (o : Option Owner). map owner_of found.events ++ o ∷ []) owner
    ∙ ap (λ (os : List (Option Owner)). os ++ the_owner by (length before) ∷ []) (sym was) in
    let here : length found.events ≡ length (owners_at parts clock p) = sym (length-map found.events owner_of) ∙ sym (ap length was) in
    kept_entry (owners_at parts clock) (owners_at (set parts p left) clock) ledger by p (length found.events) before points here entry
    (λ q other. ap (λ (o : Option History). cond (eqb q 64) (map clock_owner_of clock) (owners_here o)) (get_set_other parts p q left other)) kept

-- the clock was looked at by it
pub kept_look : (parts : List History) (clock : List ClockEvent) (ledger : ℕ → List (List Point)) (by : ℕ) (before : List (List Point)) (points : List Point)
    → IsKept (owners_at parts clock) (put ledger by (before ++ points ∷ []))
    → IsKept (owners_at parts (clock ++ clocks.Look by (length before) ∷ [])) (put ledger by (before ++ (points ++ clock_point clock ∷ []) ∷ []))
kept_look parts clock ledger by before points kept =
    let event : ClockEvent = clocks.Look by (length before) in
    kept_entry (owners_at parts clock) (owners_at parts (clock ++ event ∷ [])) ledger by 64 (length clock) before points
    (sym (length-map clock clock_owner_of)) (map-append clock_owner_of clock (event ∷ []))
    (λ q other. owners_clock parts clock (clock ++ event ∷ []) q other) kept

-- what was decided is carried out
pub kept_accepted : (clock : List ClockEvent) (ledger : ℕ → List (List Point)) (by t n : ℕ) (before : List (List Point)) (decisions : List Decision) (parts : List History) (points : List Point)
    → length parts ≡ n → n ≤ 64 → AllByRecursion (IsFair n) decisions → IsKept (owners_at parts clock) (put ledger by (before ++ points ∷ []))
    → IsKept (owners_at (accept_all by (length before) t decisions parts).1 clock)
    (put ledger by (before ++ (points ++ step_points (steps_of (accept_all by (length before) t decisions parts).0)) ∷ []))
kept_accepted clock ledger by t n before [] parts points size few fair kept =
    subst (λ (ps : List Point). IsKept (owners_at parts clock) (put ledger by (before ++ ps ∷ []))) (sym (append-nil points)) kept
kept_accepted clock ledger by t n before (Refuse code ∷ decisions) parts points size few fair kept = kept_accepted clock ledger by t n before decisions parts points size few fair.1 kept
kept_accepted clock ledger by t n before (AskLog part outcome ∷ decisions) parts points size few fair kept =
    let seq = length before in
    let found = history_at parts part in
    let entry = (outcome (state_of found)).entry in
    let left = entered found by seq t entry in
    let within : part < length parts = omega (arith, size, fair.0.0) in
    let there : slice_get parts part ≡ Some found = get_there parts part (empty_history 0) within in
    let parts1 = set parts part left in
    let point : Point = record { part = part; place = length found.events } in
    let one = kept_part parts clock ledger by part found left (event_of by seq t entry) before points within (omega (arith, size, few)) there (entered_events found by seq t entry) (event_owner by seq t entry) kept in
    let others = step_points (steps_of (accept_all by seq t decisions parts1).0) in
    subst (λ (ps : List Point). IsKept (owners_at (accept_all by seq t decisions parts1).1 clock) (put ledger by (before ++ ps ∷ []))) (append_assoc points (point ∷ []) others)
    (kept_accepted clock ledger by t n before decisions parts1 (points ++ point ∷ []) (length-set parts part left ∙ size) few fair.1 one)

-- the same where the call's number is told in another way
pub kept_accepted_at : (clock : List ClockEvent) (ledger : ℕ → List (List Point)) (by seq t n : ℕ) (before : List (List Point)) (decisions : List Decision) (parts : List History) (points : List Point)
    → seq ≡ length before → length parts ≡ n → n ≤ 64 → AllByRecursion (IsFair n) decisions → IsKept (owners_at parts clock) (put ledger by (before ++ points ∷ []))
    → IsKept (owners_at (accept_all by seq t decisions parts).1 clock) (put ledger by (before ++ (points ++ step_points (steps_of (accept_all by seq t decisions parts).0)) ∷ []))
kept_accepted_at clock ledger by seq t n before decisions parts points is size few fair kept =
    subst (λ (k : ℕ). IsKept (owners_at (accept_all by k t decisions parts).1 clock) (put ledger by (before ++ (points ++ step_points (steps_of (accept_all by k t decisions parts).0)) ∷ []))) (sym is)
    (kept_accepted clock ledger by t n before decisions parts points size few fair kept)

pub kept_look_at : (parts : List History) (clock : List ClockEvent) (ledger : ℕ → List (List Point)) (by seq : ℕ) (before : List (List Point)) (points : List Point)
    → seq ≡ length before → IsKept (owners_at parts clock) (put ledger by (before ++ points ∷ []))
    → IsKept (owners_at parts (clock ++ clocks.Look by seq ∷ [])) (put ledger by (before ++ (points ++ clock_point clock ∷ []) ∷ []))
kept_look_at parts clock ledger by seq before points is kept =
    subst (λ (k : ℕ). IsKept (owners_at parts (clock ++ clocks.Look by k ∷ [])) (put ledger by (before ++ (points ++ clock_point clock ∷ []) ∷ []))) (sym is)
    (kept_look parts clock ledger by before points kept)

-- ---- the partitions that are named in what came of it

one_within : (n : ℕ) (result : Accepted) (ps : List ℕ) → IsWithin n result → AllBelow n ps → AllBelow n (cons_option (part_in result) ps)
one_within n (Refused code) ps here rest = rest
one_within n (Appended part base count) ps here rest = (here, rest)
one_within n (Seen part start) ps here rest = (here, rest)

pub accepted_within : (by seq t n : ℕ) (decisions : List Decision) (parts : List History) → AllByRecursion (IsFair n) decisions → AllBelow n (operation_parts (steps_of (accept_all by seq t decisions parts).0))
accepted_within by seq t n [] parts fair = tt
accepted_within by seq t n (Refuse code ∷ decisions) parts fair = accepted_within by seq t n decisions parts fair.1
accepted_within by seq t n (AskLog part outcome ∷ decisions) parts fair =
    let found = history_at parts part in
    let came = outcome (state_of found) in
    let parts1 = set parts part (entered found by seq t came.entry) in
    one_within n came.result (operation_parts (steps_of (accept_all by seq t decisions parts1).0)) (fair.0.1 (state_of found)).1 (accepted_within by seq t n decisions parts1 fair.1)

-- ---- looks are accepted as any entries

abbrev pub look_decision : ℕ → Decision
look_decision part = AskLog part (λ state. look (Seen part 0))

abbrev pub look_decisions : List ℕ → List Decision
look_decisions ps = map look_decision ps

abbrev pub look_points : ℕ → ℕ → List ℕ → List History → List Point
look_points by seq ps parts = step_points (steps_of (accept_all by seq 0 (look_decisions ps) parts).0)

abbrev pub looked : ℕ → ℕ → List ℕ → List History → List History
looked by seq ps parts = (accept_all by seq 0 (look_decisions ps) parts).1

pub looks_points : (by seq : ℕ) (ps : List ℕ) (parts : List History) → (look_all by seq ps parts).0 ≡ look_points by seq ps parts
looks_points by seq [] parts = refl
looks_points by seq (p ∷ ps) parts =
    let found = history_at parts p in
    ap (λ (points : List Point). record { part = p; place = length found.events } ∷ points) (looks_points by seq ps (set parts p (entered found by seq 0 Looked)))

pub looks_parts : (by seq : ℕ) (ps : List ℕ) (parts : List History) → (look_all by seq ps parts).1 ≡ looked by seq ps parts
looks_parts by seq [] parts = refl
looks_parts by seq (p ∷ ps) parts = looks_parts by seq ps (set parts p (entered (history_at parts p) by seq 0 Looked))

pub looks_fair : (n : ℕ) (ps : List ℕ) → AllBelow n ps → AllByRecursion (IsFair n) (look_decisions ps)
looks_fair n [] all = tt
looks_fair n (p ∷ ps) all = ((all.0, λ state. (tt, all.0)), looks_fair n ps all.1)

-- ---- they change no state

one_look : (by seq p q : ℕ) (parts : List History) → p < length parts → state_of (history_at (set parts p (entered (history_at parts p) by seq 0 Looked)) q) ≡ state_of (history_at parts q)
one_look by seq p q parts within =
    let found = history_at parts p in
    let left = entered found by seq 0 Looked in
    let there = λ (o : Option History). state_of (unwrap_or o (empty_history 0)) in
    elim (same_or_not q p) [
      | inl same ↦
          ap (λ (i : ℕ). state_of (history_at (set parts p left) i)) same ∙ ap there (get_set_same parts p left within) ∙ looked_state found by seq
          ∙ sym (ap (λ (i : ℕ). state_of (history_at parts i)) same)
      | inr other ↦ ap there (get_set_other parts p q left other)
    ]

pub looks_states : (by seq n : ℕ) (ps : List ℕ) (parts : List History) → length parts ≡ n → AllBelow n ps → (q : ℕ) → state_of (history_at (looked by seq ps parts) q) ≡ state_of (history_at parts q)
looks_states by seq n [] parts size all q = refl
looks_states by seq n (p ∷ ps) parts size all q =
    let left = entered (history_at parts p) by seq 0 Looked in
    looks_states by seq n ps (set parts p left) (length-set parts p left ∙ size) all.1 q ∙ one_look by seq p q parts (omega (arith, size, all.0))

pub present_alike : (parts later : List History) → ((q : ℕ) → state_of (history_at later q) ≡ state_of (history_at parts q)) → (o : Option ℕ) → present later o ≡ present parts o
present_alike parts later same None = refl
present_alike parts later same (Some p) = same p

-- what is shown of the named partitions as these histories are
abbrev pub shown_in : List History → List Step → List Shown
shown_in parts steps = map (λ step. record { result = step.result; state = present parts (part_in step.result) }) steps

pub shown_alike : (parts later : List History) → ((q : ℕ) → state_of (history_at later q) ≡ state_of (history_at parts q)) → (steps : List Step) → shown_in later steps ≡ shown_in parts steps
shown_alike parts later same [] = refl
shown_alike parts later same (step ∷ steps) =
    ap (λ (s : PartState). record { result = step.result; state = s } ∷ shown_in later steps) (present_alike parts later same (part_in step.result))
    ∙ ap (λ (ss : List Shown). record { result = step.result; state = present parts (part_in step.result) } ∷ ss) (shown_alike parts later same steps)

-- ---- what an account shows at the looks

abbrev first_state : List Shown → PartState
first_state [] = no_state
first_state (s ∷ shown) = s.state

looks_are : (account : Account) (ps : List ℕ) (steps : List Step) → AllZip (IsStep account) (look_decisions ps) steps → AllZip (IsLook account) ps (step_points steps)
looks_are account [] [] each = tt
looks_are account [] (step ∷ steps) each = absurd each
looks_are account (p ∷ ps) [] each = absurd each
looks_are account (p ∷ ps) (step ∷ steps) each =
    let asks = each.0 in
    subst (λ (o : Option Point). AllZip (IsLook account) (p ∷ ps) (cons_option o (step_points steps))) (sym asks.left)
    ((asks.there, asks.entry.0, asks.entry.1, asks.entry.2), looks_are account ps steps each.1)

skipped : (account : Account) (step : Step) (steps : List Step) (points : List Point) → part_in step.result ≡ None
    → shown_as_completed account (step ∷ steps) points ≡ record { result = step.result; state = no_state } ∷ shown_as_completed account steps points
skipped account step steps [] none = refl
skipped account step steps (point ∷ points) none = rw none refl

module _ (account : Account) (by seq n : ℕ) (few : n ≤ 64) where
  pub looks_look : (steps : List Step) (parts : List History) → length parts ≡ n → AllWhole parts → AllBelow n (operation_parts steps) → Follows account (looked by seq (operation_parts steps) parts)
      → AreLooks account steps (look_points by seq (operation_parts steps) parts)
  looks_look steps parts size whole all follows =
      looks_are account (operation_parts steps) (steps_of (accept_all by seq 0 (look_decisions (operation_parts steps)) parts).0)
      (accepted_shows by seq 0 n (look_decisions (operation_parts steps)) parts account size few whole (looks_fair n (operation_parts steps) all) follows).steps

  abbrev Shows : List Step → List ℕ → List History → Type 0
  Shows steps ps parts = length parts ≡ n → AllWhole parts → AllBelow n ps → Follows account (looked by seq ps parts) → shown_as_completed account steps (look_points by seq ps parts) ≡ shown_in parts steps

  -- a partition that is looked at, and then the others
  one_shown : (step : Step) (steps : List Step) (p : ℕ) (parts : List History) → part_in step.result ≡ Some p → ((later : List History) → Shows steps (operation_parts steps) later) → Shows (step ∷ steps) (p ∷ operation_parts steps) parts
  one_shown step steps p parts is on size whole all follows =
      let ps = operation_parts steps in
      let found = history_at parts p in
      let left = entered found by seq 0 Looked in
      let point : Point = record { part = p; place = length found.events } in
      let within : p < length parts = omega (arith, size, all.0) in
      let parts1 = set parts p left in
      let size1 : length parts1 ≡ n = length-set parts p left ∙ size in
      let whole1 : AllWhole parts1 = set_whole parts p left whole within (entered_whole found by seq 0 Looked (whole p found (get_there parts p (empty_history 0) within)) tt) in
      let shows = accepted_shows by seq 0 n (look_decisions (p ∷ ps)) parts account size few whole (looks_fair n (p ∷ ps) all) follows in
      let at : at_point account point ≡ state_of found = ap first_state shows.shown ∙ looked_state found by seq in
      let rest : shown_as_completed account steps (look_points by seq ps parts1) ≡ shown_in parts steps =
      on parts1 size1 whole1 all.1 follows ∙ shown_alike parts parts1 (λ q. one_look by seq p q parts within) steps in
      rw is (
      ap (λ (s : PartState). record { result = step.result; state = s } ∷ shown_as_completed account steps (look_points by seq ps parts1)) at
      ∙ ap (λ (ss : List Shown). record { result = step.result; state = state_of found } ∷ ss) rest
      )

  by_part_in : (step : Step) (steps : List Step) (o : Option ℕ) (parts : List History) → part_in step.result ≡ o → ((later : List History) → Shows steps (operation_parts steps) later) → Shows (step ∷ steps) (cons_option o (operation_parts steps)) parts
  by_part_in step steps None parts is on size whole all follows =
      let here : present parts (part_in step.result) ≡ no_state = ap (present parts) is in
      skipped account step steps (look_points by seq (operation_parts steps) parts) is
      ∙ ap (λ (ss : List Shown). record { result = step.result; state = no_state } ∷ ss) (on parts size whole all follows)
      ∙ ap (λ (s : PartState). record { result = step.result; state = s } ∷ shown_in parts steps) (sym here)
  by_part_in step steps (Some p) parts is on size whole all follows = one_shown step steps p parts is on size whole all follows

  -- they show the states as they were
  pub looks_shown : (steps : List Step) (parts : List History) → Shows steps (operation_parts steps) parts
  looks_shown [] parts size whole all follows = refl
  looks_shown (step ∷ steps) parts size whole all follows =
      by_part_in step steps (part_in step.result) parts refl (λ later. looks_shown steps later) size whole all follows
