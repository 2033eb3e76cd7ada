-- What accepting a request leaves in the histories: the entries, their owner and places, and the states at them.
use Rattle.std.proofs.Common.{◌≡◌, ℕ, zero, suc, ◌≤◌, ◌<◌, false, eqb, List, [], ◌∷◌, ◌++◌, length, map, set, Option, Some, refl, sym, ap, subst, ◌∙◌, arith, inl, inr, append_assoc}
use Rattle.std.proofs.lemmas.Bool.{ne_eqb}
use Rattle.std.proofs.lemmas.List.{length-set}
use Rattle.std.specs.Prelude.{slice_get}
use Rattle.std.specs.List.{AllByRecursion, AllZip}
use Rattle.partlog.specs.declared.event.PartEvent.{PartEvent}
use Rattle.partlog.specs.History.{History}
use Rattle.partlog.specs.State.{PartState, state_of}
use Rattle.audit.specs.declared.account.Account.{Account}
use Rattle.audit.specs.declared.account.PartAccount.{PartAccount}
use Rattle.audit.specs.declared.account.Point.{Point}
use Rattle.audit.specs.Histories.{owner_of, owners_of, history_of, before_in, at_in, before_point, at_point, event_at, event_in, no_state}
use Rattle.kanswer.specs.Decisions.{Entry, Put, Followed, Looked, Outcome, Decision, Refuse, AskLog}
use Rattle.audit.specs.LawfulCall.{IsStep, IsEntry, step_points, shown_as_accepted}
use Rattle.audit.specs.broker.Board.{history_at, empty_history}
use Rattle.kanswer.specs.WithEntry.{entered}
use Rattle.audit.specs.broker.Entering.{Noted, accept_all, steps_of, shown_of}
use Rattle.kanswer.specs.Waiting.{Shown}
use Rattle.kanswer.specs.declared.accepted.Accepted.{Accepted}
use Rattle.kanswer.specs.declared.accepted.Accepted.TheVariants.{Refused, Appended, Seen}
use Rattle.kbatch.specs.Stamp.{stamped}
use Rattle.audit.proofs.broker.Growth.{Longer, IsWhole, IsSized, longer_on, entered_longer, entered_whole, entered_events, entered_followers, event_of, before_kept, at_kept, put_batches}
use Rattle.audit.proofs.broker.Going.{AllLonger, all_longer_self, all_longer_on, set_longer}
pub use Rattle.audit.specs.broker.GoesOn.{the_owner, AllWhole, Follows}
use Rattle.kbytes.proofs.Laws.{same_or_not, get_set_same, get_set_other, get_there, get_seam, some_is}

-- a result that names one of so many partitions, or none
abbrev pub IsWithin : ℕ → Accepted → Type 0
IsWithin n (Refused code) = Unit {0}
IsWithin n (Appended part base count) = part < n
IsWithin n (Seen part start) = part < n

-- its entry says rightly how many bytes it puts, and its result names a partition that is there
abbrev pub IsFairOutcome : ℕ → Outcome → Type 0
IsFairOutcome n outcome = IsSized outcome.entry × IsWithin n outcome.result

-- a decision that asks the log of one of so many partitions, and has fair outcomes
abbrev pub IsFair : ℕ → Decision → Type 0
IsFair n (Refuse code) = Unit {0}
IsFair n (AskLog part outcome) = (part < n) × ((state : PartState) → IsFairOutcome n (outcome state))

pub event_owner : (by seq t : ℕ) (entry : Entry) → owner_of (event_of by seq t entry) ≡ the_owner by seq
event_owner by seq t (Put count batch) = refl
event_owner by seq t (Followed replica offset) = refl
event_owner by seq t Looked = refl

-- the histories with one more entry are whole
pub set_whole : (parts : List History) (part : ℕ) (h : History) → AllWhole parts → part < length parts → IsWhole h → AllWhole (set parts part h)
set_whole parts part h whole within w p k e =
    elim (same_or_not p part) [
      | inl same ↦
          let there : slice_get (set parts part h) p ≡ Some h = subst (λ (i : ℕ). slice_get (set parts part h) i ≡ Some h) (sym same) (get_set_same parts part h within) in
          subst IsWhole (some_is h k (sym there ∙ e)) w
      | inr other ↦ whole p k (sym (get_set_other parts part p h other) ∙ e)
    ]

-- the histories go on as what was decided is carried out
pub accepted_longer : (by seq t n : ℕ) (decisions : List Decision) (parts : List History) → length parts ≡ n → AllByRecursion (IsFair n) decisions → AllLonger parts (accept_all by seq t decisions parts).1
accepted_longer by seq t n [] parts size fair = all_longer_self parts
accepted_longer by seq t n (Refuse code ∷ decisions) parts size fair = accepted_longer by seq t n decisions parts size fair.1
accepted_longer by seq t n (AskLog part outcome ∷ decisions) parts size fair =
    let found = history_at parts part in
    let entry = (outcome (state_of found)).entry in
    let left = entered found by seq t entry in
    let there : slice_get parts part ≡ Some found = get_there parts part (empty_history 0) (omega (arith, size, fair.0.0)) in
    all_longer_on parts (set parts part left) (accept_all by seq t decisions (set parts part left)).1 (set_longer parts part found left there (entered_longer found by seq t entry))
    (accepted_longer by seq t n decisions (set parts part left) (length-set parts part left ∙ size) fair.1)

pub accepted_size : (by seq t n : ℕ) (decisions : List Decision) (parts : List History) → length (accept_all by seq t decisions parts).1 ≡ length parts
accepted_size by seq t n [] parts = refl
accepted_size by seq t n (Refuse code ∷ decisions) parts = accepted_size by seq t n decisions parts
accepted_size by seq t n (AskLog part outcome ∷ decisions) parts =
    let found = history_at parts part in
    let left = entered found by seq t (outcome (state_of found)).entry in
    accepted_size by seq t n decisions (set parts part left) ∙ length-set parts part left

-- what an account shows at an entry
pub record ShowsEntry (by seq t : ℕ) (account : Account) (part : ℕ) (found : History) (entry : Entry) : Type 0 where
  pub before : before_point account (record { part = part; place = length found.events }) ≡ state_of found
  pub at : at_point account (record { part = part; place = length found.events }) ≡ state_of (entered found by seq t entry)
  pub event : event_at account (record { part = part; place = length found.events }) ≡ Some (event_of by seq t entry)
  pub owner : part < 64 → slice_get (owners_of account part) (length found.events) ≡ Some (the_owner by seq)

pub slice_map : (es : List PartEvent) (k : ℕ) (e : PartEvent) → slice_get es k ≡ Some e → slice_get (map owner_of es) k ≡ Some (owner_of e)
slice_map [] k e is = absurd cc
slice_map (x ∷ es) zero e is = ap (λ (y : PartEvent). Some (owner_of y)) (some_is x e is)
slice_map (x ∷ es) (suc k) e is = slice_map es k e is

pub shows_entry : (by seq t : ℕ) (account : Account) (part : ℕ) (found : History) (entry : Entry) (pa : PartAccount) → IsWhole found → IsSized entry → slice_get account.parts part ≡ Some pa
    → Longer (entered found by seq t entry) (history_of pa) → ShowsEntry by seq t account part found entry
shows_entry by seq t account part found entry pa whole sized there longer =
    let n = length found.events in
    let event = event_of by seq t entry in
    let events : pa.events ≡ found.events ++ event ∷ longer.more =
    longer.events ∙ ap (λ (es : List PartEvent). es ++ longer.more) (entered_events found by seq t entry) ∙ append_assoc found.events (event ∷ []) longer.more in
    let here : slice_get pa.events n ≡ Some event = ap (λ (es : List PartEvent). slice_get es n) events ∙ get_seam found.events longer.more event in
    record {
      before = ap (λ (o : Option PartAccount). before_in o n) there ∙ before_kept found (history_of pa) whole (longer_on found (entered found by seq t entry) (history_of pa) (entered_longer found by seq t entry) longer);
      at = ap (λ (o : Option PartAccount). at_in o n) there ∙ at_kept found (history_of pa) by seq t entry whole sized longer;
      event = ap (λ (o : Option PartAccount). event_in o n) there ∙ here;
      owner = λ lt.
          let no : eqb part 64 ≡ false = ne_eqb part 64 (λ e. omega (arith, lt, e)) in
          rw (no, there) (slice_map pa.events n event here ∙ ap Some (event_owner by seq t entry));
    }

pub is_entry : (by seq t : ℕ) (account : Account) (part : ℕ) (found : History) (entry : Entry) → IsWhole found → IsSized entry → ShowsEntry by seq t account part found entry
    → IsEntry account (record { part = part; place = length found.events }) entry
is_entry by seq t account part found (Put count batch) whole sized s =
    let before = λ (state : PartState). state.batches ++ record { base = state.log_end; count = count; bytes = stamped state.log_end batch } ∷ [] in
    ap (λ (state : PartState). state.batches) s.at ∙ put_batches found by seq t count batch whole sized ∙ ap before (sym s.before)
is_entry by seq t account part found (Followed replica offset) whole sized s = (by, seq, t, s.event)
is_entry by seq t account part found Looked whole sized s = (by, seq, s.event)

-- The log of one partition was asked, whatever others did: what an account shows of it.
pub record ShowsStep (by seq t : ℕ) (account : Account) (part : ℕ) (outcome : PartState → Outcome) (found : History) : Type 0 where
  pub step : IsStep account (AskLog part outcome) (record { result = (outcome (state_of found)).result; point = Some (record { part = part; place = length found.events }) })
  pub owned : slice_get (owners_of account part) (length found.events) ≡ Some (the_owner by seq)
  pub shown : at_point account (record { part = part; place = length found.events }) ≡ state_of (entered found by seq t (outcome (state_of found)).entry)

-- every account shows it whose part of this number goes on from there
pub part_shows : (by seq t : ℕ) (account : Account) (part : ℕ) (outcome : PartState → Outcome) (found : History) (pa : PartAccount) → part < 64 → IsWhole found → IsSized (outcome (state_of found)).entry
    → slice_get account.parts part ≡ Some pa → Longer (entered found by seq t (outcome (state_of found)).entry) (history_of pa) → ShowsStep by seq t account part outcome found
part_shows by seq t account part outcome found pa lt whole sized there longer =
    let entry = (outcome (state_of found)).entry in
    let s = shows_entry by seq t account part found entry pa whole sized there longer in
    let point : Point = record { part = part; place = length found.events } in
    record {
      step = record {
        point = point;
        left = refl;
        there = refl;
        result = ap (λ (state : PartState). (outcome state).result) (sym s.before);
        entry = subst (λ (state : PartState). IsEntry account point (outcome state).entry) (sym s.before) (is_entry by seq t account part found entry whole sized s);
      };
      owned = s.owner lt;
      shown = s.at;
    }

-- what accepting leaves in an account that goes on from it
pub record ShowsAccepted (by seq : ℕ) (account : Account) (decisions : List Decision) (noted : List Noted) : Type 0 where
  pub steps : AllZip (IsStep account) decisions (steps_of noted)
  pub shown : shown_as_accepted account (steps_of noted) ≡ shown_of noted
  pub owned : AllByRecursion (λ point. slice_get (owners_of account point.part) point.place ≡ Some (the_owner by seq)) (step_points (steps_of noted))

pub accepted_shows : (by seq t n : ℕ) (decisions : List Decision) (parts : List History) (account : Account) → length parts ≡ n → n ≤ 64 → AllWhole parts → AllByRecursion (IsFair n) decisions
    → Follows account (accept_all by seq t decisions parts).1 → ShowsAccepted by seq account decisions (accept_all by seq t decisions parts).0
accepted_shows by seq t n [] parts account size few whole fair follows = record { steps = tt; shown = refl; owned = tt }
accepted_shows by seq t n (Refuse code ∷ decisions) parts account size few whole fair follows =
    let rest = accepted_shows by seq t n decisions parts account size few whole fair.1 follows in
    record { steps = (refl, rest.steps); shown = ap (λ (s : List Shown). record { result = Refused code; state = no_state } ∷ s) rest.shown; owned = rest.owned }
accepted_shows by seq t n (AskLog part outcome ∷ decisions) parts account size few whole fair follows =
    let found = history_at parts part in
    let came = outcome (state_of found) in
    let left = entered found by seq t came.entry in
    let within : part < length parts = omega (arith, size, fair.0.0) in
    let found_whole : IsWhole found = whole part found (get_there parts part (empty_history 0) within) in
    let sized : IsSized came.entry = (fair.0.1 (state_of found)).0 in
    let parts1 = set parts part left in
    let size1 : length parts1 ≡ n = length-set parts part left ∙ size in
    let whole1 : AllWhole parts1 = set_whole parts part left whole within (entered_whole found by seq t came.entry found_whole sized) in
    let rest = accepted_shows by seq t n decisions parts1 account size1 few whole1 fair.1 follows in
    let later = accepted_longer by seq t n decisions parts1 size1 fair.1 part left (get_set_same parts part left within) in
    let kept = follows part later.0 later.1 in
    let s = part_shows by seq t account part outcome found kept.0 (omega (arith, size, few, fair.0.0)) found_whole sized kept.1 (longer_on left later.0 (history_of kept.0) later.2 kept.2) in
    record {
      steps = (s.step, rest.steps);
      shown = ap (λ (state : PartState). record { result = came.result; state = state } ∷ shown_as_accepted account (steps_of (accept_all by seq t decisions parts1).0)) s.shown
          ∙ ap (λ (ss : List Shown). record { result = came.result; state = state_of left } ∷ ss) rest.shown;
      owned = (s.owned, rest.owned);
    }

pub set_same : {X Y : Type 0} (f : X → Y) (xs : List X) (i : ℕ) (x y : X) → slice_get xs i ≡ Some x → f y ≡ f x → map f (set xs i y) ≡ map f xs
set_same {Y = Y} f [] i x y there same = refl
set_same {Y = Y} f (z ∷ xs) zero x y there same = ap (λ (v : Y). v ∷ map f xs) (same ∙ ap f (sym (some_is z x there)))
set_same {Y = Y} f (z ∷ xs) (suc i) x y there same = ap (λ (vs : List Y). f z ∷ vs) (set_same f xs i x y there same)

-- the numbers of followers stay
pub accepted_followers : (by seq t n : ℕ) (decisions : List Decision) (parts : List History) → length parts ≡ n → AllByRecursion (IsFair n) decisions
    → map (λ h. h.followers) (accept_all by seq t decisions parts).1 ≡ map (λ h. h.followers) parts
accepted_followers by seq t n [] parts size fair = refl
accepted_followers by seq t n (Refuse code ∷ decisions) parts size fair = accepted_followers by seq t n decisions parts size fair.1
accepted_followers by seq t n (AskLog part outcome ∷ decisions) parts size fair =
    let found = history_at parts part in
    let entry = (outcome (state_of found)).entry in
    let left = entered found by seq t entry in
    let there : slice_get parts part ≡ Some found = get_there parts part (empty_history 0) (omega (arith, size, fair.0.0)) in
    accepted_followers by seq t n decisions (set parts part left) (length-set parts part left ∙ size) fair.1
    ∙ set_same (λ (h : History). h.followers) parts part found left there (entered_followers found by seq t entry)
