-- One session that rests, and what the account has of it.
use Rattle.std.proofs.Common.{◌≡◌, ◌≢◌, ◌∙◌, ℕ, Bool, true, false, ◌||◌, List, [], ◌∷◌, ◌++◌, MatchBool, Option, Some, None, map, refl, sym, ap, subst}
use Rattle.std.specs.Prelude.{is_some, option_to_list, slice_get}
use Rattle.std.specs.List.{AllByRecursion, list_any}
use Rattle.std.proofs.Math.Bool.{or-false}
use Rattle.std.proofs.lemmas.List.{append-nil}
use Rattle.std.proofs.lemmas.List.Concat.{flat_map-append}
use Rattle.std.proofs.lemmas.List.Folds.{list_any-append}
use Rattle.audit.specs.declared.account.Account.{Account}
use Rattle.audit.specs.declared.account.Call.{Call}
use Rattle.audit.specs.declared.account.CallHow.{CallHow}
use Rattle.audit.specs.declared.account.CallHow.TheVariants.{Parked}
use Rattle.audit.specs.declared.account.SessionEnd.{SessionEnd}
use Rattle.audit.specs.declared.account.Transcript.{Transcript}
use Rattle.audit.specs.Fits.{Fits, LastIsParked}
use Rattle.audit.specs.Histories.{calls_in}
use Rattle.audit.specs.IsLawful.{EndWell, EndsAs, FollowOn}
use Rattle.audit.specs.RunOf.{IsNotCut, IsSessionOf}
use Rattle.audit.specs.broker.books.Told.{told}
use Rattle.shared_broker.specs.Passes.{BrokerView, transcripts_of}
use Rattle.trace_file.specs.Contents.{bytes_in, input_of, is_named, names, shuts}
use Rattle.trace_file.specs.declared.line.Line.{Line}
use Rattle.trace_file.specs.declared.line.Line.TheVariants.{Clock}
use Rattle.trace_workers.specs.Received.{HasHandled, HasReceived, HasReceivedNothing, StandsAt}
use Rattle.trace_workers.specs.Resting.{Rests}
use Rattle.trace_workers.specs.Sessions.{SessionView}
use Rattle.trace_workers.proofs.Transcripts.{alone, last_whole}
use Rattle.trace_workers.proofs.Going.{nothing_of}
use Rattle.trace_workers.proofs.Resting.{rested, told_same}
use Rattle.trace_workers.specs.Workers.{HasTaken}

-- ---- moments bring a session nothing

no_bytes : (session : ℕ) (added : List ℕ) → input_of session (map Clock added) ≡ []
no_bytes session [] = refl
no_bytes session (t ∷ added) = no_bytes session added

no_end : (session : ℕ) (added : List ℕ) → list_any (shuts session) (map Clock added) ≡ false
no_end session [] = refl
no_end session (t ∷ added) = no_end session added

no_name : (session : ℕ) (added : List ℕ) → list_any (names session) (map Clock added) ≡ false
no_name session [] = refl
no_name session (t ∷ added) = no_name session added

none_in : (p : Line → Bool) (lines more : List Line) → list_any p more ≡ false → list_any p (lines ++ more) ≡ list_any p lines
none_in p lines more none = list_any-append p lines more ∙ ap (λ (b : Bool). list_any p lines || b) none ∙ or-false (list_any p lines)

pub taken_before : (broker : BrokerView) (lines : List Line) (added : List ℕ) (s : SessionView) → HasTaken broker (lines ++ map Clock added) s → HasTaken broker lines s
taken_before broker lines added s h =
    let input : input_of s.number (lines ++ map Clock added) ≡ input_of s.number lines =
    flat_map-append (bytes_in s.number) lines (map Clock added)
    ∙ ap (λ (bytes : List ℕ). input_of s.number lines ++ bytes) (no_bytes s.number added)
    ∙ append-nil (input_of s.number lines) in
    record {
      made = h.made;
      pass = h.pass;
      received = subst (λ (i : List ℕ). HasReceived i s) input h.received;
      shut = h.shut ∙ none_in (shuts s.number) lines (map Clock added) (no_end s.number added);
      named = h.named ∙ none_in (names s.number) lines (map Clock added) (no_name s.number added);
      ticked = h.ticked;
    }

-- ---- what its pass tells

abbrev pub told_of : SessionView → List Transcript
told_of s = map told (transcripts_of s.pass)

-- one that was named tells its one transcript
pub told_one : (input : List ℕ) (s : SessionView) (h : HasHandled input s) → told_of s ≡ h.transcript ∷ []
told_one input s h =
    let t = h.transcript in
    ap (map told) (alone t s.pass h.only) ∙ ap (λ (x : Transcript). x ∷ []) (told_same t (last_whole t.calls h.whole))

-- and any other nothing
pub told_none : (input : List ℕ) (s : SessionView) → HasReceivedNothing input s → told_of s ≡ []
told_none input s h =
    ap (λ (ts : List Transcript). map told (ts ++ option_to_list s.pass.going)) h.ended
    ∙ ap (λ (going : Option Transcript). map told (option_to_list going)) h.going

-- what holds of the calls of its one transcript holds of all its calls
of_transcript : (P : Call → Type 0) (t : Transcript) → AllByRecursion P t.calls → AllByRecursion P (calls_in (t ∷ []))
of_transcript P t all = subst (AllByRecursion P) (sym (append-nil t.calls)) all

by_name : (P : Call → Type 0) (input : List ℕ) (s : SessionView) → HasReceived input s → ((h : HasHandled input s) → told_of s ≡ h.transcript ∷ [] → AllByRecursion P h.transcript.calls)
    → AllByRecursion P (calls_in (told_of s))
by_name P input s received each = by_test s.is_named received
  where
    by_test : (b : Bool) → MatchBool b (HasHandled input s) (HasReceivedNothing input s) → AllByRecursion P (calls_in (told_of s))
    by_test true h =
        let one = told_one input s h in
        subst (λ (ts : List Transcript). AllByRecursion P (calls_in ts)) (sym one) (of_transcript P h.transcript (each h one))
    by_test false h = subst (λ (ts : List Transcript). AllByRecursion P (calls_in ts)) (sym (told_none input s h)) tt

-- none of its calls is cut off
pub uncut_calls : (input : List ℕ) (s : SessionView) → HasReceived input s → AllByRecursion IsNotCut (calls_in (told_of s))
uncut_calls input s received = by_name IsNotCut input s received (λ h one. h.whole)

-- ---- it is a session of the run

pub session_of : (broker : BrokerView) (lines : List Line) (account : Account) (s : SessionView) → HasTaken broker lines s → Rests s → slice_get account.passes s.number ≡ Some (told_of s)
    → MatchBool (is_named s.number lines) (IsSessionOf lines account s.number) (slice_get account.passes s.number ≡ Some [])
session_of broker lines account s h rests there = by_test (is_named s.number lines) h.named
  where
    by_test : (b : Bool) → s.is_named ≡ b → MatchBool b (IsSessionOf lines account s.number) (slice_get account.passes s.number ≡ Some [])
    by_test true named =
        let r = rested (input_of s.number lines) s named h.received rests in
        record {
          transcript = r.0;
          alone = there ∙ ap Some r.1;
          number = r.2;
          fits = subst (λ (b : Bool). Fits (input_of s.number lines) b r.0) h.shut r.3;
          end = r.4;
        }
    by_test false unnamed = there ∙ ap Some (told_none (input_of s.number lines) s (nothing_of (input_of s.number lines) s unnamed h.received))

-- ---- nobody waits

abbrev pub IsNotParked : Call → Type 0
IsNotParked call = call.how ≢ Parked

none_parked : (calls : List Call) (end : Option SessionEnd) → EndWell calls end → (end ≡ None → LastIsParked calls → ⊥) → AllByRecursion IsNotParked calls
none_parked [] end well last = tt
none_parked (call ∷ []) end well last = (
  λ parked.
      let ends : EndsAs Parked [] end = subst (λ (how : CallHow). EndsAs how [] end) parked well.0 in
      last ends.1 parked,
  tt,
)
none_parked (call ∷ next ∷ calls) end well last = (
  λ parked.
      let ends : EndsAs Parked (next ∷ calls) end = subst (λ (how : CallHow). EndsAs how (next ∷ calls) end) parked well.0 in
      let e : next ∷ calls ≡ [] = ends.0 in
      absurd cc,
  none_parked (next ∷ calls) end well.1 last,
)

not_last : (input : List ℕ) (s : SessionView) (h : HasHandled input s) → s.pass.waits ≡ None → h.transcript.end ≡ None → LastIsParked h.transcript.calls → ⊥
not_last input s h none goes =
    let stood : StandsAt s h.rest h.transcript None = subst (StandsAt s h.rest h.transcript) goes h.stands in
    subst (λ (b : Bool). MatchBool b (LastIsParked h.transcript.calls) (LastIsParked h.transcript.calls → ⊥)) (ap is_some none) stood.1

pub unparked_calls : (input : List ℕ) (s : SessionView) → HasReceived input s → s.pass.waits ≡ None → FollowOn 0 (told_of s) → AllByRecursion IsNotParked (calls_in (told_of s))
unparked_calls input s received none follow = by_name IsNotParked input s received (λ h one.
    let own : FollowOn 0 (h.transcript ∷ []) = subst (FollowOn 0) one follow in
    none_parked h.transcript.calls h.transcript.end own.1 (not_last input s h none))
