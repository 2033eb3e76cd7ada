-- The one transcript of a session: its calls, as one more comes, as the last is completed, and as it ends.
use Rattle.std.proofs.Common.{◌≡◌, ◌≢◌, ℕ, true, false, List, [], ◌∷◌, ◌++◌, length, Option, Some, None, refl, sym, ap, subst, ◌∙◌, append-nil}
use Rattle.std.specs.Prelude.{is_some, option_to_list}
use Rattle.std.specs.List.{AllByRecursion, flat_map}
use Rattle.std.proofs.lemmas.List.Concat.{flat_map-append}
use Rattle.audit.specs.declared.account.Call.{Call}
use Rattle.audit.specs.declared.account.CallHow.{CallHow}
use Rattle.audit.specs.declared.account.CallHow.TheVariants.{Quiet, AtOnce, Satisfied, Expired, Parked, Cut}
use Rattle.audit.specs.declared.account.Transcript.{Transcript}
use Rattle.audit.specs.Fits.{LastIsParked}
use Rattle.audit.specs.Histories.{calls_in}
use Rattle.audit.specs.RunOf.{IsNotCut}
use Rattle.kwire.specs.Frames.{framed}
use Rattle.audit.specs.broker.books.Told.{is_cut, last_is_cut}
use Rattle.shared_broker.specs.Passes.{PassView, calls_made, transcripts_of}
use Rattle.trace_workers.specs.Received.{IsOnly, IsOnlyOf}

-- ---- the only transcript

-- one that goes on
pub record IsGoingOn (transcript : Transcript) (pass : PassView) : Type 0 where
  pub ended : pass.ended ≡ []
  pub going : pass.going ≡ Some transcript
  pub end : transcript.end ≡ None

none_or_some : {X : Type 0} (x : X) → None ≡ Some x → ⊥
none_or_some x e = absurd cc

going_of : (t : Transcript) (ended : List Transcript) (going : Option Transcript) → is_some going ≡ true → IsOnlyOf t ended going → (ended ≡ []) × (going ≡ Some t) × (t.end ≡ None)
going_of t [] going goes only = (refl, only.0, only.1)
going_of t (u ∷ []) going goes only = let e : false ≡ true = ap is_some (sym only.1) ∙ goes in absurd cc
going_of t (u ∷ v ∷ ts) going goes only = absurd only

pub goes_on : (t : Transcript) (pass : PassView) → is_some pass.going ≡ true → IsOnly t pass → IsGoingOn t pass
goes_on t pass goes only = let h = going_of t pass.ended pass.going goes only in record { ended = h.0; going = h.1; end = h.2 }

pub only_going : (t : Transcript) (ended : List Transcript) (going : Option Transcript) → ended ≡ [] → going ≡ Some t → t.end ≡ None → IsOnlyOf t ended going
only_going t ended going none is open_end = subst (λ (ts : List Transcript). IsOnlyOf t ts going) (sym none) (is, open_end)

pub only_ended : (t : Transcript) (ended : List Transcript) (going : Option Transcript) → ended ≡ t ∷ [] → going ≡ None → is_some t.end ≡ true → IsOnlyOf t ended going
only_ended t ended going one over end = subst (λ (ts : List Transcript). IsOnlyOf t ts going) (sym one) (refl, over, end)

-- where none goes on, it has ended
over_of : (t : Transcript) (ended : List Transcript) (going : Option Transcript) → going ≡ None → IsOnlyOf t ended going → is_some t.end ≡ true
over_of t [] going none only = absurd (none_or_some t (sym none ∙ only.0))
over_of t (u ∷ []) going none only = only.2
over_of t (u ∷ v ∷ ts) going none only = absurd only

pub is_over : (t : Transcript) (pass : PassView) → pass.going ≡ None → IsOnly t pass → is_some t.end ≡ true
is_over t pass none only = over_of t pass.ended pass.going none only

alone_of : (t : Transcript) (ended : List Transcript) (going : Option Transcript) → IsOnlyOf t ended going → ended ++ option_to_list going ≡ t ∷ []
alone_of t [] going only = ap option_to_list only.0
alone_of t (u ∷ []) going only = ap (λ (o : Option Transcript). u ∷ option_to_list o) only.1 ∙ ap (λ (x : Transcript). x ∷ []) only.0
alone_of t (u ∷ v ∷ ts) going only = absurd only

pub alone : (t : Transcript) (pass : PassView) → IsOnly t pass → transcripts_of pass ≡ t ∷ []
alone t pass only = alone_of t pass.ended pass.going only

-- so its calls are all that the pass made
pub made_all : (t : Transcript) (pass : PassView) → IsOnly t pass → calls_made pass ≡ length t.calls
made_all t pass only = ap (λ (ts : List Transcript). length (calls_in ts)) (alone t pass only) ∙ ap length (append-nil t.calls)

-- ---- none is cut off

cut_or_not : (how : CallHow) → ((won : Option ℕ) → how ≢ Cut won) → is_cut how ≡ false
cut_or_not Quiet whole = refl
cut_or_not AtOnce whole = refl
cut_or_not (Satisfied by) whole = refl
cut_or_not (Expired by) whole = refl
cut_or_not Parked whole = refl
cut_or_not (Cut won) whole = absurd (whole won refl)

pub last_whole : (calls : List Call) → AllByRecursion IsNotCut calls → last_is_cut calls ≡ false
last_whole [] whole = refl
last_whole (call ∷ []) whole = cut_or_not call.how whole.0
last_whole (call ∷ next ∷ calls) whole = last_whole (next ∷ calls) whole.1

-- ---- one call more at the end

pub parked_last : (front : List Call) (call : Call) → call.how ≡ Parked → LastIsParked (front ++ call ∷ [])
parked_last [] call parked = parked
parked_last (x ∷ []) call parked = parked
parked_last (x ∷ y ∷ front) call parked = parked_last (y ∷ front) call parked

pub unparked_last : (front : List Call) (call : Call) → call.how ≢ Parked → LastIsParked (front ++ call ∷ []) → ⊥
unparked_last [] call not parked = not parked
unparked_last (x ∷ []) call not parked = not parked
unparked_last (x ∷ y ∷ front) call not parked = unparked_last (y ∷ front) call not parked

abbrev pub framed_calls : List Call → List ℕ
framed_calls calls = flat_map (λ call. framed call.frame) calls

pub frames_more : (front : List Call) (call : Call) → framed_calls (front ++ call ∷ []) ≡ framed_calls front ++ framed call.frame
frames_more front call = flat_map-append (λ (c : Call). framed c.frame) front (call ∷ []) ∙ ap (λ (t : List ℕ). framed_calls front ++ t) (append-nil (framed call.frame))

pub all_front : {X : Type 0} (P : X → Type 0) (front : List X) (x : X) → AllByRecursion P (front ++ x ∷ []) → AllByRecursion P front
all_front P [] x all = tt
all_front P (y ∷ front) x all = (all.0, all_front P front x all.1)

pub all_last : {X : Type 0} (P : X → Type 0) (front : List X) (x : X) → AllByRecursion P (front ++ x ∷ []) → P x
all_last P [] x all = all.0
all_last P (y ∷ front) x all = all_last P front x all.1
