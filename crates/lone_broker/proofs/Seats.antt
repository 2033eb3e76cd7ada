-- A session's calls, the last of them first.
use Rattle.std.proofs.Common.{◌≡◌, ℕ, suc, ◌-◌, List, [], ◌∷◌, ◌++◌, length, Option, Some, refl, sym, ap, ◌∙◌, arith}
use Rattle.std.specs.Prelude.{slice_get, unwrap_or}
use Rattle.audit.specs.declared.account.Call.{Call}
use Rattle.audit.specs.declared.account.CallHow.{CallHow}
use Rattle.audit.specs.declared.account.Point.{Point}
use Rattle.audit.specs.declared.account.Transcript.{Transcript}
use Rattle.audit.specs.broker.Board.{Seat, new_transcript}
use Rattle.audit.specs.broker.Completing.{finish_last}
use Rattle.lone_broker.specs.Desks.{transcript_of}
use Rattle.lone_broker.specs.Kept.{last_frame}
use Rattle.lone_broker.specs.Steps.{last_points}
use Rattle.kbytes.proofs.Laws.{some_is}

pub last_is : (calls : List Call) (call : Call) → Some call ≡ slice_get calls (length calls - 1) → call.frame ≡ last_frame calls
last_is [] call e = absurd cc
last_is (first ∷ []) call e = ap (λ (k : Call). k.frame) (some_is call first e)
last_is (first ∷ next ∷ calls) call e =
    let at : suc (suc (length calls)) - 1 ≡ suc (length calls) = omega arith in
    let back : suc (length calls) - 1 ≡ length calls = omega arith in
    last_is (next ∷ calls) call (e ∙ ap (slice_get (first ∷ next ∷ calls)) at ∙ ap (slice_get (next ∷ calls)) (sym back))

pub last_shown : (seat view : Seat) (transcript : Transcript) (calls : List Call) (call : Call) (frame : List ℕ) → view ≡ seat → view.transcript ≡ Some transcript → calls ≡ transcript.calls → Some call ≡ slice_get calls (length calls - 1)
    → frame ≡ call.frame → (session : ℕ) → frame ≡ last_frame (transcript_of session seat).calls
last_shown seat view transcript calls call frame is there same e framed session =
    framed ∙ last_is calls call e ∙ ap last_frame (same ∙ sym (ap (λ (o : Option Transcript). (unwrap_or o (new_transcript session)).calls) there))
    ∙ ap (λ (x : Seat). last_frame (transcript_of session x).calls) is

-- its points
points_are : (calls : List Call) (call : Call) → Some call ≡ slice_get calls (length calls - 1) → call.accept ≡ last_points calls
points_are [] call e = absurd cc
points_are (first ∷ []) call e = ap (λ (k : Call). k.accept) (some_is call first e)
points_are (first ∷ next ∷ calls) call e =
    let at : suc (suc (length calls)) - 1 ≡ suc (length calls) = omega arith in
    let back : suc (length calls) - 1 ≡ length calls = omega arith in
    points_are (next ∷ calls) call (e ∙ ap (slice_get (first ∷ next ∷ calls)) at ∙ ap (slice_get (next ∷ calls)) (sym back))

pub points_shown : (seat view : Seat) (transcript : Transcript) (calls : List Call) (call : Call) (points : List Point) → view ≡ seat → view.transcript ≡ Some transcript → calls ≡ transcript.calls → Some call ≡ slice_get calls (length calls - 1)
    → points ≡ call.accept → (session : ℕ) → points ≡ last_points (transcript_of session seat).calls
points_shown seat view transcript calls call points is there same e shown session =
    shown ∙ points_are calls call e ∙ ap last_points (same ∙ sym (ap (λ (o : Option Transcript). (unwrap_or o (new_transcript session)).calls) there))
    ∙ ap (λ (x : Seat). last_points (transcript_of session x).calls) is

-- the last call came to its end
pub finish_push : (finish : List Point) (how : CallHow) (calls : List Call) (call : Call) → finish_last finish how (calls ++ call ∷ []) ≡ calls ++ record call { finish = finish; how = how } ∷ []
finish_push finish how [] call = refl
finish_push finish how (first ∷ []) call = refl
finish_push finish how (first ∷ next ∷ calls) call = ap (λ (ks : List Call). first ∷ ks) (finish_push finish how (next ∷ calls) call)
