-- A call is put behind the others of a transcript, where there is memory for it.
use Rattle.std.proofs.Common.{◌≡◌, ℕ, ◌<◌, List, [], ◌∷◌, ◌++◌, false, Option, Some, None, Result, Ok, Err, OnOk, OnErr, refl, sym, ap, subst, ◌∙◌}
use Rattle.kbytes.specs.Octets.{IsBytes}
use Rattle.audit.specs.declared.account.Call.{Call}
use Rattle.audit.specs.declared.account.CallHow.TheVariants.{Cut}
use Rattle.audit.specs.declared.account.Point.{Point}
use Rattle.audit.specs.declared.account.TheConstants.{MOST_CALLS}
use Rattle.audit.specs.declared.account.Transcript.{Transcript}
use Rattle.kanswer.proofs.Laws.{requests_decided}
use Rattle.kwire.specs.declared.request.Request.{Request}
use Rattle.kwire.specs.IsRequest.{IsRequest}
use Rattle.shared_broker.specs.Passes.{PassView, calls_made}
use Rattle.shared_broker.specs.Serving.{WasWritten, fresh_call, with_last}
use Rattle.shared_broker.specs.Sessions.{is_cut_off}
use Rattle.shared_broker.specs.Standing.{Stands}
use Rattle.shared_broker.proofs.PassStands.{written_stands}

pub made_fresh : (frame bytes : List ℕ) (accept finish : List Point) → bytes ≡ frame → accept ≡ [] → finish ≡ []
    → (let call : Call = record { frame = bytes; accept = accept; finish = finish; how = Cut None } in call) ≡ fresh_call frame
made_fresh frame bytes accept finish b a f =
    ap (λ (x : List ℕ). let call : Call = record { frame = x; accept = accept; finish = finish; how = Cut None } in call) b
    ∙ ap (λ (x : List Point). let call : Call = record { frame = frame; accept = x; finish = finish; how = Cut None } in call) a
    ∙ ap (λ (x : List Point). let call : Call = record { frame = frame; accept = []; finish = x; how = Cut None } in call) f

module _ (pass now : PassView) (view : pass ≡ now) (stood : Stands pass) (transcript : Transcript) (going : pass.going ≡ Some transcript) (none : now.waits ≡ None) (whole : is_cut_off now.going ≡ false)
    (few : calls_made now < MOST_CALLS) (frame : List ℕ) (bytes : IsBytes frame) (calls : List Call) (call : Call) (fresh : call ≡ fresh_call frame) where
  no_wait : pass.waits ≡ None
  no_wait = ap (λ (p : PassView). p.waits) view ∙ none

  no_cut : is_cut_off (Some transcript) ≡ false
  no_cut = ap is_cut_off (sym going ∙ ap (λ (p : PassView). p.going) view) ∙ whole

  few_made : calls_made pass < MOST_CALLS
  few_made = subst (λ (p : PassView). calls_made p < MOST_CALLS) (sym view) few

  pub pushed_stands : {T E : Type 0} (r : Result T E) → OnOk r (calls ≡ transcript.calls ++ call ∷ []) → OnErr r (calls ≡ transcript.calls) → (request : Request) → IsRequest frame request
      → Stands (record pass { going = Some (record transcript { calls = calls }) })
  pushed_stands (Ok x) ok err request asked =
      let decided = requests_decided pass.config frame request bytes asked in
      subst (λ (cs : List Call). Stands (record pass { going = Some (record transcript { calls = cs }) })) (sym (ok ∙ ap (λ (c : Call). transcript.calls ++ c ∷ []) fresh))
      (written_stands pass stood transcript going no_wait frame request (calls_made pass) no_cut refl asked decided.0 decided.1 few_made)
  pushed_stands (Err e) ok err request asked =
      subst (λ (cs : List Call). Stands (record pass { going = Some (record transcript { calls = cs }) })) (sym err)
      (subst (λ (o : Option Transcript). Stands (record pass { going = o })) going stood)

  pub pushed_written : {T E : Type 0} (r : Result T E) → OnOk r (calls ≡ transcript.calls ++ call ∷ [])
      → OnOk r ((request : Request) → IsRequest frame request → WasWritten frame request (calls_made now) now (record pass { going = Some (record transcript { calls = calls }) }))
  pushed_written (Ok x) ok = λ request asked.
      let decided = requests_decided now.config frame request bytes asked in
      record {
        stood = subst Stands view stood;
        transcript = transcript;
        going = sym (ap (λ (p : PassView). p.going) view) ∙ going;
        none = none;
        whole = no_cut;
        number = refl;
        few = few;
        asked = asked;
        decisions = decided.0;
        decided = decided.1;
        new_is = ap (λ (cs : List Call). let p : PassView = record pass { going = Some (record transcript { calls = cs }) } in p) (ok ∙ ap (λ (c : Call). transcript.calls ++ c ∷ []) fresh)
            ∙ ap (λ (p : PassView). let q : PassView = record p { going = Some (with_last transcript (fresh_call frame)) } in q) view;
      }
  pushed_written (Err e) ok = tt
