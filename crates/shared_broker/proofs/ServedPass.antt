-- A pass whose last call was served.
use Rattle.std.proofs.Common.{◌≡◌, ℕ, ◌-◌, List, Option, Some, None, Result, Ok, get_or, length, sym, ap, subst, ◌∙◌, Bool}
use Rattle.audit.specs.declared.account.Call.{Call}
use Rattle.audit.specs.declared.account.Transcript.{Transcript}
use Rattle.kbytes.specs.declared.no_memory.NoMemory.{NoMemory}
use Rattle.kwire.specs.Configuration.{Configuration}
use Rattle.kwire.specs.declared.request.Request.{Request}
use Rattle.shared_broker.specs.declared.calling.Became.{Became}
use Rattle.shared_broker.specs.declared.parked.Parked.{Parked}
use Rattle.shared_broker.specs.Calling.{HasHandledAs}
use Rattle.shared_broker.specs.Passes.{BrokerView, PassView, made_with}
use Rattle.shared_broker.specs.Serving.{HasServed, IsWritten, WasWritten, fresh_call, with_last}
use Rattle.shared_broker.specs.Standing.{Stands}
use Rattle.shared_logs.specs.Seen.{HasSeen}
use Rattle.shared_logs.specs.Shared.{LogPassView}
use Rattle.shared_broker.proofs.LastCalls.{lent_last, set_back, set_last}
use Rattle.shared_broker.proofs.PassStands.{handled_by, is_written, served_handled, served_stands, waits_by}

module _ where
  -- what is known of the last call, whatever call it is
  abbrev pub IsServed : Bool → BrokerView → ℕ → Request → PassView → LogPassView → Option Transcript → Result Became NoMemory → Type 0
  IsServed is_sent broker seq request pass new going r =
      (transcript : Transcript) (call : Call) → pass.going ≡ Some (with_last transcript call)
      → (after : Call) × (going ≡ Some (with_last transcript after)) × HasServed is_sent broker.config seq request (IsWritten broker.config seq request pass.logs call) r pass.logs new call after

  -- from what the call was lent as
  pub served_last : (is_sent : Bool) (broker : BrokerView) (seq : ℕ) (request : Request) (pass : PassView) (new : LogPassView) (r : Result Became NoMemory) (going : Transcript) → pass.going ≡ Some going
      → (lent : List Call) → lent ≡ going.calls → (call after : Call) → call ≡ get_or lent (length lent - 1) call
      → HasServed is_sent broker.config seq request (IsWritten broker.config seq request pass.logs call) r pass.logs new call after → IsServed is_sent broker seq request pass new (Some (set_back going lent after)) r
  served_last is_sent broker seq request pass new r going is lent lent_is call after at h transcript one last = (
    after,
    set_last pass.going going is transcript one last lent lent_is after,
    subst (λ (k : Call). HasServed is_sent broker.config seq request (IsWritten broker.config seq request pass.logs k) r pass.logs new k after) (lent_last pass.going going is transcript one last lent lent_is call at) h,
  )

  pub served_as : (is_sent : Bool) (broker : BrokerView) (seq : ℕ) (request : Request) (pass : PassView) (new : LogPassView) (going : Option Transcript) (became as_this : Became) → became ≡ as_this
      → IsServed is_sent broker seq request pass new going (Ok became) → IsServed is_sent broker seq request pass new going (Ok as_this)
  served_as is_sent broker seq request pass new going became as_this is h = subst (λ (b : Became). IsServed is_sent broker seq request pass new going (Ok b)) is h

module _ (broker : BrokerView) (frame : List ℕ) (request : Request) (seq : ℕ) (before pass now : PassView) (view : pass ≡ now) (w : WasWritten frame request seq before now) (made : made_with now ≡ broker) where
  pass_is : pass ≡ record before { going = Some (with_last w.transcript (fresh_call frame)) }
  pass_is = view ∙ w.new_is

  logs_is : pass.logs ≡ before.logs
  logs_is = ap (λ (p : PassView). p.logs) pass_is

  config_is : before.config ≡ broker.config
  config_is = sym (ap (λ (p : PassView). p.config) w.new_is) ∙ ap (λ (b : BrokerView). b.config) made

  pub pass_going : pass.going ≡ Some (with_last w.transcript (fresh_call frame))
  pass_going = ap (λ (p : PassView). p.going) pass_is

  pub pass_waits : pass.waits ≡ None
  pass_waits = ap (λ (p : PassView). p.waits) pass_is ∙ w.none

  pub written_there : IsWritten broker.config seq request pass.logs (fresh_call frame) before.ended w.transcript
  written_there =
      subst (λ (l : LogPassView). IsWritten broker.config seq request l (fresh_call frame) before.ended w.transcript) (sym logs_is)
      (subst (λ (k : Configuration). IsWritten k seq request before.logs (fresh_call frame) before.ended w.transcript) config_is
      (is_written before w.stood w.transcript w.going w.none frame request seq w.whole w.number w.asked w.decisions w.decided))

  module _ (is_sent : Bool) (new : LogPassView) (going : Option Transcript) where
    came : (r : Result Became NoMemory) → (after : Call) → HasServed is_sent broker.config seq request (IsWritten broker.config seq request pass.logs (fresh_call frame)) r pass.logs new (fresh_call frame) after
        → HasServed is_sent before.config seq request (IsWritten before.config seq request before.logs (fresh_call frame)) r before.logs new (fresh_call frame) after
    came r after h =
        subst (λ (k : Configuration). HasServed is_sent k seq request (IsWritten k seq request before.logs (fresh_call frame)) r before.logs new (fresh_call frame) after) (sym config_is)
        (subst (λ (l : LogPassView). HasServed is_sent broker.config seq request (IsWritten broker.config seq request l (fresh_call frame)) r l new (fresh_call frame) after) logs_is h)

    final_is : (after : Call) → going ≡ Some (with_last w.transcript after) → (waits others : Option Parked) → waits ≡ others
        → record before { logs = new; going = Some (with_last w.transcript after); waits = others } ≡ record pass { logs = new; going = going; waits = waits }
    final_is after is waits others same =
        ap (λ (o : Option Parked). let p : PassView = record before { logs = new; going = Some (with_last w.transcript after); waits = o } in p) (sym same)
        ∙ ap (λ (o : Option Transcript). let p : PassView = record before { logs = new; going = o; waits = waits } in p) (sym is)
        ∙ ap (λ (q : PassView). let p : PassView = record q { logs = new; going = going; waits = waits } in p) (sym pass_is)

    module _ (r : Result Became NoMemory)
        (served : (transcript : Transcript) (call : Call) → pass.going ≡ Some (with_last transcript call)
        → (after : Call) × (going ≡ Some (with_last transcript after)) × HasServed is_sent broker.config seq request (IsWritten broker.config seq request pass.logs call) r pass.logs new call after)
        (waits : Option Parked) (waits_are : waits ≡ waits_by r) where
      pub pass_stands : HasSeen new → Stands (record pass { logs = new; going = going; waits = waits })
      pass_stands seen =
          let s = served w.transcript (fresh_call frame) pass_going in
          subst Stands (final_is s.0 s.1 waits (waits_by r) waits_are) (served_stands is_sent frame request seq before now w r new s.0 (came r s.0 s.2) seen)

      pub pass_handled : HasHandledAs is_sent frame (handled_by r) before (record pass { logs = new; going = going; waits = waits })
      pass_handled =
          let s = served w.transcript (fresh_call frame) pass_going in
          subst (HasHandledAs is_sent frame (handled_by r) before) (final_is s.0 s.1 waits (waits_by r) waits_are) (served_handled is_sent frame request seq before now w new s.0 r (came r s.0 s.2))
