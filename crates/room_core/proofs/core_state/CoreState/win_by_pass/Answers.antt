use Rattle.std.proofs.Common.{◌≡◌, ◌↔◌, IsTrue, ℕ, ◌+◌, ◌<◌, Bool, length, get_or, arith, ◌∙◌, ap, sym, subst}
use Rattle.std.specs.Prelude.{slice_get}
use Rattle.std.proofs.lemmas.List.{get_or_default}
use Rattle.room_core.specs.declared.event.How.{How}
use Rattle.room_core.specs.declared.parts.Session.{Session}
use Rattle.room_core.specs.declared.parts.Stage.TheVariants.{Checking}
use Rattle.room_core.specs.declared.shape.Shape.{Shape}
use Rattle.room_core.specs.State.{Caller}
use Rattle.room_core.specs.CallerTables.{caller_at, caller_of}
use Rattle.room_core.specs.Checks.{IsWon, OwnerMayWin, caller_wins, exchanged}
use Rattle.room_core.specs.Gauges.{IsPass}
use Rattle.room_core.specs.Tables.{state_of}
use Rattle.room_core.proofs.Views.{table_set, put_as}
use Rattle.room_core.proofs.CallerViews.{caller_here, caller_set, no_session}
use Rattle.room_core.proofs.core_state.CoreState.win_by_pass.Goals as goal

-- a pass that is there may win where its owner's check found so
when_found : (b : Bool) (shape : Shape) (caller other : Caller) (pass : ℕ) (how : How) → IsPass shape pass → other ≡ caller → (IsTrue b ↔ ((caller.stage ≡ Checking) × IsWon shape how caller.description caller.readings)) → IsTrue b ↔ OwnerMayWin shape pass other how
when_found b shape caller other pass how p e w =
    subst (λ (x : Caller). IsTrue b ↔ OwnerMayWin shape pass x how) (sym e) (λ t. (p, (w.0 t).0, (w.0 t).1), λ x. w.1 (x.1, x.2))

pub returns-then-not-has_found-clause-allowed : goal.returns-then-not-has_found-clause-allowed
returns-then-not-has_found-clause-allowed c =
    let l : c.args.pass < length c.args.self.now.caller.items = omega (arith, c.args.self.now.sized.caller_size) in
    let here = caller_here c.args.self.now.caller.items c.args.pass c.index.result.now l c.index.ensures in
    subst (λ (b : Bool). IsTrue b ↔ OwnerMayWin c.args.self.now.shape c.args.pass (caller_at (slice_get c.args.self.now.caller.items c.args.pass)) c.args.how) c.if-not-has_found.true
    (when_found c.has_found.result c.args.self.now.shape (caller_of c.index.result.now) _ c.args.pass c.args.how c.if-pass-self.false here c.has_found.ensures)

pub returns-clause-allowed : goal.returns-clause-allowed
returns-clause-allowed c =
    let l : c.args.pass < length c.args.self.now.caller.items = omega (arith, c.args.self.now.sized.caller_size) in
    let here = caller_here c.args.self.now.caller.items c.args.pass c.index.result.now l c.index.ensures in
    subst (λ (b : Bool). IsTrue b ↔ OwnerMayWin c.args.self.now.shape c.args.pass (caller_at (slice_get c.args.self.now.caller.items c.args.pass)) c.args.how) c.if-not-has_found.false
    (when_found c.has_found.result c.args.self.now.shape (caller_of c.index.result.now) _ c.args.pass c.args.how c.if-pass-self.false here c.has_found.ensures)

pub returns-clause-yes : goal.returns-clause-yes
returns-clause-yes c =
    let l : c.args.pass < length c.args.self.now.caller.items = omega (arith, c.args.self.now.sized.caller_size) in
    let m : c.args.pass < length c.args.self.now.session.items = omega (arith, c.args.self.now.words.session_size) in
    let session : c.index-session.result.now ≡ get_or c.args.self.now.session.items c.args.pass no_session = c.index-session.ensures ∙ get_or_default c.args.self.now.session.items c.args.pass _ no_session m in
    let word = c.exchanged.ensures
    ∙ ap (λ (s : Session). exchanged s c.index-2.result.now.generation c.args.how (17 + c.args.pass)) session
    ∙ ap (λ (caller : Caller). exchanged (get_or c.args.self.now.session.items c.args.pass no_session) caller.generation c.args.how (17 + c.args.pass)) (sym (caller_here c.args.self.now.caller.items c.args.pass c.index-2.result.now l c.index-2.ensures)) in
    let new : caller_of c.wins_by.new.self ≡ caller_wins (caller_of c.index_mut-caller.result.now) c.args.pass c.args.how (get_or c.args.self.now.session.items c.args.pass no_session) =
    c.in_ok-wins_by.ensures.part ∙ ap (caller_wins (caller_of c.index_mut-caller.result.now) c.args.pass c.args.how) session in
    λ d. record (state_of c.args.self.now) {
      session = (table_set c.args.self.now.session.items c.args.pass c.exchanged.result no_session m ∙ put_as (λ i. get_or c.args.self.now.session.items i no_session) c.args.pass _ _ word) d;
      caller = caller_set (λ (caller : Caller). caller_wins caller c.args.pass c.args.how (get_or c.args.self.now.session.items c.args.pass no_session)) c.args.self.now.caller.items c.args.pass c.index_mut-caller.result.now c.wins_by.new.self l c.index_mut-caller.ensures.value new d;
    }
