use Rattle.std.proofs.Common.{◌≡◌, ◌↔◌, IsTrue, ℕ, ◌<◌, Bool, length, get_or, arith, ◌∙◌, ap, sym, subst}
use Rattle.std.specs.Prelude.{slice_get}
use Rattle.std.proofs.lemmas.List.{get_or_default}
use Rattle.room_core.specs.declared.shape.Shape.{Shape}
use Rattle.room_core.specs.declared.parts.Stage.TheVariants.{Checking}
use Rattle.room_core.specs.State.{Caller}
use Rattle.room_core.specs.CallerTables.{caller_at, caller_of}
use Rattle.room_core.specs.Checks.{AreRead, IsRead, caller_leaves}
use Rattle.room_core.specs.Gauges.{IsGauge, IsPass, clock_of}
use Rattle.room_core.specs.Tables.{state_of}
use Rattle.room_core.proofs.CallerViews.{caller_here, caller_set}
use Rattle.room_core.proofs.core_state.CoreState.leave_by_pass.Goals as goal

abbrev Ends : Shape → ℕ → Caller → Type 0
Ends shape gauge caller =
    (caller.stage ≡ Checking) × AreRead caller.readings gauge caller.description × IsRead caller.readings gauge (clock_of shape)

abbrev Leaves : Shape → ℕ → ℕ → Caller → Type 0
Leaves shape pass gauge caller =
    IsPass shape pass × IsGauge shape gauge × (caller.stage ≡ Checking) × AreRead caller.readings gauge caller.description × IsRead caller.readings gauge (clock_of shape)

-- a pass and a gauge that are there may leave where the check ends
when_ends : (b : Bool) (shape : Shape) (caller other : Caller) (pass gauge : ℕ) → IsPass shape pass → IsGauge shape gauge → other ≡ caller → (IsTrue b ↔ Ends shape gauge caller) → IsTrue b ↔ Leaves shape pass gauge other
when_ends b shape caller other pass gauge p g e w =
    subst (λ (x : Caller). IsTrue b ↔ Leaves shape pass gauge x) (sym e) (λ t. (p, g, (w.0 t).0, (w.0 t).1, (w.0 t).2), λ x. w.1 (x.2, x.3, x.4))

pub returns-then-not-ends_with-clause-allowed : goal.returns-then-not-ends_with-clause-allowed
returns-then-not-ends_with-clause-allowed c =
    let l : c.args.pass < length c.args.self.now.caller.items = omega (arith, c.args.self.now.sized.caller_size) in
    let here = caller_here c.args.self.now.caller.items c.args.pass c.index.result.now l c.index.ensures in
    subst (λ (b : Bool). IsTrue b ↔ Leaves c.args.self.now.shape c.args.pass c.args.gauge (caller_at (slice_get c.args.self.now.caller.items c.args.pass))) c.if-not-ends_with.true
    (when_ends c.ends_with.result c.args.self.now.shape (caller_of c.index.result.now) _ c.args.pass c.args.gauge c.if-pass-self.false c.if-gauge-self.false here c.ends_with.ensures)

pub returns-clause-allowed : goal.returns-clause-allowed
returns-clause-allowed c =
    let l : c.args.pass < length c.args.self.now.caller.items = omega (arith, c.args.self.now.sized.caller_size) in
    let here = caller_here c.args.self.now.caller.items c.args.pass c.index.result.now l c.index.ensures in
    subst (λ (b : Bool). IsTrue b ↔ Leaves c.args.self.now.shape c.args.pass c.args.gauge (caller_at (slice_get c.args.self.now.caller.items c.args.pass))) c.if-not-ends_with.false
    (when_ends c.ends_with.result c.args.self.now.shape (caller_of c.index.result.now) _ c.args.pass c.args.gauge c.if-pass-self.false c.if-gauge-self.false here c.ends_with.ensures)

pub returns-clause-yes : goal.returns-clause-yes
returns-clause-yes c =
    let l : c.args.pass < length c.args.self.now.caller.items = omega (arith, c.args.self.now.sized.caller_size) in
    let m : c.args.gauge < length c.args.self.now.value.items = omega (arith, c.args.self.now.sized.value_size) in
    let value : c.index-value.result.now ≡ get_or c.args.self.now.value.items c.args.gauge 0 = c.index-value.ensures ∙ get_or_default c.args.self.now.value.items c.args.gauge _ 0 m in
    let new : caller_of c.leaves.new.self ≡ caller_leaves c.args.self.now.shape (caller_of c.index_mut-caller.result.now) c.args.gauge (get_or c.args.self.now.value.items c.args.gauge 0) =
    c.leaves.ensures.part ∙ ap (caller_leaves c.args.self.now.shape (caller_of c.index_mut-caller.result.now) c.args.gauge) value in
    λ d. record (state_of c.args.self.now) {
      caller = caller_set (λ (caller : Caller). caller_leaves c.args.self.now.shape caller c.args.gauge (get_or c.args.self.now.value.items c.args.gauge 0)) c.args.self.now.caller.items c.args.pass c.index_mut-caller.result.now c.leaves.new.self l c.index_mut-caller.ensures.value new d;
    }
