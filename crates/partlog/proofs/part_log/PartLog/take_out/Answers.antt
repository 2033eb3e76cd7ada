use lib.Signed.{lt_z}
use Rattle.std.proofs.Common.{◌≡◌, ◌↔◌, ◌<◌, ℕ, ℤ, pos, negsuc, nat_abs, to_z, of_z, w32, List, true, false, arith, ap, refl, sym, subst, ◌∙◌}
use Rattle.std.proofs.lemmas.Bool.{false≢true, ltb-true}
use Rattle.std.proofs.lemmas.Int.{to_z-of_z}
use Rattle.partlog.specs.in_sync.Lagging.{Lags}
use Rattle.partlog.specs.declared.event.PartEvent.{PartEvent}
use Rattle.partlog.specs.History.{History}
use Rattle.partlog.specs.Lagging.{LagsAt}
use Rattle.partlog.specs.Replicas.{replica_events}
use Rattle.partlog.proofs.part_log.PartLog.take_out.Goals as goal
use Rattle.partlog.proofs.part_log.PartLog.take_out.Goals.{then-replica-lt0-via-then-replica-lt0, then-replica-lt0-via-else-replica-lt0+then-not-lags}

below_none : (followers : ℕ) (events : List PartEvent) (t : ℕ) (replica : ℤ) → lt_z replica (pos 0) ≡ true → LagsAt followers events t replica → ⊥
below_none followers events t (pos n) below lagging = let no : n < 0 = ltb-true n 0 below in absurd (omega arith)
below_none followers events t (negsuc n) below lagging = lagging

lags_as : (followers : ℕ) (events : List PartEvent) (t : ℕ) (replica : ℤ) → lt_z replica (pos 0) ≡ false → LagsAt followers events t replica ↔ Lags followers (replica_events events) t (nat_abs replica)
lags_as followers events t (pos n) from = (λ lagging. lagging, λ lagging. lagging)
lags_as followers events t (negsuc n) from = absurd (false≢true (sym from))

pub returns-then-replica-lt0-clause-lags : goal.returns-then-replica-lt0-clause-lags
returns-then-replica-lt0-clause-lags c =
    let same : to_z w32 (of_z w32 c.args.replica) ≡ c.args.replica = to_z-of_z w32 c.args.replica c.ranges.replica in
    let nobody : LagsAt c.self.inside.followers c.self.inside.events c.args.t c.args.replica → ⊥ =
    elim c.then-replica-lt0.branch [
      | then-replica-lt0-via-then-replica-lt0 w ↦ below_none c.self.inside.followers c.self.inside.events c.args.t c.args.replica (ap (λ (z : ℤ). lt_z z (pos 0)) (sym same) ∙ w.if-replica-lt0.true)
      | then-replica-lt0-via-else-replica-lt0+then-not-lags w ↦ λ lagging.
          let said = w.lags.ensures.lags c.self.inside.followers (replica_events c.self.inside.events) c.self.invariant.stands in
          let is = lags_as c.self.inside.followers c.self.inside.events c.args.t c.args.replica (ap (λ (z : ℤ). lt_z z (pos 0)) (sym same) ∙ w.if-replica-lt0.false) in
          absurd (false≢true (sym w.if-not-lags.true ∙ said.1 (subst (λ (z : ℤ). Lags c.self.inside.followers (replica_events c.self.inside.events) c.args.t (nat_abs z)) (sym same) (is.0 lagging))))
    ] in
    (λ is. absurd (false≢true is), λ lagging. absurd (nobody (subst (λ (h : History). LagsAt h.followers h.events c.args.t c.args.replica) (sym c.self.view_is) lagging)))

pub returns-clause-lags : goal.returns-clause-lags
returns-clause-lags c =
    let same : to_z w32 (of_z w32 c.args.replica) ≡ c.args.replica = to_z-of_z w32 c.args.replica c.ranges.replica in
    let said = c.lags.ensures.lags c.self.inside.followers (replica_events c.self.inside.events) c.self.invariant.stands in
    let is = lags_as c.self.inside.followers c.self.inside.events c.args.t c.args.replica (ap (λ (z : ℤ). lt_z z (pos 0)) (sym same) ∙ c.if-replica-lt0.false) in
    let lagging : LagsAt c.self.inside.followers c.self.inside.events c.args.t c.args.replica =
    is.1 (subst (λ (z : ℤ). Lags c.self.inside.followers (replica_events c.self.inside.events) c.args.t (nat_abs z)) same (said.0 c.if-not-lags.false)) in
    (λ _. subst (λ (h : History). LagsAt h.followers h.events c.args.t c.args.replica) c.self.view_is lagging, λ _. refl)
