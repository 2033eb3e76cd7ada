use Rattle.std.proofs.Common.{◌<◌, sym, subst}
use Rattle.partlog.specs.Moment.{moment_of}
use Rattle.trace_file.specs.declared.line.Line.TheVariants.{Clock}
use Rattle.audit.specs.broker.Play.{brought}
use Rattle.lone_broker.specs.Kept.{Kept, StandsFor}
use Rattle.lone_broker.specs.Steps.{IsTicked}
use Rattle.audit.proofs.Laws.{on_ok}
use Rattle.lone_broker.proofs.Risen.{risen_stands, risen_ticked, risen_written, still_stands, still_ticked, still_written}
use Rattle.lone_broker.proofs.engine.Engine.tick.Goals as goal

pub returns-then-rose-clause-brought : goal.returns-then-rose-clause-brought
returns-then-rose-clause-brought c =
    let i = c.self.inside in
    let kept = c.args.self.now in
    let t = c.args.t in
    let rises : moment_of i.clock < t = c.in_ok-rose.ensures.rose.0 c.if-rose.true in
    let risen : moment_of kept.board.clock < t = subst (λ (k : Kept). moment_of k.board.clock < t) c.self.view_is rises in
    on_ok c.shrink_parts.result c.shrink_parts.ensures (λ is board stands.
    subst (λ (k : Kept). StandsFor k (brought board (Clock t)))
    (sym (risen_written i.config i.parts c.as_mut_slice.result.now c.shrink_parts.new.parts i.clock c.tick.new.self i.desks i.parked kept t c.self.view_is c.as_mut_slice.ensures.value is c.in_ok-rose.ensures.ticked rises))
    (risen_stands kept t risen board stands))

pub returns-then-rose-clause-alone : goal.returns-then-rose-clause-alone
returns-then-rose-clause-alone c =
    let i = c.self.inside in
    let kept = c.args.self.now in
    let t = c.args.t in
    let rises : moment_of i.clock < t = c.in_ok-rose.ensures.rose.0 c.if-rose.true in
    let risen : moment_of kept.board.clock < t = subst (λ (k : Kept). moment_of k.board.clock < t) c.self.view_is rises in
    on_ok c.shrink_parts.result c.shrink_parts.ensures (λ is.
    subst (IsTicked kept)
    (sym (risen_written i.config i.parts c.as_mut_slice.result.now c.shrink_parts.new.parts i.clock c.tick.new.self i.desks i.parked kept t c.self.view_is c.as_mut_slice.ensures.value is c.in_ok-rose.ensures.ticked rises))
    (risen_ticked kept t risen))

pub returns-else-rose-clause-brought : goal.returns-else-rose-clause-brought
returns-else-rose-clause-brought c =
    let i = c.self.inside in
    let kept = c.args.self.now in
    let t = c.args.t in
    let never : ¬ (moment_of i.clock < t) = λ rises. let yes = c.in_ok-rose.ensures.rose.1 rises in absurd cc in
    let stays : ¬ (moment_of kept.board.clock < t) = subst (λ (k : Kept). ¬ (moment_of k.board.clock < t)) c.self.view_is never in
    λ board stands. subst (λ (k : Kept). StandsFor k (brought board (Clock t)))
    (sym (still_written i.config i.parts i.clock c.tick.new.self i.desks i.parked kept t c.self.view_is c.in_ok-rose.ensures.ticked never))
    (still_stands kept t stays board stands)

pub returns-else-rose-clause-alone : goal.returns-else-rose-clause-alone
returns-else-rose-clause-alone c =
    let i = c.self.inside in
    let kept = c.args.self.now in
    let t = c.args.t in
    let never : ¬ (moment_of i.clock < t) = λ rises. let yes = c.in_ok-rose.ensures.rose.1 rises in absurd cc in
    subst (IsTicked kept) (sym (still_written i.config i.parts i.clock c.tick.new.self i.desks i.parked kept t c.self.view_is c.in_ok-rose.ensures.ticked never)) (still_ticked kept)
