use Rattle.std.proofs.Common.{◌∙◌, ℕ, List, subst, sym}
use Rattle.shared_broker.specs.Passes.{BrokerView}
use Rattle.trace_file.specs.declared.line.Line.{Line}
use Rattle.trace_workers.specs.Closed.{CameTo, HasGoneOn, IsWhole, StillKeep}
use Rattle.trace_workers.specs.Joined.{HasRun}
use Rattle.trace_workers.specs.declared.joined.Closing.{Closing}
use Rattle.trace_workers.proofs.joined.JoinedSessions.close.Goals as goal

pub finish-requires : goal.finish-requires
finish-requires g c =
    let r = c.requires in
    let i = c.loop.invariant in
    let back = sym i.broker in (
      r.0,
      r.1,
      subst (λ (b : BrokerView). HasRun b r.0 r.1 c.args.drain c.loop.left.joined) back (i.run r.0 r.1 r.2),
      subst (λ (b : BrokerView). IsWhole b r.1) back r.3,
    )

pub loop-preserved : goal.loop-preserved
loop-preserved g c =
    let r = c.requires in
    let i = c.loop.invariant in
    let left = c.loop.left in
    let drain = c.args.drain in
    let again = c.in-Again in
    let gone : (lines : List Line) (count : ℕ) → HasRun c.args.broker lines count drain c.args.self → HasGoneOn left.broker lines count drain (Closing.Again again.broker again.joined)
    = λ lines count run. subst (HasGoneOn left.broker lines count drain) again.is
    (c.in_ok-played.ensures.gone lines count (subst (λ (b : BrokerView). HasRun b lines count drain left.joined) (sym i.broker) (i.run lines count run))) in
    record {
      broker = (gone r.0 r.1 r.2).0 ∙ i.broker;
      run = λ lines count run. subst (λ (b : BrokerView). HasRun b lines count drain again.joined) i.broker (gone lines count run).1;
      kept = λ keeps all. subst (StillKeep keeps) again.is (c.in_ok-played.ensures.kept keeps (i.kept keeps all));
    }

pub returns-in-Closed-clause-come : goal.returns-in-Closed-clause-come
returns-in-Closed-clause-come g c lines count run =
    let i = c.loop.invariant in
    let left = c.loop.left in
    let drain = c.args.drain in
    let before = subst (λ (b : BrokerView). HasRun b lines count drain left.joined) (sym i.broker) (i.run lines count run) in
    let gone = subst (HasGoneOn left.broker lines count drain) c.in-Closed.is (c.in_ok-played.ensures.gone lines count before) in
    subst (λ (b : BrokerView). CameTo b lines count drain c.in-Closed.played) i.broker gone

pub returns-in-Closed-clause-kept : goal.returns-in-Closed-clause-kept
returns-in-Closed-clause-kept g c keeps all = subst (StillKeep keeps) c.in-Closed.is (c.in_ok-played.ensures.kept keeps (c.loop.invariant.kept keeps all))
