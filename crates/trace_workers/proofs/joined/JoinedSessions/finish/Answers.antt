use Rattle.std.proofs.Common.{◌++◌, Bool, map, sym, subst}
use Rattle.std.specs.Prelude.{All}
use Rattle.trace_file.specs.declared.line.Line.TheVariants.{Clock}
use Rattle.trace_workers.specs.Joined.{HasRun}
use Rattle.trace_workers.specs.Sessions.{KeepsLines}
use Rattle.trace_workers.proofs.JoinedOn.{run_on}
use Rattle.trace_workers.proofs.joined.JoinedSessions.finish.Goals as goal

pub go_on-requires : goal.go_on-requires
go_on-requires g c =
    let r = c.requires in
    let h = c.loop.invariant.run r.0 r.1 r.2 in
    record { whole = (r.0 ++ map Clock h.added, r.1, h.whole) }

pub returns-then-not-drain-clause-run : goal.returns-then-not-drain-clause-run
returns-then-not-drain-clause-run g c lines count h =
    run_on c.args.broker.now lines count c.args.drain c.loop.self c.go_on.new.self c.go_on.ensures.clock c.in_ok-go_on.ensures.whole (c.loop.invariant.run lines count h)

pub returns-then-not-drain-clause-kept : goal.returns-then-not-drain-clause-kept
returns-then-not-drain-clause-kept g c keeps all = c.go_on.ensures.kept keeps (c.loop.invariant.kept keeps all)

pub returns-in_err-go_on-clause-kept : goal.returns-in_err-go_on-clause-kept
returns-in_err-go_on-clause-kept g c keeps all = c.go_on.ensures.kept keeps (c.loop.invariant.kept keeps all)

pub tick-requires : goal.tick-requires
tick-requires g c =
    let broker = c.args.broker.now in
    let r = c.requires in
    let on = c.if-not-drain.false in
    (r.0, r.1, subst (λ (b : Bool). HasRun broker r.0 r.1 b c.go_on.new.self) on (run_on broker r.0 r.1 c.args.drain c.loop.self c.go_on.new.self c.go_on.ensures.clock c.in_ok-go_on.ensures.whole (c.loop.invariant.run r.0 r.1 r.2)))

pub returns-in_err-tick-clause-kept : goal.returns-in_err-tick-clause-kept
returns-in_err-tick-clause-kept g c keeps all = subst (All (KeepsLines keeps)) (sym c.tick.ensures.sessions) (c.go_on.ensures.kept keeps (c.loop.invariant.kept keeps all))

pub loop-preserved : goal.loop-preserved
loop-preserved g c =
    let broker = c.args.broker.now in
    let on = c.if-not-drain.false in
    record {
      run = λ lines count h.
          subst (λ (b : Bool). HasRun broker lines count b c.tick.new.self) (sym on)
          (c.in_ok-tick.ensures.run lines count
          (subst (λ (b : Bool). HasRun broker lines count b c.go_on.new.self) on
          (run_on broker lines count c.args.drain c.loop.self c.go_on.new.self c.go_on.ensures.clock c.in_ok-go_on.ensures.whole (c.loop.invariant.run lines count h))));
      kept = λ keeps all. subst (All (KeepsLines keeps)) (sym c.tick.ensures.sessions) (c.go_on.ensures.kept keeps (c.loop.invariant.kept keeps all));
    }
