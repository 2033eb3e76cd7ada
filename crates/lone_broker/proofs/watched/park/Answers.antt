use Rattle.std.proofs.Common.{ℕ, sym, subst, arith}
use Rattle.lone_broker.specs.index.Waiting.{WaitsWith}
use Rattle.audit.specs.broker.Board.{next_call}
use Rattle.lone_broker.specs.Watching.{IsTaken, MayWait}
use Rattle.lone_broker.proofs.Watching.{few_gauges}
use Rattle.lone_broker.proofs.watched.park.Goals as goal

pub wait-requires-clause-generation : goal.wait-requires-clause-generation
wait-requires-clause-generation c =
    let s = c.args.session in
    let may = subst (MayWait s (next_call c.args.engine.now.board s) c.args.waiters.now) c.in-Some.ensures.some c.requires.free in
    omega (arith, may.0, c.calls-generation.ensures)

pub wait-requires-clause-gauges : goal.wait-requires-clause-gauges
wait-requires-clause-gauges c = few_gauges c.args.engine.now c.args.session c.in-Some.op.now c.requires.stands c.in-Some.ensures.some

pub wait-requires-clause-near : goal.wait-requires-clause-near
wait-requires-clause-near c coming =
    let s = c.args.session in
    let may = subst (MayWait s (next_call c.args.engine.now.board s) c.args.waiters.now) c.in-Some.ensures.some c.requires.free in
    may.1

pub returns-clause-taken : goal.returns-clause-taken
returns-clause-taken c =
    let s = c.args.session in
    let gen = next_call c.args.engine.now.board s in
    subst (IsTaken s gen c.args.waiters.now c.wait.new.self) (sym c.in-Some.ensures.some)
    (subst (λ (n : ℕ). WaitsWith c.wait.new.self s n c.in-Some.op.now) c.calls-generation.ensures c.wait.ensures.waits, c.wait.ensures.suspect)
