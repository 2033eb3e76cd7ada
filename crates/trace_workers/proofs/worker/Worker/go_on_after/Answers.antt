use Rattle.std.proofs.Common.{List}
use Rattle.std.proofs.lemmas.Result.{on_ok_weaker}
use Rattle.trace_file.specs.declared.line.Line.{Line}
use Rattle.trace_workers.specs.Workers.{HasDone}
use Rattle.trace_workers.proofs.Moving.{rest_beside}
use Rattle.trace_workers.proofs.Workers.{as_many_sessions}
use Rattle.trace_workers.proofs.worker.Worker.go_on_after.Goals as goal

pub returns-then-self-eq1-clause-rests : goal.returns-then-self-eq1-clause-rests
returns-then-self-eq1-clause-rests g c others =
    let old = c.args.self.now in
    let new = c.go_on_at.new.self in
    rest_beside old.sessions new.sessions c.in-Some.at (as_many_sessions old new c.go_on_at.ensures.same) c.go_on_at.ensures.alone c.in_ok-did.ensures.rests
    (λ k s other less. others c.in-Some.at k s c.in-Some.is other less)

pub go_on-requires-2 : goal.go_on-requires-2
go_on-requires-2 g c = let r = c.requires.done in record { done = (r.0, c.in_ok-did.ensures.done r.0 r.1) }

pub returns-clause-done : goal.returns-clause-done
returns-clause-done g c =
    let broker = c.args.broker.now in
    on_ok_weaker c.go_on-2.result
    (λ (goes : (lines : List Line) → HasDone broker lines c.go_on_at.new.self → HasDone broker lines c.go_on-2.new.self) (lines : List Line) (h : HasDone broker lines c.args.self.now).
    goes lines (c.in_ok-did.ensures.done lines h))
    c.go_on-2.ensures.done
