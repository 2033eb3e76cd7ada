use Rattle.std.proofs.Common.{inr, refl}
use Rattle.std.proofs.lemmas.Result.{IfOk-weaker}
use Rattle.commands.proofs.Replays.{front_of_source, replay_of}
use Rattle.commands.proofs.replay.replay.Goals as goal

pub play-requires : goal.play-requires
play-requires g c =
    let read = c.in_ok-lines.ensures.trace in
    (read.0, read.1.trace)

pub returns-clause-done : goal.returns-clause-done
returns-clause-done g c =
    let f = c.in_ok-lines.ensures.trace in
    IfOk-weaker c.play.result _ _
    (λ account h. (h.0, replay_of (g.S.Source.left c.args.source.now) f.0 c.in_ok-lines.lines c.in_ok-lines.lines account h.0 f.1.trace refl f.2 h.1, h.2)) c.play.ensures.replay

pub returns-clause-front : goal.returns-clause-front
returns-clause-front g c =
    let f = c.in_ok-lines.ensures.trace in λ e.
    let w = rw e at (c.play.ensures.front f.0 f.1.trace) in
    (w.0, front_of_source (g.S.Source.left c.args.source.now) f.0 w.0 f.2 w.1, w.2)

pub returns-clause-stopped : goal.returns-clause-stopped
returns-clause-stopped g c =
    let f = c.in_ok-lines.ensures.trace in λ e.
    let w = rw e at (c.play.ensures.front f.0 f.1.trace) in
    inr (w.0, front_of_source (g.S.Source.left c.args.source.now) f.0 w.0 f.2 w.1, w.2)
