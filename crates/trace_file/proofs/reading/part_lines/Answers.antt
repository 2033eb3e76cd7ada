use Rattle.std.proofs.Common.{List, sym, subst}
use Rattle.trace_file.specs.declared.line.Line.{Line}
use Rattle.trace_file.proofs.TextSoFar.{IsReading, reading_more}
use Rattle.trace_file.proofs.reading.part_lines.Goals as goal

pub loop-piece-preserved : goal.loop-piece-preserved
loop-piece-preserved c =
    let part = c.args.part.now in
    let after = c.in-Some.after.now in
    subst (λ (ls : List Line). IsReading part after ls) (sym c.in_ok-push-in-Ok.ensures.ok)
    (reading_more part c.loop-piece.rest.now after c.in-Some.piece.now c.loop-piece.lines c.in-Ok.line c.loop-piece.invariant c.in-Some.ensures.piece c.in-Ok.ensures.line)
