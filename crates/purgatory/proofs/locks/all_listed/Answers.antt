use Rattle.std.proofs.Common.{◌∙◌, [], refl}
use Rattle.purgatory.proofs.scans.Laws.{goes_twice}
use Rattle.purgatory.proofs.locks.all_listed.Goals as goal

pub loop-at-init : goal.loop-at-init
loop-at-init c = record {
  from = refl;
  ticket = refl;
  went = record { table = refl; scanner = refl; newer = []; steps = refl };
}

pub listed_here-turn-requires-clause-table : goal.listed_here-turn-requires-clause-table
listed_here-turn-requires-clause-table c = c.loop-at.invariant.went.table ∙ c.requires.table

pub loop-at-preserved : goal.loop-at-preserved
loop-at-preserved c =
    let i = c.loop-at.invariant in
    let turned = c.listed_here-turn in
    record {
      from = turned.ensures.turn.0 ∙ i.from;
      ticket = turned.ensures.turn.1 ∙ i.ticket;
      went = goes_twice c.args.turn.value.seat c.loop-at.turn.value.seat turned.result.value.seat i.went turned.ensures.went;
    }
