use Rattle.std.proofs.Common.{◌∙◌, ◌++◌, ap, sym, append_assoc}
use Rattle.room_table.specs.Seats.{CallerView}
use Rattle.purgatory.specs.Going.{GoesOn}
use Rattle.shared_logs.proofs.sources.PartSources.tell.Goals as goal

goes_far : (a b c : CallerView) → GoesOn a b → GoesOn b c → GoesOn a c
goes_far a b c g h = record {
  table = h.table ∙ g.table;
  pass = h.pass ∙ g.pass;
  newer = h.newer ++ g.newer;
  steps = h.steps ∙ ap (λ steps. h.newer ++ steps) g.steps ∙ sym (append_assoc h.newer g.newer a.steps);
}

pub returns-clause-went : goal.returns-clause-went
returns-clause-went g c =
    let first = c.raise_from.new.pass.seat in
    let then = c.raise_from-2.new.pass.seat in
    goes_far c.args.pass.now.seat then c.raise_from-3.new.pass.seat (goes_far c.args.pass.now.seat first then c.raise_from.ensures.went c.raise_from-2.ensures.went) c.raise_from-3.ensures.went
