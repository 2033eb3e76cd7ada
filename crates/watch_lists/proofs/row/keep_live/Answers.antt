use Rattle.std.proofs.Common.{sym, ◌∙◌, arith, length-set}
use Rattle.std.proofs.lemmas.List.Filters.{FiltersInPlace-more_no, FiltersInPlace-more_set}
use Rattle.watch_lists.proofs.row.keep_live.Goals as goal
use Rattle.watch_lists.proofs.row.keep_live.Goals.{then-is_live, else-is_live}

pub loop-at-preserved : goal.loop-at-preserved
loop-at-preserved c =
    let i = c.loop-at.invariant in
    let long = i.long in
    let behind = i.behind in
    let test = c.loop-at-test.true in
    elim c.if-is_live.branch [
      | then-is_live w ↦
          rw (w.row-is, w.kept-is) (record {
            behind = omega arith;
            long = length-set _ _ _ ∙ i.long;
            room = i.room;
            filters = FiltersInPlace-more_set i.filters (omega arith) (sym c.is_live.ensures ∙ w.if-is_live.true) c.index.ensures;
          })
      | else-is_live w ↦
          rw (w.row-is, w.kept-is) (record {
            behind = omega arith;
            long = i.long;
            room = i.room;
            filters = FiltersInPlace-more_no i.filters (omega arith) (sym c.is_live.ensures ∙ w.if-is_live.false) c.index.ensures;
          })
    ]
