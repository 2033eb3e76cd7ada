use Rattle.std.proofs.Common.{◌≡◌, ◌++◌, length, List}
use Rattle.std.specs.Prelude.{None}
use Rattle.std.specs.List.{AllByRecursion}
use Rattle.std.specs.Vec.Iter.{into_iter_items, into_iter_len}
use Rattle.trace_file.specs.declared.line.Line.{Line}
use Rattle.trace_file.specs.Sees.{AreRead, NamesOne}
use Rattle.trace_file.proofs.reading.Reading.take.Given as goal

abbrev pub invariant-loop-line : goal.invariant-loop-line
invariant-loop-line l = record {
  len : into_iter_len l.line-iterator ≡ length (into_iter_items l.line-iterator);
  read : AreRead l.self.only_topics l.self;
  only : l.self.only_topics ≡ l.fn.self.only_topics;
  good : l.self.fault ≡ None;
  done : List Line;
  lines : l.self.lines ≡ l.fn.self.lines ++ done;
  whole : l.fn.part.lines ≡ done ++ into_iter_items l.line-iterator;
  named : AllByRecursion NamesOne (into_iter_items l.line-iterator);
}
