use Rattle.std.proofs.Common.{rules, of_calls, leb}
use Rattle.std.proofs.lemmas.Bool.{leb-true, leb-false}
use Rattle.std.proofs.lemmas.List.Sorted.{IsPartitionedBy-leb, IsPartitionPoint-from_clause}
use Rattle.partlog.specs.declared.batch_start.BatchStart.{BatchStart}
use Rattle.partlog.proofs.search.count_at.Goals as goal

pub returns-clause-point : goal.returns-clause-point
returns-clause-point c =
    let xs = c.args.starts.now in
    let passes = λ (s : BatchStart). leb s.base c.args.offset in
    let parted = IsPartitionedBy-leb (λ (s : BatchStart). s.base) xs c.args.offset c.requires in
    let point = IsPartitionPoint-from_clause passes xs c.partition_point.result c.partition_point.ensures.partitioned parted (λ a r f k. search (rules, of_calls)) in
    (λ k d low high. leb-true _ _ (point.0 k d low high), λ k d low high. leb-false _ _ (point.1 k d low high))
