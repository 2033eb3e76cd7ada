use Rattle.std.proofs.Common.{rules, of_calls, ltb}
use Rattle.std.proofs.lemmas.Bool.{ltb-true, ltb-false}
use Rattle.std.proofs.lemmas.List.Sorted.{IsPartitionedBy-ltb, IsPartitionPoint-from_clause}
use Rattle.partlog.specs.declared.batch_start.BatchStart.{BatchStart}
use Rattle.partlog.proofs.search.count_before.Goals as goal

pub returns-clause-point : goal.returns-clause-point
returns-clause-point c =
    let xs = c.args.starts.now in
    let passes = λ (s : BatchStart). ltb s.place c.args.place in
    let parted = IsPartitionedBy-ltb (λ (s : BatchStart). s.place) xs c.args.place c.requires in
    let point = IsPartitionPoint-from_clause passes xs c.partition_point.result c.partition_point.ensures.partitioned parted (λ a r f k. search (rules, of_calls)) in
    (λ k d low high. ltb-true _ _ (point.0 k d low high), λ k d low high. ltb-false _ _ (point.1 k d low high))
