use Rattle.std.proofs.Common.{sym, subst}
use Rattle.std.specs.List.{flat_map, range_with_len}
use Rattle.kwire.specs.Spelling.{partition_fields}
use Rattle.kwire.proofs.Spelled.{Put, put_on}
use Rattle.kwire.proofs.Ranges.{flat_next}
use Rattle.kwire.proofs.put_metadata.put_partitions.Goals as goal

pub loop-index-preserved : goal.loop-index-preserved
loop-index-preserved c =
    let n = c.loop-index.index in
    let part = partition_fields c.args.followers in
    subst (Put c.args.out.now c.put_partition.new.out) (sym (flat_next part n))
    (put_on c.args.out.now c.loop-index.out c.put_partition.new.out (flat_map part (range_with_len 0 n)) (part n) c.loop-index.invariant c.in_ok-put_partition.ensures)
