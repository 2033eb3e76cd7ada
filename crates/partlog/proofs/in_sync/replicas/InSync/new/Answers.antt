use Rattle.std.proofs.Common.{arith, ap, ◌∙◌, length, []}
use Rattle.std.proofs.lemmas.List.FromFn.{length-map-range_with_len}
use Rattle.partlog.specs.in_sync.Standings.{standing_of}
use Rattle.partlog.proofs.in_sync.Kept.{fresh}
use Rattle.partlog.proofs.in_sync.replicas.InSync.new.Goals as goal

pub invariant_of-result : goal.invariant_of-result
invariant_of-result c =
    let long = ap length c.in_ok-unfetched.ensures ∙ length-map-range_with_len (standing_of c.args.followers []) 1 c.args.followers in
    omega (arith, long, c.ranges.followers.fits)

pub returns : goal.returns
returns c = record { stands = fresh c.args.followers c.in_ok-unfetched.field-0.items c.in_ok-unfetched.ensures }
