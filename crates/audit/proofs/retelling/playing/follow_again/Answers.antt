use Rattle.std.proofs.Common.{Err, ap, subst, ℤ, ◌<◌, ◌^◌, arith}
use Rattle.std.proofs.lemmas.Int.{to_z-of_z, to_z_pos}
use Rattle.std.specs.Int.{w32, w64}
use Rattle.partlog.specs.Added.{log_end_of}
use Rattle.partlog.specs.Follower.{IsFollower}
use Rattle.partlog.specs.InRange.{IsInRange}
use Rattle.audit.proofs.retelling.playing.follow_again.Goals as goal

pub unreachable-requires : goal.unreachable-requires
unreachable-requires c =
    let same = to_z-of_z w32 c.args.replica c.ranges.replica in
    let never = c.in-Err-NoReplica.ensures.no_replica.0 (ap Err c.in-Err-NoReplica.field-0-is) in
    subst (λ (z : ℤ). IsFollower z c.args.log.now.followers → ⊥) same never c.requires.follower

pub unreachable-requires-in-Err-OutOfRange : goal.unreachable-requires-in-Err-OutOfRange
unreachable-requires-in-Err-OutOfRange c =
    let why = (c.in-Err-OutOfRange.ensures.out_of_range c.in-Err-OutOfRange.field-0-0).0 (ap Err c.in-Err-OutOfRange.field-0-is) in
    let small : c.args.offset < 2 ^ 63 = omega (arith, c.numbers-end.ensures.end, c.if-prove.false) in
    subst (λ (z : ℤ). IsInRange z (log_end_of c.args.log.now.events) → ⊥) (to_z_pos w64 c.args.offset small) why.1 c.requires.within
