use Rattle.std.proofs.Common.{◌+◌, arith, refl}
use Rattle.partlog.proofs.Tracking.{tracked-new}
use Rattle.partlog.proofs.part_log.PartLog.new.Goals as goal

pub invariant_of-result : goal.invariant_of-result
invariant_of-result c =
    rw (c.new.ensures, c.new-2.ensures, c.new-3.ensures.items) (tracked-new c.args.followers c.in_ok-new.field-0 (c.args.followers + 1) (omega (arith, c.if-followers.false)) refl c.in_ok-new.ensures.stands)
