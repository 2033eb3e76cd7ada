use Rattle.std.proofs.Common.{◌≡◌, true, false, length, sym, subst, arith}
use Rattle.std.proofs.lemmas.List.{get_or_past}
use Rattle.room_core.specs.CallerTables.{table}
use Rattle.room_core.specs.Passes.{all_below}
use Rattle.room_core.proofs.AllBelow.{all_below-false, all_below-more, all_below-none}
use Rattle.room_core.proofs.caller_steps.is_all_below.Goals as goal

pub returns-then-n-seen : goal.returns-then-n-seen
returns-then-n-seen c =
    sym (all_below-false (table c.args.seen.now false) c.args.n (length c.args.seen.now) (omega arith) (get_or_past c.args.seen.now (length c.args.seen.now) false (omega arith)))

pub loop-i-init : goal.loop-i-init
loop-i-init c = all_below-none (table c.args.seen.now false)

pub loop-i-preserved : goal.loop-i-preserved
loop-i-preserved c =
    all_below-more (table c.args.seen.now false) c.loop-i.i c.loop-i.invariant c.if-not-seen-i.false

pub returns-then-not-seen-i : goal.returns-then-not-seen-i
returns-then-not-seen-i c =
    sym (all_below-false (table c.args.seen.now false) c.args.n c.loop-i.i (omega arith) c.if-not-seen-i.true)

pub returns : goal.returns
returns c =
    let e : c.loop-i.i ≡ c.args.n = omega arith in
    sym (subst (λ k. all_below (table c.args.seen.now false) k ≡ true) e c.loop-i.invariant)
