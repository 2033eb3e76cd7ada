use Rattle.std.proofs.Common.{◌∙◌, ap, arith, length-set, subst}
use Rattle.watch_lists.specs.Watches.{IsListed, Watches, keys_of}
use Rattle.purgatory.proofs.scans.Rows.{lower_dropped, lower_same}
use Rattle.purgatory.proofs.scans.shard_listing.drop_from.Goals as goal

pub returns-in_default-clause-others : goal.returns-in_default-clause-others
returns-in_default-clause-others c = λ k i g. (
  λ h. (
    h,
    λ here p same.
        let early = c.in_default.ensures.all i g (subst (λ n. IsListed c.args.shard.now n i g) here h) in
        let none = early.1 in
        absurd (omega (arith, none)),
  ),
  λ h. h.0,
)

pub returns-in_default-clause-lower : goal.returns-in_default-clause-lower
returns-in_default-clause-lower c = lower_same c.args.pass c.args.shard.now

pub returns-clause-same : goal.returns-clause-same
returns-clause-same c = (ap (λ (w : Watches). w.ids) c.drop_stale.ensures.rest, ap keys_of c.drop_stale.ensures.rest ∙ length-set c.args.shard.now.rows c.args.key _)

pub returns-clause-lower : goal.returns-clause-lower
returns-clause-lower c = lower_dropped c.args.pass c.args.generation c.args.key c.args.shard.now c.drop_stale.new.self c.requires.key (c.watchers_rise.ensures.rows c.args.key c.requires.key) c.drop_stale.ensures.rest
