use Rattle.std.proofs.Common.{◌≡◌, ◌∙◌, ◌/◌, ◌<◌, ap, rules, subst, sym}
use Rattle.purgatory.specs.scans.ShardKeeps.{gauge_of_key}
use Rattle.purgatory.proofs.scans.Gauges.{key_few, key_is}
use Rattle.purgatory.proofs.scans.inspector.Inspector.key_of.Goals as goal

pub returns-clause-key : goal.returns-clause-key
returns-clause-key c =
    let now = c.args.self.now in
    let shape = c.owns.ensures.shape in
    let own = c.owns.ensures.own.0 (search rules) in
    let by : c.from.result ≡ 16 = c.from.ensures in (
      key_is now.table.shape now.scanner c.args.gauge c.requires.0 c.requires.1 own.0 ∙ ap (λ n. gauge_of_key now.scanner (c.args.gauge / n)) (sym by),
      subst (λ n. c.args.gauge / n < 12) (sym by) (key_few now.table.shape now.scanner c.args.gauge shape c.requires.1 own.0),
    )
