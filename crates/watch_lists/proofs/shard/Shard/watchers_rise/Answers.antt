use Rattle.std.proofs.Common.{subst}
use Rattle.watch_lists.specs.Row.{IsRow}
use Rattle.watch_lists.specs.Watches.{Watches, row_of}
use Rattle.watch_lists.proofs.Shards.{key_within, rows_rise}
use Rattle.watch_lists.proofs.Listed.{listed_within, listed_once}
use Rattle.watch_lists.proofs.shard.Shard.watchers_rise.Goals as goal

pub returns-clause-rows : goal.returns-clause-rows
returns-clause-rows c = λ key l.
    let s = c.self.inside in
    let m = key_within s.ids s.rows.items c.args.self.now key c.self.view_is l in
    subst (λ (w : Watches). IsRow key w.ids (row_of w key)) c.self.view_is (rows_rise s.ids s.rows.items c.self.invariant.0 key m)

pub returns-clause-within : goal.returns-clause-within
returns-clause-within c = listed_within c.args.self.now (returns-clause-rows c)

pub returns-clause-once : goal.returns-clause-once
returns-clause-once c = listed_once c.args.self.now (returns-clause-rows c)
