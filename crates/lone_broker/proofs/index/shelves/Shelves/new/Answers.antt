use Rattle.std.proofs.Common.{◌≡◌, ◌++◌, ◌∷◌, [], List, ap, sym, ◌∙◌, subst, arith, rules}
use Rattle.std.proofs.lemmas.List.{length-replicate}
use Rattle.watch_lists.specs.declared.watch.Watch.{Watch}
use Rattle.watch_lists.specs.Watches.{Watches, keys_of}
use Rattle.lone_broker.proofs.index.Listings.{AreFresh, fresh-push, nobody_watches}
use Rattle.lone_broker.proofs.index.shelves.Shelves.new.Goals as goal

pub loop-at-preserved : goal.loop-at-preserved
loop-at-preserved c =
    let old = c.loop-at.shards.items in
    let shard = c.in_ok-shard.shard in
    let pushed : c.push.new.self.items ≡ old ++ shard ∷ [] = search rules in
    let made = c.in_ok-shard.ensures.rows in
    let nobody : List Watch = [] in
    record {
      long = search rules;
      fresh = subst AreFresh (sym pushed)
          (fresh-push old shard c.loop-at.invariant.fresh (ap keys_of made ∙ length-replicate 12 nobody) (ap (λ (w : Watches). w.ids) made) c.in_ok-shard.ensures.none);
    }

pub returns : goal.returns
returns c = nobody_watches c.loop-at.shards.items c.loop-at.invariant.fresh (let long = c.loop-at.invariant.long in let end = c.loop-at-test.false in let most = c.loop-at.auto._at-end in omega arith)
