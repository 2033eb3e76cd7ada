use Rattle.std.proofs.Common.{◌≡◌, ◌*◌, ◌^◌, ◌≤◌, List, [], length, replicate, ap, ◌∙◌, subst, sym, arith, ℕ}
use Rattle.watch_lists.specs.declared.watch.Watch.{Watch}
use Rattle.watch_lists.specs.Watches.{Watches, IsListed}
use Rattle.watch_lists.proofs.Shards.{AreRows-new, lists_none, sum_none}
use Rattle.watch_lists.proofs.Listed.{none_listed}
use Rattle.watch_lists.proofs.shard.Shard.new.Goals as goal

pub invariant_of-result : goal.invariant_of-result
invariant_of-result c =
    let rows = c.loop-key.rows.items in
    let i = c.loop-key.invariant in
    let long : length rows ≡ c.args.keys = let l = i.long in omega arith in
    (AreRows-new c.args.ids rows i.none i.room (subst (λ (n : ℕ). n * c.args.ids ≤ 2 ^ 20) (sym long) c.requires), sum_none rows i.none)

pub returns-clause-rows : goal.returns-clause-rows
returns-clause-rows c =
    let rows = c.loop-key.rows.items in
    let i = c.loop-key.invariant in
    let long : length rows ≡ c.args.keys = let l = i.long in omega arith in
    ap (λ (lists : List (List Watch)). let w : Watches = record { ids = c.args.ids; rows = lists } in w)
    (lists_none rows i.none ∙ ap (λ (n : ℕ). replicate n []) long)

pub returns-clause-none : goal.returns-clause-none
returns-clause-none c = λ key id generation h.
    none_listed c.args.ids c.args.keys key id generation (subst (λ (w : Watches). IsListed w key id generation) (returns-clause-rows c) h)
