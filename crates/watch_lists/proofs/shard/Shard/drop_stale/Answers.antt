use Rattle.std.proofs.Common.{◌≡◌, ◌≢◌, ◌↔◌, ◌∙◌, List, filter, not, ap, sym, subst, arith, Contains}
use Rattle.watch_lists.specs.declared.watch.Watch.{Watch}
use Rattle.watch_lists.specs.Watches.{Watches, IsListed, is_of, row_of, with_row}
use Rattle.watch_lists.proofs.Rows.{IsRow-filter}
use Rattle.watch_lists.proofs.Shards.{row_is, row_ok, row_room, changed, key_within, AreRows-set, any_contains, recounts, recounts_small}
use Rattle.watch_lists.proofs.Listed.{drop_others}
use Rattle.watch_lists.proofs.shard.Shard.drop_stale.Goals as goal

pub take-was-requires : goal.take-was-requires
take-was-requires c =
    let s = c.self.inside in
    let l = key_within s.ids s.rows.items c.args.self.now c.args.key c.self.view_is c.requires.key in
    (row_ok s.ids s.rows.items c.self.invariant.0 c.args.key l c.index_mut-row.result.now c.index_mut-row.ensures.value).rising

pub overflow_cast-after : goal.overflow_cast-after
overflow_cast-after c =
    let s = c.self.inside in
    let l = key_within s.ids s.rows.items c.args.self.now c.args.key c.self.view_is c.requires.key in
    let row = row_ok s.ids s.rows.items c.self.invariant.0 c.args.key l c.index_mut-row.result.now c.index_mut-row.ensures.value in
    let room = row_room s.ids s.rows.items c.self.invariant.0 c.args.key l c.index_mut-row.result.now c.index_mut-row.ensures.value in
    let kept = c.take-was.ensures.room in
    let are =
    AreRows-set s.ids s.rows.items c.args.key c.take-was.new.row c.self.invariant.0 l
    (rw c.take-was.ensures.items (IsRow-filter (λ (w : Watch). not (is_of c.args.id c.args.generation w)) c.args.key s.ids c.index_mut-row.result.now.items row))
    (omega arith) in
    let before = c.len-before.ensures in
    let after = c.len-after.ensures in
    let small = recounts_small s.ids s.rows.items c.args.key c.index_mut-row.result.now c.take-was.new.row s.count l c.index_mut-row.ensures.value c.self.invariant.1 are in
    omega (arith, small, before, after)

pub overflow_add-self : goal.overflow_add-self
overflow_add-self c =
    let s = c.self.inside in
    let l = key_within s.ids s.rows.items c.args.self.now c.args.key c.self.view_is c.requires.key in
    let row = row_ok s.ids s.rows.items c.self.invariant.0 c.args.key l c.index_mut-row.result.now c.index_mut-row.ensures.value in
    let room = row_room s.ids s.rows.items c.self.invariant.0 c.args.key l c.index_mut-row.result.now c.index_mut-row.ensures.value in
    let kept = c.take-was.ensures.room in
    let are =
    AreRows-set s.ids s.rows.items c.args.key c.take-was.new.row c.self.invariant.0 l
    (rw c.take-was.ensures.items (IsRow-filter (λ (w : Watch). not (is_of c.args.id c.args.generation w)) c.args.key s.ids c.index_mut-row.result.now.items row))
    (omega arith) in
    let before = c.len-before.ensures in
    let after = c.len-after.ensures in
    let small = recounts_small s.ids s.rows.items c.args.key c.index_mut-row.result.now c.take-was.new.row s.count l c.index_mut-row.ensures.value c.self.invariant.1 are in
    omega (arith, small, before, after)

pub invariant_of-self : goal.invariant_of-self
invariant_of-self c =
    let s = c.self.inside in
    let l = key_within s.ids s.rows.items c.args.self.now c.args.key c.self.view_is c.requires.key in
    let row = row_ok s.ids s.rows.items c.self.invariant.0 c.args.key l c.index_mut-row.result.now c.index_mut-row.ensures.value in
    let room = row_room s.ids s.rows.items c.self.invariant.0 c.args.key l c.index_mut-row.result.now c.index_mut-row.ensures.value in
    let kept = c.take-was.ensures.room in
    let are =
    AreRows-set s.ids s.rows.items c.args.key c.take-was.new.row c.self.invariant.0 l
    (rw c.take-was.ensures.items (IsRow-filter (λ (w : Watch). not (is_of c.args.id c.args.generation w)) c.args.key s.ids c.index_mut-row.result.now.items row))
    (omega arith) in
    let before = c.len-before.ensures in
    let after = c.len-after.ensures in
    let count = recounts s.rows.items c.args.key c.index_mut-row.result.now c.take-was.new.row s.count l c.index_mut-row.ensures.value c.self.invariant.1 in
    (are, omega (arith, count, before, after))

pub returns-clause-listed : goal.returns-clause-listed
returns-clause-listed c =
    let s = c.self.inside in
    let l = key_within s.ids s.rows.items c.args.self.now c.args.key c.self.view_is c.requires.key in
    let row = row_ok s.ids s.rows.items c.self.invariant.0 c.args.key l c.index_mut-row.result.now c.index_mut-row.ensures.value in
    let same = row_is s.ids s.rows.items c.self.invariant.0 c.args.key l c.index_mut-row.result.now c.index_mut-row.ensures.value ∙ ap (λ (w : Watches). row_of w c.args.key) c.self.view_is in
    let watch : Watch = record { key = c.args.key; id = c.args.id; generation = c.args.generation } in
    let both = any_contains c.args.key s.ids c.args.id c.args.generation c.index_mut-row.result.now.items row in (
      (λ t. subst (λ (r : List Watch). Contains r watch) same (both.0 (c.take-was.ensures.listed.0 t))),
      (λ in_it. c.take-was.ensures.listed.1 (both.1 (subst (λ (r : List Watch). Contains r watch) (sym same) in_it))),
    )

pub returns-clause-rest : goal.returns-clause-rest
returns-clause-rest c =
    let s = c.self.inside in
    let l = key_within s.ids s.rows.items c.args.self.now c.args.key c.self.view_is c.requires.key in
    let change = λ (r : List Watch). filter (λ w. not (is_of c.args.id c.args.generation w)) r in
    changed s.ids s.rows.items c.self.invariant.0 c.args.key l c.index_mut-row.result.now c.index_mut-row.ensures.value c.take-was.new.row change c.take-was.ensures.items
    ∙ ap (λ (w : Watches). with_row w c.args.key (change (row_of w c.args.key))) c.self.view_is

pub returns-clause-was : goal.returns-clause-was
returns-clause-was c = returns-clause-listed c

pub returns-clause-others : goal.returns-clause-others
returns-clause-others c = λ k i g.
    subst (λ (w : Watches). IsListed w k i g ↔ (IsListed c.args.self.now k i g × (k ≡ c.args.key → i ≡ c.args.id → g ≢ c.args.generation))) (sym (returns-clause-rest c))
    (drop_others c.args.self.now c.args.key c.args.id c.args.generation c.requires.key k i g)
