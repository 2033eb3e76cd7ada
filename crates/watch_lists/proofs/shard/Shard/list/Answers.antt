use Rattle.std.proofs.Common.{◌≡◌, ◌↔◌, ◌∙◌, ap, sym, subst, arith}
use Rattle.watch_lists.specs.declared.watch.Watch.{Watch}
use Rattle.watch_lists.specs.Watches.{Watches, IsListed, listing, row_of, with_row}
use Rattle.watch_lists.proofs.Shards.{row_ok, row_room, changed, key_within, AreRows-set, recounts, recounts_small}
use Rattle.watch_lists.proofs.Listed.{list_listed, list_others}
use Rattle.watch_lists.proofs.shard.Shard.list.Goals as goal

pub put-requires : goal.put-requires
put-requires c =
    let s = c.self.inside in
    let l = key_within s.ids s.rows.items c.args.self.now c.args.key c.self.view_is c.requires.key in
    let same = ap (λ (w : Watches). w.ids) c.self.view_is in
    let low = c.requires.id in
    record {
      row = row_ok s.ids s.rows.items c.self.invariant.0 c.args.key l c.index_mut-row.result.now c.index_mut-row.ensures.value;
      id = omega arith;
      generation = c.requires.generation;
      room = row_room s.ids s.rows.items c.self.invariant.0 c.args.key l c.index_mut-row.result.now c.index_mut-row.ensures.value;
    }

pub overflow_cast-after : goal.overflow_cast-after
overflow_cast-after c =
    let s = c.self.inside in
    let l = key_within s.ids s.rows.items c.args.self.now c.args.key c.self.view_is c.requires.key in
    let are = AreRows-set s.ids s.rows.items c.args.key c.put.new.row c.self.invariant.0 l c.put.ensures.row c.put.ensures.room in
    let before = c.len-before.ensures in
    let after = c.len-after.ensures in
    let small = recounts_small s.ids s.rows.items c.args.key c.index_mut-row.result.now c.put.new.row s.count l c.index_mut-row.ensures.value c.self.invariant.1 are in
    omega (arith, small, before, after)

pub overflow_add-self : goal.overflow_add-self
overflow_add-self c =
    let s = c.self.inside in
    let l = key_within s.ids s.rows.items c.args.self.now c.args.key c.self.view_is c.requires.key in
    let are = AreRows-set s.ids s.rows.items c.args.key c.put.new.row c.self.invariant.0 l c.put.ensures.row c.put.ensures.room in
    let before = c.len-before.ensures in
    let after = c.len-after.ensures in
    let small = recounts_small s.ids s.rows.items c.args.key c.index_mut-row.result.now c.put.new.row s.count l c.index_mut-row.ensures.value c.self.invariant.1 are in
    omega (arith, small, before, after)

pub invariant_of-self : goal.invariant_of-self
invariant_of-self c =
    let s = c.self.inside in
    let l = key_within s.ids s.rows.items c.args.self.now c.args.key c.self.view_is c.requires.key in
    let are = AreRows-set s.ids s.rows.items c.args.key c.put.new.row c.self.invariant.0 l c.put.ensures.row c.put.ensures.room in
    let before = c.len-before.ensures in
    let after = c.len-after.ensures in
    let count = recounts s.rows.items c.args.key c.index_mut-row.result.now c.put.new.row s.count l c.index_mut-row.ensures.value c.self.invariant.1 in
    (are, omega (arith, count, before, after))

pub returns-clause-rest : goal.returns-clause-rest
returns-clause-rest c =
    let s = c.self.inside in
    let l = key_within s.ids s.rows.items c.args.self.now c.args.key c.self.view_is c.requires.key in
    let watch : Watch = record { key = c.args.key; id = c.args.id; generation = c.args.generation } in
    changed s.ids s.rows.items c.self.invariant.0 c.args.key l c.index_mut-row.result.now c.index_mut-row.ensures.value c.put.new.row (listing watch) c.put.ensures.items
    ∙ ap (λ (w : Watches). with_row w c.args.key (listing watch (row_of w c.args.key))) c.self.view_is

pub returns-clause-listed : goal.returns-clause-listed
returns-clause-listed c = λ g.
    subst (λ (w : Watches). IsListed w c.args.key c.args.id g ↔ (g ≡ c.args.generation)) (sym (returns-clause-rest c))
    (list_listed c.args.self.now c.args.key c.args.id c.args.generation c.requires.key g)

pub returns-clause-others : goal.returns-clause-others
returns-clause-others c = λ k i g apart.
    subst (λ (w : Watches). IsListed w k i g ↔ IsListed c.args.self.now k i g) (sym (returns-clause-rest c))
    (list_others c.args.self.now c.args.key c.args.id c.args.generation c.requires.key k i g apart)
