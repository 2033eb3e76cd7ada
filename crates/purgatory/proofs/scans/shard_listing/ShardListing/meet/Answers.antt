use Rattle.std.proofs.Common.{◌≡◌, ◌≢◌, ◌∙◌, ◌↔◌, ℕ, ap, arith, set, subst, sym}
use Rattle.std.specs.Prelude.{slice_index}
use Rattle.std.proofs.lemmas.List.{get_or_default}
use Rattle.room_table.specs.Seats.{TableView}
use Rattle.watch_lists.specs.Watches.{IsListed}
use Rattle.purgatory.specs.scans.Desks.{ShardView}
use Rattle.purgatory.specs.scans.Shelf.{IsShelf}
use Rattle.purgatory.proofs.scans.Shelves.{dropped_live, met_live, shelf_dropped, shelf_met}
use Rattle.purgatory.proofs.scans.shard_listing.ShardListing.meet.Goals as goal

pub invariant_of-self : goal.invariant_of-self
invariant_of-self c =
    let i = c.self.inside in
    let pass = c.args.pass in
    let passes = ap (λ (v : ShardView). v.seat.table.shape.passes) c.self.view_is ∙ ap (λ (t : TableView). t.shape.passes) c.requires.table in
    let there = c.requires.pass in
    let size = c.self.invariant.kept in
    let kept : c.index-kept.result.now ≡ slice_index i.generations.items pass = c.index-kept.ensures ∙ get_or_default i.generations.items pass _ 0 (omega (arith, passes, there, size)) in
    shelf_met i.generations.items i.scanner c.meet-found.new.self i.shard c.self.invariant pass c.meet-found.result c.meet-found.ensures
    (sym kept ∙ c.if-kept-open.true ∙ c.open_generation-open.ensures)

pub invariant_of-self-2 : goal.invariant_of-self-2
invariant_of-self-2 c =
    let i = c.self.inside in
    let pass = c.args.pass in
    let passes = ap (λ (v : ShardView). v.seat.table.shape.passes) c.self.view_is ∙ ap (λ (t : TableView). t.shape.passes) c.requires.table in
    let there = c.requires.pass in
    let size = c.self.invariant.kept in
    let kept : c.index-kept.result.now ≡ slice_index i.generations.items pass = c.index-kept.ensures ∙ get_or_default i.generations.items pass _ 0 (omega (arith, passes, there, size)) in
    subst (λ n. IsShelf (set i.generations.items pass n) (record { seat = c.meet-found.new.self; watches = c.drop_pass.new.shard })) (sym c.open_generation-open.ensures)
    (shelf_dropped i.generations.items i.scanner c.meet-found.new.self i.shard c.self.invariant pass c.meet-found.result c.meet-found.ensures
    c.drop_pass.new.shard c.drop_pass.ensures.same.0 c.drop_pass.ensures.same.1
    (λ e. c.if-kept-open.false (kept ∙ e ∙ sym c.open_generation-open.ensures))
    (subst (λ n. (k p g : ℕ) → IsListed c.drop_pass.new.shard k p g ↔ (IsListed i.shard k p g × (p ≡ pass → g ≢ n))) kept c.drop_pass.ensures.listed))

pub returns-then-kept-open-clause-live : goal.returns-then-kept-open-clause-live
returns-then-kept-open-clause-live c =
    let i = c.self.inside in
    let pass = c.args.pass in
    let passes = ap (λ (v : ShardView). v.seat.table.shape.passes) c.self.view_is ∙ ap (λ (t : TableView). t.shape.passes) c.requires.table in
    let there = c.requires.pass in
    let size = c.self.invariant.kept in
    let kept : c.index-kept.result.now ≡ slice_index i.generations.items pass = c.index-kept.ensures ∙ get_or_default i.generations.items pass _ 0 (omega (arith, passes, there, size)) in
    λ key g h. met_live i.generations.items i.scanner c.meet-found.new.self i.shard c.self.invariant pass c.meet-found.result c.meet-found.ensures
    (sym kept ∙ c.if-kept-open.true ∙ c.open_generation-open.ensures) key g h

pub returns-clause-live : goal.returns-clause-live
returns-clause-live c =
    let i = c.self.inside in
    let pass = c.args.pass in
    let passes = ap (λ (v : ShardView). v.seat.table.shape.passes) c.self.view_is ∙ ap (λ (t : TableView). t.shape.passes) c.requires.table in
    let there = c.requires.pass in
    let size = c.self.invariant.kept in
    let kept : c.index-kept.result.now ≡ slice_index i.generations.items pass = c.index-kept.ensures ∙ get_or_default i.generations.items pass _ 0 (omega (arith, passes, there, size)) in
    λ key g h. dropped_live i.generations.items i.scanner c.meet-found.new.self i.shard c.self.invariant pass c.meet-found.result c.meet-found.ensures
    c.drop_pass.new.shard (subst (λ n. (k p g : ℕ) → IsListed c.drop_pass.new.shard k p g ↔ (IsListed i.shard k p g × (p ≡ pass → g ≢ n))) kept c.drop_pass.ensures.listed) key g h
