use Rattle.std.proofs.Common.{◌≡◌, ℕ, ◌<◌, ◌≤◌, List, Option, Some, None, Bor, length, ap, subst, sym, ◌∙◌}
use Rattle.std.specs.List.{slice_get, HoldsAt}
use Rattle.std.specs.Option.{MatchOption, option_copied}
use Rattle.std.proofs.lemmas.Option.{slice_get_past, slice_get-get_or}
use Rattle.watch_lists.specs.declared.watch.Watch.{Watch}
use Rattle.watch_lists.specs.Row.{IsRow}
use Rattle.watch_lists.specs.Watches.{Watches, row_of}
use Rattle.watch_lists.proofs.Shards.{row_is, row_ok, key_within, rows_rise}
use Rattle.watch_lists.proofs.Listed.{each_listed, each_within, each_all}
use Rattle.watch_lists.proofs.shard.Shard.each.Goals as goal
use Rattle.watch_lists.proofs.shard.Shard.each.Goals.{After-copied}

copied_read : (o : Option (Bor Watch)) (row : List Watch) (at : ℕ) → MatchOption o (length row ≤ at) (λ x. (at < length row) × HoldsAt (λ y. x.now ≡ y) row at) → option_copied o ≡ slice_get row at
copied_read None row at h = sym (slice_get_past row at h)
copied_read (Some x) row at h = ap Some (h.1 x.now) ∙ sym (slice_get-get_or row at x.now h.0)

read : (c : After-copied) → c.copied.result ≡ slice_get c.index.result.now.items c.args.at
read c =
    c.copied.ensures ∙ copied_read c.get.result c.deref.result.now c.args.at c.get.ensures.lookup.3
    ∙ ap (λ row. slice_get row c.args.at) c.deref.ensures.value

row_read : (c : After-copied) → c.index.result.now.items ≡ row_of c.args.self.now c.args.key
row_read c =
    let s = c.self.inside in
    let l = key_within s.ids s.rows.items c.args.self.now c.args.key c.self.view_is c.requires in
    row_is s.ids s.rows.items c.self.invariant.0 c.args.key l c.index.result.now c.index.ensures
    ∙ ap (λ (w : Watches). row_of w c.args.key) c.self.view_is

place : (c : After-copied) → c.copied.result ≡ slice_get (row_of c.args.self.now c.args.key) c.args.at
place c = read c ∙ ap (λ row. slice_get row c.args.at) (row_read c)

pub returns-clause-place : goal.returns-clause-place
returns-clause-place c = place c

pub returns-clause-listed : goal.returns-clause-listed
returns-clause-listed c =
    let s = c.self.inside in
    let l = key_within s.ids s.rows.items c.args.self.now c.args.key c.self.view_is c.requires in
    let row = row_ok s.ids s.rows.items c.self.invariant.0 c.args.key l c.index.result.now c.index.ensures in
    each_listed c.args.key s.ids (row_of c.args.self.now c.args.key) (rw (row_read c) at row) c.args.at c.copied.result (place c)

pub returns-clause-row : goal.returns-clause-row
returns-clause-row c =
    let s = c.self.inside in
    let key = c.args.key in
    let l = key_within s.ids s.rows.items c.args.self.now key c.self.view_is c.requires in
    subst (λ (w : Watches). IsRow key w.ids (row_of w key)) c.self.view_is (rows_rise s.ids s.rows.items c.self.invariant.0 key l)

pub returns-clause-within : goal.returns-clause-within
returns-clause-within c = each_within c.args.key c.args.self.now.ids (row_of c.args.self.now c.args.key) (returns-clause-row c) c.args.at c.copied.result (place c)

pub returns-clause-all : goal.returns-clause-all
returns-clause-all c = each_all c.args.key (row_of c.args.self.now c.args.key) c.args.at c.copied.result (place c)
