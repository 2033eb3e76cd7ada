use Rattle.std.proofs.Common.{◌≡◌, ◌≢◌, ◌<◌, List, [], ◌∷◌, ◌++◌, AllPairs, length, get_or, set, insert, ap, sym, ◌∙◌, refl, subst, arith, false, true, cond}
use Rattle.std.proofs.lemmas.List.{get_or_default}
use Rattle.std.proofs.lemmas.List.Edits.{insert_end, length-insert}
use Rattle.watch_lists.specs.declared.watch.Watch.{Watch}
use Rattle.watch_lists.specs.Watches.{listing}
use Rattle.watch_lists.proofs.Rows.{listing_set, listing_insert, IsRow-listing, length-IsRow}
use Rattle.watch_lists.proofs.row.put.Goals as goal
use Rattle.watch_lists.proofs.row.put.Goals.{After-insert, After-push, Else-has_id}

pub returns-then-has_id-clause-items : goal.returns-then-has_id-clause-items
returns-then-has_id-clause-items c =
    let row = c.args.row.now.items in
    let place = c.place_in-place.result in
    let same = c.deref.ensures.value in
    let same' = c.deref-2.ensures.value in
    let rising = subst (AllPairs (λ (a b : Watch). a.id < b.id)) (sym same) c.requires.row.rising in
    let found = c.if-has_id.ensures.0 refl in
    let long = ap length (same' ∙ sym same) in
    subst (λ (r : List Watch). set r place c.args.watch ≡ listing c.args.watch r) same
    (listing_set c.deref.result.now c.args.watch place rising c.place_in-place.ensures.before c.place_in-place.ensures.after (let l = found.0 in omega arith) (λ d. ap (λ (r : List Watch). (get_or r place d).id) (same ∙ sym same') ∙ found.1 d))

-- the watcher goes in at its place
put_in : (c : Else-has_id) → insert c.args.row.now.items c.place_in-place.result c.args.watch ≡ listing c.args.watch c.args.row.now.items
put_in c =
    let row = c.args.row.now.items in
    let place = c.place_in-place.result in
    let same = c.deref.ensures.value in
    let same' = c.deref-2.ensures.value in
    let rising = subst (AllPairs (λ (a b : Watch). a.id < b.id)) (sym same) c.requires.row.rising in
    let long = ap length (same ∙ sym same') in
    let other : (d : Watch) → place < length c.deref.result.now → (get_or c.deref.result.now place d).id ≢ c.args.watch.id = λ d l e.
    let no : false ≡ true = c.if-has_id.ensures.1 (omega arith, λ d'. ap (λ (r : List Watch). (get_or r place d').id) (same' ∙ sym same) ∙ ap (λ (w : Watch). w.id) (get_or_default c.deref.result.now place d' d l) ∙ e) in
    absurd cc in
    subst (λ (r : List Watch). insert r place c.args.watch ≡ listing c.args.watch r) same
    (listing_insert c.deref.result.now c.args.watch place rising c.place_in-place.ensures.before c.place_in-place.ensures.after other)

-- there is room for it in between
put_ok : (c : After-insert) → c.insert.new.self.items ≡ listing c.args.watch c.args.row.now.items
put_ok c =
    let row = c.args.row.now.items in
    let place = c.place_in-place.result in
    let same = ap length c.deref.ensures.value in
    let within = c.place_in-place.ensures.within in
    let more = length-insert row place c.args.watch (omega arith) in
    let is = ap length (put_in c.before.before.before.before) in
    let most = length-IsRow c.args.watch.key c.args.ids (listing c.args.watch row) (IsRow-listing c.args.ids c.args.watch row c.requires.row c.requires.id c.requires.generation) in
    let room = c.requires.room in
    let ok = c.insert.ensures.succeeds (omega arith) in
    c.insert.ensures.items ∙ ap (λ b. cond b (insert row place c.args.watch) row) ok ∙ put_in c.before.before.before.before

pub returns-else-place-len-clause-items : goal.returns-else-place-len-clause-items
returns-else-place-len-clause-items c = put_ok c

pub returns-else-place-len-clause-row : goal.returns-else-place-len-clause-row
returns-else-place-len-clause-row c = rw (put_ok c) (IsRow-listing c.args.ids c.args.watch c.args.row.now.items c.requires.row c.requires.id c.requires.generation)

-- there is room for it at the end
push_ok : (c : After-push) → c.push.new.self.items ≡ listing c.args.watch c.args.row.now.items
push_ok c =
    let row = c.args.row.now.items in
    let place = c.place_in-place.result in
    let here = c.if-place-len.true ∙ c.len.ensures in
    let within = c.place_in-place.ensures.within in
    let same = ap length c.deref.ensures.value in
    let end : place ≡ length row = omega arith in
    let in_place = put_in c.before.before.before.before in
    let at_end : row ++ c.args.watch ∷ [] ≡ listing c.args.watch row = sym (insert_end row c.args.watch) ∙ ap (λ n. insert row n c.args.watch) (sym end) ∙ in_place in
    let more = length-insert row place c.args.watch (omega arith) in
    let is = ap length in_place in
    let most = length-IsRow c.args.watch.key c.args.ids (listing c.args.watch row) (IsRow-listing c.args.ids c.args.watch row c.requires.row c.requires.id c.requires.generation) in
    let room = c.requires.room in
    let ok = c.push.ensures.succeeds (omega arith) in
    c.push.ensures.items ∙ ap (λ b. cond b (row ++ c.args.watch ∷ []) row) ok ∙ at_end

pub returns-then-place-len-clause-items : goal.returns-then-place-len-clause-items
returns-then-place-len-clause-items c = push_ok c

pub returns-then-place-len-clause-row : goal.returns-then-place-len-clause-row
returns-then-place-len-clause-row c = rw (push_ok c) (IsRow-listing c.args.ids c.args.watch c.args.row.now.items c.requires.row c.requires.id c.requires.generation)
