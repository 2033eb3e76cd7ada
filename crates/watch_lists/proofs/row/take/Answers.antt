use Rattle.std.proofs.Common.{◌≡◌, ◌<◌, List, AllPairs, Any, filter, not, length, get_or, remove, ap, sym, ◌∙◌, refl, subst, arith, false, true}
use Rattle.std.proofs.lemmas.List.{get_or_default, get_or_read}
use Rattle.watch_lists.specs.declared.watch.Watch.{Watch}
use Rattle.watch_lists.specs.Watches.{is_of}
use Rattle.watch_lists.proofs.Rows.{take_found, take_none, no_watcher}
use Rattle.watch_lists.proofs.row.take.Goals as goal
use Rattle.watch_lists.proofs.row.take.Goals.{Then-not-has_id, Then-index-generation}

no_id : (c : Then-not-has_id) → (d : Watch) → c.place_in-place.result < length c.deref.result.now → (get_or c.deref.result.now c.place_in-place.result d).id ≡ c.args.id → (get_or c.deref.result.now c.place_in-place.result d).generation ≡ c.args.generation → ⊥
no_id c d l e f =
    let place = c.place_in-place.result in
    let same = c.deref.ensures.value in
    let same' = c.deref-2.ensures.value in
    let long = ap length (same ∙ sym same') in
    let no : false ≡ true = c.if-not-has_id.ensures.1 (omega arith, λ d'. ap (λ (r : List Watch). (get_or r place d').id) (same' ∙ sym same) ∙ ap (λ (w : Watch). w.id) (get_or_default c.deref.result.now place d' d l) ∙ e) in
    cc

pub returns-then-not-has_id-clause-listed : goal.returns-then-not-has_id-clause-listed
returns-then-not-has_id-clause-listed c =
    let same = c.deref.ensures.value in
    let rising = subst (AllPairs (λ (a b : Watch). a.id < b.id)) (sym same) c.requires in
    ((λ e. absurd cc), (λ some. absurd (no_watcher c.deref.result.now c.args.id c.place_in-place.result rising c.place_in-place.ensures.before c.place_in-place.ensures.after c.args.generation (no_id c) (subst (Any (λ (w : Watch). (w.id ≡ c.args.id) × (w.generation ≡ c.args.generation))) (sym same) some))))

pub returns-then-not-has_id-clause-items : goal.returns-then-not-has_id-clause-items
returns-then-not-has_id-clause-items c =
    let same = c.deref.ensures.value in
    let rising = subst (AllPairs (λ (a b : Watch). a.id < b.id)) (sym same) c.requires in
    subst (λ (r : List Watch). r ≡ filter (λ w. not (is_of c.args.id c.args.generation w)) r) same
    (take_none c.deref.result.now c.args.id c.place_in-place.result rising c.place_in-place.ensures.before c.place_in-place.ensures.after c.args.generation (no_id c))

other_generation : (c : Then-index-generation) → (d : Watch) → c.place_in-place.result < length c.deref.result.now → (get_or c.deref.result.now c.place_in-place.result d).id ≡ c.args.id → (get_or c.deref.result.now c.place_in-place.result d).generation ≡ c.args.generation → ⊥
other_generation c d l e f =
    let place = c.place_in-place.result in
    let same = c.deref.ensures.value in
    let long = ap length same in
    let read = get_or_read c.args.row.now.items place _ (omega arith) c.index.ensures d in
    c.if-index-generation.true (ap (λ (w : Watch). w.generation) read ∙ ap (λ (r : List Watch). (get_or r place d).generation) (sym same) ∙ f)

pub returns-then-index-generation-clause-listed : goal.returns-then-index-generation-clause-listed
returns-then-index-generation-clause-listed c =
    let same = c.deref.ensures.value in
    let rising = subst (AllPairs (λ (a b : Watch). a.id < b.id)) (sym same) c.requires in
    ((λ e. absurd cc), (λ some. absurd (no_watcher c.deref.result.now c.args.id c.place_in-place.result rising c.place_in-place.ensures.before c.place_in-place.ensures.after c.args.generation (other_generation c) (subst (Any (λ (w : Watch). (w.id ≡ c.args.id) × (w.generation ≡ c.args.generation))) (sym same) some))))

pub returns-then-index-generation-clause-items : goal.returns-then-index-generation-clause-items
returns-then-index-generation-clause-items c =
    let same = c.deref.ensures.value in
    let rising = subst (AllPairs (λ (a b : Watch). a.id < b.id)) (sym same) c.requires in
    subst (λ (r : List Watch). r ≡ filter (λ w. not (is_of c.args.id c.args.generation w)) r) same
    (take_none c.deref.result.now c.args.id c.place_in-place.result rising c.place_in-place.ensures.before c.place_in-place.ensures.after c.args.generation (other_generation c))

pub returns-clause-items : goal.returns-clause-items
returns-clause-items c =
    let place = c.place_in-place.result in
    let same = c.deref.ensures.value in
    let same' = c.deref-2.ensures.value in
    let rising = subst (AllPairs (λ (a b : Watch). a.id < b.id)) (sym same) c.requires in
    let found = c.if-not-has_id.ensures.0 refl in
    let long = ap length (same' ∙ sym same) in
    let long' = ap length same in
    let l : place < length c.deref.result.now = let m = found.0 in omega arith in
    let id = λ (d : Watch). ap (λ (r : List Watch). (get_or r place d).id) (same ∙ sym same') ∙ found.1 d in
    let generation = λ (d : Watch). ap (λ (r : List Watch). (get_or r place d).generation) same ∙ ap (λ (w : Watch). w.generation) (sym (get_or_read c.args.row.now.items place _ (omega arith) c.index.ensures d)) ∙ c.if-index-generation.false in
    c.remove.ensures.items ∙ subst (λ (r : List Watch). remove r place ≡ filter (λ w. not (is_of c.args.id c.args.generation w)) r) same
    (take_found c.deref.result.now c.args.id place rising c.place_in-place.ensures.before c.place_in-place.ensures.after c.args.generation l id generation)
