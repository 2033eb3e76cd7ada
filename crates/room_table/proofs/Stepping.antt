-- A step of a seat with one part keeps the rule, where it changes the state as an event of the machine does.
use Rattle.std.proofs.Common.{◌≡◌, ℕ, ◌+◌, ◌<◌, ◌≤◌, ◌≢◌, eqb, List, [], ◌∷◌, length, get_or, set, sym, refl, ap, ◌∙◌, subst, ⊎_elim, arith, eq-eqb, get_or-set_same, get_or-set_other, length-set}
use Rattle.std.specs.Prelude.{All, sum_by}
use Rattle.std.proofs.lemmas.List.Elements.{All-nil, All-cons, All-head}
use Rattle.std.proofs.lemmas.Bool.{cases_eq}
use mathlib.Core.Option.{some}
use lib.ListN.{get_elem?}
use Rattle.atomic_table.specs.Table.{Me, keeps, stepped, Allows}
use Rattle.atomic_table.specs.Table as board
use Rattle.atomic_table.proofs.Lists.{at_set}
use Rattle.room_core.specs.declared.shape.Shape.{Shape}
use Rattle.room_core.specs.declared.word.Word.{Word}
use Rattle.room_core.specs.Carried.{IsCarried}
use Rattle.room_core.specs.State.{State}
use Rattle.room_core.specs.Words.{IsWord, word_at}
use Rattle.room_table.specs.declared.part.Part.{Part}
use Rattle.room_table.specs.Layout.{place_of, size_of}
use Rattle.room_table.specs.Shown.{Shows, number_of, one_if, times, AreWords, IsShown}
use Rattle.room_table.specs.Tells.{Sat}
use Rattle.room_table.proofs.Changes.{Changes}
use Rattle.room_table.proofs.Places.{place_small, same_word}
use Rattle.room_table.proofs.Sums.{sum_by_set, two_le, none_counts}

abbrev pub Board : Type 0
Board = board.State ℕ (List Part)

-- the words after a write of one
words_after : (old new : State) (words : List ℕ) (w : Word) (n : ℕ) (part : Part) → AreWords old words → Changes old new w n part → IsWord old.shape w → AreWords new (set words (place_of old.shape w) n)
words_after old new words w n part are ch is =
    let small : place_of old.shape w < length words = omega (arith, are.size, place_small old.shape w is) in
    record {
      size = length-set words (place_of old.shape w) n ∙ are.size ∙ ap size_of (sym ch.shape);
      each = λ x there.
          let x_is : IsWord old.shape x = subst (λ s. IsWord s x) ch.shape there in
          subst (λ s. get_or (set words (place_of old.shape w) n) (place_of s x) 0 ≡ word_at new x) (sym ch.shape)
          (⊎_elim
          (λ (e : place_of old.shape x ≡ place_of old.shape w).
          let same : x ≡ w = same_word old.shape x w x_is is e in
          ap (λ k. get_or (set words (place_of old.shape w) n) k 0) e ∙ get_or-set_same words (place_of old.shape w) n 0 small ∙ sym ch.here ∙ ap (word_at new) (sym same))
          (λ (m : place_of old.shape x ≢ place_of old.shape w).
          get_or-set_other words (place_of old.shape w) (place_of old.shape x) n 0 m ∙ are.each x x_is ∙ sym (ch.words x (λ e. m (ap (place_of old.shape) e))))
          (cases_eq (place_of old.shape x) (place_of old.shape w)));
    }

module _ (shape : Shape) (s : Board) (r : IsShown shape s) (id : ℕ) (part part' : Part) (at : get_elem? s.views id ≡ some (part ∷ [])) (same : number_of part' ≡ number_of part) where
  count : ℕ → List Part → ℕ
  count number = sum_by (λ q. one_if (eqb (number_of q) number))

  -- in the other seats there is no part of this number
  others_show : (new : State) (w : Word) (n : ℕ) → Changes r.state new w n part' → (i : ℕ) (view : List Part) → get_elem? (set s.views id (part' ∷ [])) i ≡ some view → All (Shows new) view
  others_show new w n ch i view e = ⊎_elim
      (λ (t : (i ≡ id) × ((part' ∷ []) ≡ view)). subst (All (Shows new)) t.1 (All-cons (Shows new) part' [] ch.mine (All-nil (Shows new))))
      (λ (t : (i ≢ id) × (get_elem? s.views i ≡ some view)).
      let f : List Part → ℕ = sum_by (λ q. one_if (eqb (number_of q) (number_of part'))) in
      let two : f (part ∷ []) + f view ≤ sum_by f s.views = two_le f [] refl s.views id i (part ∷ []) view t.0 at t.1 in
      let one : one_if (eqb (number_of part) (number_of part')) ≡ 1 = ap one_if (eq-eqb (number_of part) (number_of part') (sym same)) in
      let here : f (part ∷ []) ≡ 1 = omega arith in
      let once : sum_by f s.views ≤ 1 = r.once (number_of part') in
      let apart : All (λ q. number_of q ≢ number_of part') view = none_counts number_of (number_of part') view (omega arith) in
      λ a d l. ch.others (get_or view a d) (apart a d l) (r.parts i view t.1 a d l))
      (at_set s.views id i (part' ∷ []) view e)

  once_after : (number : ℕ) → times number (set s.views id (part' ∷ [])) ≤ 1
  once_after number =
      let f : List Part → ℕ = sum_by (λ q. one_if (eqb (number_of q) number)) in
      let sum : sum_by f (set s.views id (part' ∷ [])) + f (part ∷ []) ≡ sum_by f s.views + f (part' ∷ []) = sum_by_set f s.views id (part ∷ []) (part' ∷ []) at in
      let alike : f (part' ∷ []) ≡ f (part ∷ []) = ap (λ k. 0 + one_if (eqb k number)) same in
      let was : sum_by f s.views ≤ 1 = r.once number in
      omega arith

  pub rule_after : (w : Word) (n : ℕ) (new : State) → IsWord shape w → Changes r.state new w n part' → IsShown shape (stepped s (place_of shape w) n id [] (part' ∷ []) keeps)
  rule_after w n new is ch = record {
    state = new;
    shape = ch.shape ∙ r.shape;
    carried = ch.carried;
    words = subst (λ sh. AreWords new (set s.words (place_of sh w) n)) r.shape (words_after r.state new s.words w n part' r.words ch (subst (λ sh. IsWord sh w) (sym r.shape) is));
    parts = others_show new w n ch;
    once = once_after;
  }

-- whatever state the table shows, the event changes it so, and what is told is so
pub allowed : (shape : Shape) (slots id : ℕ) (part : Part) (w : Word) (f : ℕ → ℕ) (after : ℕ → Part) (says : ℕ → Type 0) (then : ℕ → Sat → Type 0) (next : State → State)
    → IsWord shape w → ((n : ℕ) → number_of (after n) ≡ number_of part)
    → ((s : State) → IsCarried s → s.shape ≡ shape → Shows s part → Changes s (next s) w (f (word_at s w)) (after (word_at s w)) × says (word_at s w))
    → ((n : ℕ) (m : Sat) → m ≡ (after n ∷ [], []) → says n → then n m)
    → Allows (IsShown shape) slots id (part ∷ [], []) (place_of shape w) f then
allowed shape slots id part w f after says then next is same step tells s r deep at small =
    let found : ℕ = get_or s.words (place_of shape w) 0 in
    let P : Part → Type 0 = Shows r.state in
    let shows : Shows r.state part = All-head P part [] (r.parts id (part ∷ []) at) in
    let made = step r.state r.carried r.shape shows in
    let reads : found ≡ word_at r.state w =
    subst (λ sh. get_or s.words (place_of sh w) 0 ≡ word_at r.state w) r.shape (r.words.each w (subst (λ sh. IsWord sh w) (sym r.shape) is)) in
    let changes : Changes r.state (next r.state) w (f found) (after found) = subst (λ k. Changes r.state (next r.state) w (f k) (after k)) (sym reads) made.0 in
    let said : says found = subst says (sym reads) made.1 in (
      after found ∷ [],
      keeps,
      tt,
      rule_after shape s r id part (after found) at (same found) w (f found) (next r.state) is changes,
      tells found (after found ∷ [], []) refl said,
    )
