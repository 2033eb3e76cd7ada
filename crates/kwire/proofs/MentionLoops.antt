-- Mentions that are put one after the other, and looked for among those before them.
use Rattle.std.proofs.Common.{◌≡◌, ℕ, ℤ, ◌+◌, ◌<◌, ◌≤◌, Bool, true, false, cond, List, [], ◌∷◌, ◌++◌, ◌||◌, length, get_or, take, drop, map, Option, Some, None, option_map, refl, sym, ap, ◌∙◌, append_assoc, add-one, drop-cons, arith}
use Rattle.std.specs.List.{list_any}
use Rattle.std.proofs.lemmas.List.{append-nil, map-append, take_more, drop_all, length-take}
use Rattle.std.proofs.lemmas.List.Folds.{list_any-append}
use Rattle.kwire.specs.declared.repeats.Mention.{Mention as Kept}
use Rattle.kwire.specs.Mentions.{view, place_of, parts_mentions, is_same, repeat_after}
use Rattle.kwire.specs.Refusal.{Mention, mentions_from}

-- ---- put one after the other

-- these were put after the first ones
abbrev pub PutBehind : List Kept → List Kept → List Mention → Type 0
PutBehind before now named = map view now ≡ map view before ++ named

pub put_one : (before now after : List Kept) (named : List Mention) (m : Kept) → PutBehind before now named → after ≡ now ++ m ∷ [] → PutBehind before after (named ++ view m ∷ [])
put_one before now after named m put is =
    ap (map view) is ∙ map-append view now (m ∷ []) ∙ ap (λ (ms : List Mention). ms ++ view m ∷ []) put ∙ append_assoc (map view before) named (view m ∷ [])

pub put_nothing : (before : List Kept) → PutBehind before before []
put_nothing before = sym (append-nil (map view before))

pub parts_next : {X : Type 0} (index : X → ℤ) (entry : ℕ) (topic : List ℕ) (parts : List X) (i : ℕ) (d : X) → i < length parts
    → parts_mentions index entry topic (take (i + 1) parts) ≡ parts_mentions index entry topic (take i parts) ++ record { entry = entry; topic = topic; index = index (get_or parts i d) } ∷ []
parts_next index entry topic parts i d lt =
    let one : _ → Mention = λ part. record { entry = entry; topic = topic; index = index part } in
    ap (map one) (take_more parts i d lt) ∙ map-append one (take i parts) (get_or parts i d ∷ [])

-- ---- the topics

module _ {X : Type 0} (each : ℕ → X → List Mention) where
  topic_more : (entry : ℕ) (xs : List X) (x : X) → mentions_from each entry (xs ++ x ∷ []) ≡ mentions_from each entry xs ++ each (entry + length xs) x
  topic_more entry [] x = append-nil (each entry x) ∙ ap (λ (k : ℕ). each k x) (omega arith)
  topic_more entry (y ∷ xs) x =
      ap (λ (ms : List Mention). each entry y ++ ms) (topic_more (entry + 1) xs x)
      ∙ sym (append_assoc (each entry y) (mentions_from each (entry + 1) xs) (each (entry + 1 + length xs) x))
      ∙ ap (λ (k : ℕ). (each entry y ++ mentions_from each (entry + 1) xs) ++ each k x) (omega arith)

  pub topic_next : (topics : List X) (i : ℕ) (d : X) → i < length topics → mentions_from each 0 (take (i + 1) topics) ≡ mentions_from each 0 (take i topics) ++ each i (get_or topics i d)
  topic_next topics i d lt =
      let len : 0 + length (take i topics) ≡ i = omega (arith, length-take i topics) in
      ap (mentions_from each 0) (take_more topics i d lt) ∙ topic_more 0 (take i topics) (get_or topics i d)
      ∙ ap (λ (k : ℕ). mentions_from each 0 (take i topics) ++ each k (get_or topics i d)) len

-- ---- looked for

-- the last one first
abbrev back : List Kept → List Mention
back [] = []
back (x ∷ xs) = back xs ++ view x ∷ []

back_more : (xs : List Kept) (x : Kept) → back (xs ++ x ∷ []) ≡ view x ∷ back xs
back_more [] x = refl
back_more (y ∷ xs) x = ap (λ (ms : List Mention). ms ++ view y ∷ []) (back_more xs x)

or_turned : (a b : Bool) → (a || (b || false)) ≡ (b || a)
or_turned true true = refl
or_turned true false = refl
or_turned false true = refl
or_turned false false = refl

any_back : (p : Mention → Bool) (xs : List Kept) → list_any p (back xs) ≡ list_any (λ x. p (view x)) xs
any_back p [] = refl
any_back p (x ∷ xs) =
    list_any-append p (back xs) (view x ∷ []) ∙ or_turned (list_any p (back xs)) (p (view x)) ∙ ap (λ (b : Bool). p (view x) || b) (any_back p xs)

-- the mentions so far are all different
abbrev pub NoneSoFar : List Kept → ℕ → Type 0
NoneSoFar ms i = repeat_after [] (map view ms) ≡ repeat_after (back (take i ms)) (map view (drop i ms))

pub none_start : (ms : List Kept) → NoneSoFar ms 0
none_start ms = refl

abbrev is_before : Kept → List Kept → Bool
is_before m before = list_any (λ other. is_same (view m) (view other)) before

module _ (ms : List Kept) (i : ℕ) (d : Kept) (lt : i < length ms) where
  next_mention : (found : Bool) → is_before (get_or ms i d) (take i ms) ≡ found
      → repeat_after (back (take i ms)) (map view (drop i ms)) ≡ cond found (Some (view (get_or ms i d))) (repeat_after (back (take (i + 1) ms)) (map view (drop (i + 1) ms)))
  next_mention found search_is =
      let m = get_or ms i d in
      let parts : drop i ms ≡ m ∷ drop (i + 1) ms = rw (add-one, drop-cons ms i d lt) refl in
      let more : take (i + 1) ms ≡ take i ms ++ m ∷ [] = take_more ms i d lt in
      let there : list_any (is_same (view m)) (back (take i ms)) ≡ found = any_back (is_same (view m)) (take i ms) ∙ search_is in
      let turned : back (take (i + 1) ms) ≡ view m ∷ back (take i ms) = ap back more ∙ back_more (take i ms) m in
      ap (λ (xs : List Kept). repeat_after (back (take i ms)) (map view xs)) parts
      ∙ ap (λ (b : Bool). cond b (Some (view m)) (repeat_after (view m ∷ back (take i ms)) (map view (drop (i + 1) ms)))) there
      ∙ ap (λ (before : List Mention). cond found (Some (view m)) (repeat_after before (map view (drop (i + 1) ms)))) (sym turned)

  pub none_more : is_before (get_or ms i d) (take i ms) ≡ false → NoneSoFar ms i → NoneSoFar ms (i + 1)
  none_more search_is so_far = so_far ∙ next_mention false search_is

  pub repeat_found : is_before (get_or ms i d) (take i ms) ≡ true → NoneSoFar ms i → option_map place_of (repeat_after [] (map view ms)) ≡ Some (place_of (view (get_or ms i d)))
  repeat_found search_is so_far = ap (option_map place_of) (so_far ∙ next_mention true search_is)

pub none_found : (ms : List Kept) (i : ℕ) → length ms ≤ i → NoneSoFar ms i → option_map place_of (repeat_after [] (map view ms)) ≡ None
none_found ms i le so_far = ap (option_map place_of) (so_far ∙ ap (λ (xs : List Kept). repeat_after (back (take i ms)) (map view xs)) (drop_all i ms le))

-- ---- places

pub no_place : (found : Option Mention) → option_map place_of found ≡ None → found ≡ None
no_place None e = refl
no_place (Some m) e = absurd cc

pub a_place : (found : Option Mention) (entry : ℕ) (index : ℤ) → option_map place_of found ≡ Some (entry, index) → (m : Mention) × (found ≡ Some m) × ((m.entry ≡ entry) × (m.index ≡ index))
a_place None entry index e = absurd cc
a_place (Some m) entry index e =
    let pair : place_of m ≡ (entry, index) = cc in
    (m, refl, (ap (λ (p : ℕ × ℤ). p.0) pair, ap (λ (p : ℕ × ℤ). p.1) pair))
