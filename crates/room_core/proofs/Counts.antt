-- A winner's wins are as many as the items taken that name it and the words that it has won.
use Rattle.std.proofs.Common.{⊎_elim, ◌≡◌, ◌≢◌, ℕ, zero, suc, ◌+◌, ◌<◌, ◌≤◌, List, [], ◌∷◌, length, get_or, Bool, true, false, cond, sym, ap, refl, ◌∙◌, arith}
use Rattle.std.specs.Prelude.{All, sum_by, count_by, ◌&&◌, ◌==◌}
use Rattle.std.proofs.lemmas.Bool.{cases_eq, cases_lt, eq-eqb, ne_eqb}
use Rattle.std.proofs.lemmas.List.Sums.{sum_by-cons}
use Rattle.room_core.specs.declared.event.How.{How}
use Rattle.room_core.specs.declared.event.How.TheVariants.{Satisfied, Expired}
use Rattle.room_core.specs.declared.parts.Phase.{Phase}
use Rattle.room_core.specs.declared.parts.Phase.TheVariants.{Open, Won}
use Rattle.room_core.specs.declared.parts.Session.{Session}
use Rattle.room_core.specs.declared.parts.Prize.{Prize}
use Rattle.room_core.specs.declared.parts.Taken.{Taken}
use Rattle.room_core.specs.Carried.{IsCarried}
use Rattle.room_core.specs.Counts.{sum_below, is_won_by, taken_by, won_by}
use Rattle.room_core.specs.State.{State}
use Rattle.room_core.proofs.Sums.{sum_both, sum_none, sum_same}
use Rattle.room_core.specs.Wins.{prizes_as, taken_as, won_as, wins_of, same_how, is_prize, is_taken_as}

abbrev bit : Bool → ℕ
bit b = cond b 1 0

-- one place alone counts
no_place : (k : ℕ) (b : Bool) (n : ℕ) → n ≤ k → sum_below (λ i. bit ((k == i) && b)) n ≡ 0
unfolding sum_below
no_place k b zero l = refl
no_place k b (suc n) l =
    let here : bit ((k == n) && b) ≡ 0 = ap (λ c. bit (c && b)) (ne_eqb k n (λ e. absurd (omega arith))) in
    omega (arith, here, no_place k b n (omega arith))

one_place : (k : ℕ) (b : Bool) (n : ℕ) → k < n → sum_below (λ i. bit ((k == i) && b)) n ≡ bit b
unfolding sum_below
one_place k b zero l = absurd (omega arith)
one_place k b (suc n) l =
    ⊎_elim
    (λ (e : k ≡ n).
    let here : bit ((k == n) && b) ≡ bit b = ap (λ c. bit (c && b)) (eq-eqb k n e) in
    omega (arith, here, no_place k b n (omega arith)))
    (λ (m : k ≢ n).
    let here : bit ((k == n) && b) ≡ 0 = ap (λ c. bit (c && b)) (ne_eqb k n m) in
    omega (arith, here, one_place k b n (omega arith)))
    (cases_eq k n)

nowhere : (k : ℕ) (b : Bool) (n : ℕ) → (b ≡ true → k < n) → sum_below (λ i. bit ((k == i) && b)) n ≡ bit b
nowhere k true n l = one_place k true n (l refl)
nowhere k false n l = sum_same (λ i. bit ((k == i) && false)) (λ i. 0) n (λ i m. none (k == i)) ∙ sum_none n where
  none : (c : Bool) → bit (c && false) ≡ 0
  none true = refl
  none false = refl

-- a count, by a number of each item
module _ {A : Type 0} (P : A → Bool) (key : A → ℕ) (n : ℕ) where
  pub counted_by : (xs : List A) → All (λ x. P x ≡ true → key x < n) xs → count_by P xs ≡ sum_below (λ i. count_by (λ x. (key x == i) && P x) xs) n
  counted_by [] all = sym (sum_none n)
  counted_by (x ∷ xs) all =
      let rest : count_by P xs ≡ sum_below (λ i. count_by (λ y. (key y == i) && P y) xs) n = counted_by xs (λ a d l. all (suc a) d (omega arith)) in
      let here : sum_below (λ i. bit ((key x == i) && P x)) n ≡ bit (P x) = nowhere (key x) (P x) n (all 0 x (omega arith)) in
      let split : sum_below (λ i. count_by (λ y. (key y == i) && P y) (x ∷ xs)) n ≡ sum_below (λ i. bit ((key x == i) && P x) + count_by (λ y. (key y == i) && P y) xs) n =
      sum_same (λ i. count_by (λ y. (key y == i) && P y) (x ∷ xs)) (λ i. bit ((key x == i) && P x) + count_by (λ y. (key y == i) && P y) xs) n
      (λ i l. sum_by-cons (λ y. bit ((key y == i) && P y)) x xs) in
      let both : sum_below (λ i. bit ((key x == i) && P x) + count_by (λ y. (key y == i) && P y) xs) n
      ≡ sum_below (λ i. bit ((key x == i) && P x)) n + sum_below (λ i. count_by (λ y. (key y == i) && P y) xs) n =
      sum_both (λ i. bit ((key x == i) && P x)) (λ i. count_by (λ y. (key y == i) && P y) xs) n in
      omega (arith, sum_by-cons (λ y. bit (P y)) x xs, rest, here, split, both)
  -- two counts that agree on each item

pub counts_sum : {A : Type 0} (P Q R : A → Bool) → ((x : A) → bit (P x) ≡ bit (Q x) + bit (R x)) → (xs : List A) → count_by P xs ≡ count_by Q xs + count_by R xs
counts_sum P Q R h [] = refl
counts_sum P Q R h (x ∷ xs) =
    omega (arith, sum_by-cons (λ y. bit (P y)) x xs, sum_by-cons (λ y. bit (Q y)) x xs, sum_by-cons (λ y. bit (R y)) x xs, h x, counts_sum P Q R h xs)

all_count : {A : Type 0} (xs : List A) → length xs ≡ count_by (λ (x : A). true) xs
all_count [] = refl
all_count {A} (x ∷ xs) = omega (arith, sum_by-cons (λ (y : A). 1) x xs, all_count xs)

-- a number above all keys
key_sum : {A : Type 0} → (A → ℕ) → List A → ℕ
key_sum key xs = sum_by (λ x. 1 + key x) xs

keys_below : {A : Type 0} (key : A → ℕ) (n : ℕ) (xs : List A) → sum_by (λ x. 1 + key x) xs ≤ n → All (λ x. key x < n) xs
keys_below key n [] l a d m = absurd (omega arith)
keys_below key n (x ∷ xs) l zero d m = omega (arith, sum_by-cons (λ y. 1 + key y) x xs)
keys_below key n (x ∷ xs) l (suc a) d m = keys_below key n xs (omega (arith, sum_by-cons (λ y. 1 + key y) x xs)) a d (omega arith)

by_how : (how : How) (a b : Bool) → bit (a && (b && true)) ≡ bit (b && (a && same_how how Satisfied)) + bit (b && (a && same_how how Expired))
by_how Satisfied true true = refl
by_how Satisfied true false = refl
by_how Satisfied false true = refl
by_how Satisfied false false = refl
by_how Expired true true = refl
by_how Expired true false = refl
by_how Expired false true = refl
by_how Expired false false = refl

by_way : (how : How) (a b : Bool) → bit (a && b) ≡ bit (a && (same_how how Satisfied && b)) + bit (a && (same_how how Expired && b))
by_way Satisfied true true = refl
by_way Satisfied true false = refl
by_way Satisfied false true = refl
by_way Satisfied false false = refl
by_way Expired true true = refl
by_way Expired true false = refl
by_way Expired false true = refl
by_way Expired false false = refl

-- of one pass and generation
prizes_at : (pass g : ℕ) (xs : List Prize) → count_by (λ x. (x.generation == g) && ((x.pass == pass) && true)) xs ≡ prizes_as xs pass g Satisfied + prizes_as xs pass g Expired
unfolding prizes_as
prizes_at pass g xs =
    counts_sum (λ (x : Prize). (x.generation == g) && ((x.pass == pass) && true)) (is_prize pass g Satisfied) (is_prize pass g Expired)
    (λ x. by_how x.how (x.generation == g) (x.pass == pass)) xs

items_at : (g by : ℕ) (xs : List Taken) → count_by (λ x. (x.generation == g) && (x.by == by)) xs ≡ taken_as xs g Satisfied by + taken_as xs g Expired by
unfolding taken_as
items_at g by xs =
    counts_sum (λ (x : Taken). (x.generation == g) && (x.by == by)) (is_taken_as g Satisfied by) (is_taken_as g Expired by)
    (λ x. by_way x.how (x.generation == g) (x.by == by)) xs

word_at : (g by : ℕ) (w : Session) → (phase : Phase) → w.phase ≡ phase → bit ((w.generation == g) && is_won_by phase by) ≡ won_as w g Satisfied by + won_as w g Expired by
unfolding won_as
word_at g by w (Won how winner) e = rw e (by_way how (w.generation == g) (winner == by))
word_at g by w Phase.Idle e = rw e (by_way Satisfied (w.generation == g) false ∙ refl)
word_at g by w Open e = rw e (by_way Satisfied (w.generation == g) false ∙ refl)

-- a prize counts
one_of : (xs : List Prize) (a : ℕ) (d : Prize) → a < length xs → 1 ≤ prizes_as xs (get_or xs a d).pass (get_or xs a d).generation (get_or xs a d).how
unfolding prizes_as
one_of [] a d l = absurd (omega arith)
one_of (x ∷ xs) zero d l =
    let here : bit (is_prize x.pass x.generation x.how x) ≡ 1 =
    ap (λ b. bit (b && ((x.generation == x.generation) && same_how x.how x.how))) (eq-eqb x.pass x.pass refl)
    ∙ ap (λ b. bit (b && same_how x.how x.how)) (eq-eqb x.generation x.generation refl) ∙ ap (λ b. bit b) (same x.how) in
    omega (arith, sum_by-cons (λ y. bit (is_prize x.pass x.generation x.how y)) x xs, here) where
      same : (how : How) → same_how how how ≡ true
      same Satisfied = refl
      same Expired = refl
one_of (x ∷ xs) (suc a) d l =
    let y : Prize = get_or xs a d in
    omega (arith, sum_by-cons (λ z. bit (is_prize y.pass y.generation y.how z)) x xs, one_of xs a d (omega arith))

none_taken : (g : ℕ) (how : How) (by : ℕ) → taken_as [] g how by ≡ 0
unfolding taken_as
none_taken g how by = refl

none_won : (g : ℕ) (how : How) (by : ℕ) → won_as (record { generation = 0; phase = Phase.Idle }) g how by ≡ 0
unfolding won_as
none_won g how by = ap (λ b. bit b) (no (0 == g)) where
  no : (b : Bool) → (b && false) ≡ false
  no true = refl
  no false = refl

module _ (s : State) (c : IsCarried s) (by : ℕ) where
  wins : List Prize
  wins = wins_of s.scanner s.caller by

  -- a prize is of a pass of the shape
  passes_below : All (λ (x : Prize). true ≡ true → x.pass < s.shape.passes) (wins_of s.scanner s.caller by)
  passes_below a d l _ =
      let x : Prize = get_or (wins_of s.scanner s.caller by) a d in
      ⊎_elim (λ (few : x.pass < s.shape.passes). few)
      (λ (many : s.shape.passes ≤ x.pass).
      let taken : taken_as (s.caller x.pass).taken x.generation x.how by ≡ 0 = ap (λ y. taken_as y.taken x.generation x.how by) (c.within.passes.caller x.pass many) ∙ none_taken x.generation x.how by in
      let won : won_as (s.session x.pass) x.generation x.how by ≡ 0 = ap (λ y. won_as y x.generation x.how by) (c.within.passes.session x.pass many) ∙ none_won x.generation x.how by in
      absurd (omega (arith, taken, won, c.sound.wins.counted by x.pass x.generation x.how, one_of (wins_of s.scanner s.caller by) a d l)))
      (cases_lt x.pass s.shape.passes)

  -- of one pass: what stands in the wins was taken, or stands in the word
  one_pass : (pass : ℕ) → count_by (λ (x : Prize). (x.pass == pass) && true) (wins_of s.scanner s.caller by)
      ≡ count_by (λ item. item.by == by) (s.caller pass).taken + bit (is_won_by (s.session pass).phase by)
  one_pass pass =
      let xs : List Prize = wins_of s.scanner s.caller by in
      let ys : List Taken = (s.caller pass).taken in
      let w : Session = s.session pass in
      let n : ℕ = sum_by (λ (x : Prize). 1 + x.generation) xs + sum_by (λ (y : Taken). 1 + y.generation) ys + (1 + w.generation) in
      let prizes : count_by (λ (x : Prize). (x.pass == pass) && true) xs ≡ sum_below (λ g. count_by (λ (x : Prize). (x.generation == g) && ((x.pass == pass) && true)) xs) n =
      counted_by (λ (x : Prize). (x.pass == pass) && true) (λ x. x.generation) n xs (λ a d l _. keys_below (λ (x : Prize). x.generation) n xs (omega arith) a d l) in
      let items : count_by (λ (y : Taken). y.by == by) ys ≡ sum_below (λ g. count_by (λ (y : Taken). (y.generation == g) && (y.by == by)) ys) n =
      counted_by (λ (y : Taken). y.by == by) (λ y. y.generation) n ys (λ a d l _. keys_below (λ (y : Taken). y.generation) n ys (omega arith) a d l) in
      let word : sum_below (λ g. bit ((w.generation == g) && is_won_by w.phase by)) n ≡ bit (is_won_by w.phase by) = one_place w.generation (is_won_by w.phase by) n (omega arith) in
      let each : sum_below (λ g. count_by (λ (x : Prize). (x.generation == g) && ((x.pass == pass) && true)) xs) n
      ≡ sum_below (λ g. count_by (λ (y : Taken). (y.generation == g) && (y.by == by)) ys + bit ((w.generation == g) && is_won_by w.phase by)) n =
      sum_same (λ g. count_by (λ (x : Prize). (x.generation == g) && ((x.pass == pass) && true)) xs)
      (λ g. count_by (λ (y : Taken). (y.generation == g) && (y.by == by)) ys + bit ((w.generation == g) && is_won_by w.phase by)) n
      (λ g l. omega (arith, prizes_at pass g xs, items_at g by ys, word_at g by w w.phase refl, c.sound.wins.counted by pass g Satisfied, c.sound.wins.counted by pass g Expired)) in
      let both = sum_both (λ g. count_by (λ (y : Taken). (y.generation == g) && (y.by == by)) ys) (λ g. bit ((w.generation == g) && is_won_by w.phase by)) n in
      omega (arith, prizes, items, word, each, both)

  pub wins_counted : length (wins_of s.scanner s.caller by) ≡ taken_by s by + won_by s by
  wins_counted =
      let xs : List Prize = wins_of s.scanner s.caller by in
      let split : count_by (λ (x : Prize). true) xs ≡ sum_below (λ p. count_by (λ (x : Prize). (x.pass == p) && true) xs) s.shape.passes =
      counted_by (λ (x : Prize). true) (λ x. x.pass) s.shape.passes xs passes_below in
      let each : sum_below (λ p. count_by (λ (x : Prize). (x.pass == p) && true) xs) s.shape.passes
      ≡ sum_below (λ p. count_by (λ item. item.by == by) (s.caller p).taken + bit (is_won_by (s.session p).phase by)) s.shape.passes =
      sum_same (λ p. count_by (λ (x : Prize). (x.pass == p) && true) xs) (λ p. count_by (λ item. item.by == by) (s.caller p).taken + bit (is_won_by (s.session p).phase by)) s.shape.passes
      (λ p l. one_pass p) in
      let both = sum_both (λ p. count_by (λ item. item.by == by) (s.caller p).taken) (λ p. bit (is_won_by (s.session p).phase by)) s.shape.passes in
      omega (arith, all_count xs, split, each, both)
