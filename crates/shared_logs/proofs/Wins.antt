-- What the passes have taken, added up over the passes and over their numbers.
use Rattle.std.proofs.Common.{⊎_elim, ◌≡◌, ◌≢◌, ◌∙◌, ℕ, zero, suc, ◌+◌, ◌-◌, ◌<◌, ◌≤◌, Bool, cond, List, [], ◌∷◌, length, ap, refl, sym, arith}
use Rattle.std.specs.Prelude.{All, count_by, slice_index, sum_by, ◌==◌}
use Rattle.std.proofs.lemmas.Bool.{cases_eq, eq-eqb, ne_eqb}
use Rattle.std.proofs.lemmas.List.Elements.{All-head, All-tail, All-weaker}
use Rattle.std.proofs.lemmas.List.Sums.{sum_by-cons}
use Rattle.room_core.specs.declared.parts.Taken.{Taken}
use Rattle.room_core.specs.declared.shape.Shape.{Shape}
use Rattle.room_core.specs.Counts.{sum_below, taken_by}
use Rattle.room_core.specs.declared.parts.Prize.{Prize}
use Rattle.room_core.specs.Wins.{wins_of}
use Rattle.room_core.proofs.Laws.{wins_counted, wins_of-pass}
use Rattle.room_core.specs.State.{Caller}
use Rattle.room_table.specs.Seats.{CallerView, SourceView, caller_now}
use Rattle.purgatory.specs.Closed.{IsClosed}
use Rattle.purgatory.specs.Ends.{StillView}
use Rattle.purgatory.specs.Rooms.{winners}
use Rattle.shared_logs.specs.Closing.{taken_from}

abbrev bit : Bool → ℕ
bit b = cond b 1 0

sum_same : (f g : ℕ → ℕ) (n : ℕ) → ((i : ℕ) → i < n → f i ≡ g i) → sum_below f n ≡ sum_below g n
unfolding sum_below
sum_same f g zero h = refl
sum_same f g (suc n) h = λ k. sum_same f g n (λ i l. h i (omega arith)) k + h n (omega arith) k

sum_none : (n : ℕ) → sum_below (λ i. 0) n ≡ 0
unfolding sum_below
sum_none zero = refl
sum_none (suc n) = omega (arith, sum_none n)

sum_both : (f g : ℕ → ℕ) (n : ℕ) → sum_below (λ i. f i + g i) n ≡ sum_below f n + sum_below g n
unfolding sum_below
sum_both f g zero = refl
sum_both f g (suc n) = omega (arith, sum_both f g n)

-- one place alone counts
no_place : (k : ℕ) (f : ℕ → ℕ) (n : ℕ) → n ≤ k → sum_below (λ i. cond (k == i) (f i) 0) n ≡ 0
unfolding sum_below
no_place k f zero l = refl
no_place k f (suc n) l =
    let here : cond (k == n) (f n) 0 ≡ 0 = ap (λ c. cond c (f n) 0) (ne_eqb k n (λ e. absurd (omega arith))) in
    omega (arith, here, no_place k f n (omega arith))

one_place : (k : ℕ) (f : ℕ → ℕ) (n : ℕ) → k < n → sum_below (λ i. cond (k == i) (f i) 0) n ≡ f k
unfolding sum_below
one_place k f zero l = absurd (omega arith)
one_place k f (suc n) l =
    ⊎_elim
    (λ (e : k ≡ n).
    let here : cond (k == n) (f n) 0 ≡ f k = ap (λ c. cond c (f n) 0) (eq-eqb k n e) ∙ ap f (sym e) in
    omega (arith, here, no_place k f n (omega arith)))
    (λ (m : k ≢ n).
    let here : cond (k == n) (f n) 0 ≡ 0 = ap (λ c. cond c (f n) 0) (ne_eqb k n m) in
    omega (arith, here, one_place k f n (omega arith)))
    (cases_eq k n)

module _ {A : Type 0} (key : A → ℕ) (f : ℕ → ℕ) where
  -- what the items of one number add
  abbrev items_at : ℕ → List A → ℕ
  items_at i xs = sum_by (λ x. cond (key x == i) (f i) 0) xs

  by_numbers : (n : ℕ) (xs : List A) → All (λ x. key x < n) xs → sum_by (λ x. f (key x)) xs ≡ sum_below (λ i. items_at i xs) n
  by_numbers n [] all = sym (sum_none n)
  by_numbers n (x ∷ xs) all =
      let P : A → Type 0 = λ y. key y < n in
      let rest = by_numbers n xs (All-tail P x xs all) in
      let here = one_place (key x) f n (All-head P x xs all) in
      let split : sum_below (λ i. items_at i (x ∷ xs)) n ≡ sum_below (λ i. cond (key x == i) (f i) 0 + items_at i xs) n =
      sum_same (λ i. items_at i (x ∷ xs)) (λ i. cond (key x == i) (f i) 0 + items_at i xs) n (λ i l. sum_by-cons (λ y. cond (key y == i) (f i) 0) x xs) in
      let both = sum_both (λ i. cond (key x == i) (f i) 0) (λ i. items_at i xs) n in
      omega (arith, sum_by-cons (λ y. f (key y)) x xs, rest, here, split, both)

  none_there : (i : ℕ) (xs : List A) → count_by (λ x. key x == i) xs ≡ 0 → items_at i xs ≡ 0
  none_there i [] none = refl
  none_there i (x ∷ xs) none =
      let count = sum_by-cons (λ (y : A). bit (key y == i)) x xs in
      let sum = sum_by-cons (λ (y : A). cond (key y == i) (f i) 0) x xs in
      ⊎_elim
      (λ (e : key x ≡ i).
      let one : bit (key x == i) ≡ 1 = ap bit (eq-eqb (key x) i e) in
      absurd (omega (arith, count, one, none)))
      (λ (m : key x ≢ i).
      let zero_here : bit (key x == i) ≡ 0 = ap bit (ne_eqb (key x) i m) in
      let here : cond (key x == i) (f i) 0 ≡ 0 = ap (λ c. cond c (f i) 0) (ne_eqb (key x) i m) in
      omega (arith, sum, here, none_there i xs (omega (arith, count, zero_here, none))))
      (cases_eq (key x) i)

  one_there : (i : ℕ) (xs : List A) → count_by (λ x. key x == i) xs ≡ 1 → items_at i xs ≡ f i
  one_there i [] one = absurd (omega (arith, one))
  one_there i (x ∷ xs) one =
      let count = sum_by-cons (λ (y : A). bit (key y == i)) x xs in
      let sum = sum_by-cons (λ (y : A). cond (key y == i) (f i) 0) x xs in
      ⊎_elim
      (λ (e : key x ≡ i).
      let one_here : bit (key x == i) ≡ 1 = ap bit (eq-eqb (key x) i e) in
      let here : cond (key x == i) (f i) 0 ≡ f i = ap (λ c. cond c (f i) 0) (eq-eqb (key x) i e) in
      omega (arith, sum, here, none_there i xs (omega (arith, count, one_here, one))))
      (λ (m : key x ≢ i).
      let zero_here : bit (key x == i) ≡ 0 = ap bit (ne_eqb (key x) i m) in
      let here : cond (key x == i) (f i) 0 ≡ 0 = ap (λ c. cond c (f i) 0) (ne_eqb (key x) i m) in
      omega (arith, sum, here, one_there i xs (omega (arith, count, zero_here, one))))
      (cases_eq (key x) i)

  -- where each number below n stands there once
  pub over_numbers : (n : ℕ) (xs : List A) → All (λ x. key x < n) xs → ((i : ℕ) → i < n → count_by (λ x. key x == i) xs ≡ 1) → sum_by (λ x. f (key x)) xs ≡ sum_below f n
  over_numbers n xs all once = by_numbers n xs all ∙ sum_same (λ i. items_at i xs) f n (λ i l. one_there i xs (once i l))

sum_agrees : {A : Type 0} (f g : A → ℕ) (xs : List A) → All (λ x. f x ≡ g x) xs → sum_by f xs ≡ sum_by g xs
sum_agrees f g [] all = refl
sum_agrees {A = A} f g (x ∷ xs) all =
    let P : A → Type 0 = λ y. f y ≡ g y in
    omega (arith, sum_by-cons f x xs, sum_by-cons g x xs, All-head P x xs all, sum_agrees f g xs (All-tail P x xs all))

module _ (still : StillView) (sources : List SourceView) (numbers : List ℕ) (closed : IsClosed still sources numbers) (by : ℕ) where
  -- what all passes have taken from a winner, by their seats
  all_taken : taken_by closed.shown.state by ≡ sum_by (λ (seat : CallerView). taken_from by seat) still.callers
  all_taken =
      let state = closed.shown.state in
      let f : ℕ → ℕ = λ pass. count_by (λ (item : Taken). item.by == by) (state.caller pass).taken in
      let key : CallerView → ℕ = λ seat. seat.pass in
      let size = ap (λ (s : Shape). s.passes) closed.shown.shape in
      let n = still.table.shape.passes in
      let same : All (λ (seat : CallerView). f seat.pass ≡ taken_from by seat) still.callers =
      All-weaker (λ (seat : CallerView). state.caller seat.pass ≡ caller_now seat) (λ (seat : CallerView). f seat.pass ≡ taken_from by seat) (λ seat is. ap (λ (c : Caller). count_by (λ (item : Taken). item.by == by) c.taken) is) still.callers closed.shown.caller in
      ap (sum_below f) size
      ∙ sym (over_numbers key f n still.callers closed.shown.passes closed.shown.one_caller)
      ∙ sum_agrees (λ (seat : CallerView). f seat.pass) (λ (seat : CallerView). taken_from by seat) still.callers same

  -- it is what the winner has won
  pub wins_taken : by < winners still.table → slice_index numbers by ≡ sum_by (λ (seat : CallerView). taken_from by seat) still.callers
  wins_taken less = closed.taken by less ∙ all_taken

  -- who is no winner has won nothing
  pub none_taken : winners still.table ≤ by → sum_by (λ (seat : CallerView). taken_from by seat) still.callers ≡ 0
  none_taken more =
      let state = closed.shown.state in
      let p : ℕ = by - 17 in
      let is : by ≡ 17 + p = omega (arith, more) in
      let size = ap (λ (s : Shape). s.passes) closed.shown.shape in
      let idle = closed.shown.carried.within.passes.caller p (omega (arith, more, size, is)) in
      let none : length (wins_of state.scanner state.caller by) ≡ 0 =
      ap (λ (w : ℕ). length (wins_of state.scanner state.caller w)) is ∙ ap (λ (l : List Prize). length l) (wins_of-pass state.scanner state.caller p) ∙ ap (λ (c : Caller). length c.wins) idle in
      omega (arith, none, wins_counted state closed.shown.carried by, all_taken)
