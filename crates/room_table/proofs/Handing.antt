-- Seats are split off and joined: the parts change hands, and none is lost or doubled.
use Rattle.std.proofs.Common.{◌≡◌, ◌≢◌, ℕ, zero, suc, ◌+◌, ◌-◌, ◌<◌, ◌≤◌, List, [], ◌∷◌, ◌++◌, set, sym, ap, ◌∙◌, subst, ⊎_elim, arith, eqb}
use Rattle.std.specs.Prelude.{All, sum_by, take, drop}
use Rattle.std.proofs.lemmas.List.Sums.{sum_by-append, sum_by-take-drop}
use Rattle.std.proofs.lemmas.List.Elements.{All-nil, All-append, All-take, All-drop}
use mathlib.Core.Option.{some}
use lib.ListN.{get_elem?}
use Rattle.atomic_table.specs.Table.{Splits, Joins}
use Rattle.atomic_table.specs.Table as board
use Rattle.atomic_table.proofs.Lists.{at_set, set_else, at_snoc}
use Rattle.room_core.specs.declared.shape.Shape.{Shape}
use Rattle.room_table.specs.declared.part.Part.{Part}
use Rattle.room_table.specs.Fresh.{sources_from, callers_from, scanners_from}
use Rattle.room_table.specs.Seats.{HasSource, HasCaller, HasScanner}
use Rattle.room_table.specs.Shown.{Shows, number_of, one_if, times, IsShown}
use Rattle.room_table.specs.Tells.{Sat, shape_in, source_steps, caller_steps, scanner_steps}
use Rattle.room_table.proofs.Sums.{sum_by_set}

-- a change of views that keeps all counts, and in which each part stands as before
resown : (shape : Shape) (s : board.State ℕ (List Part)) (r : IsShown shape s) (views : List (List Part)) → ((number : ℕ) → times number views ≡ times number s.views)
    → ((i : ℕ) (v : List Part) → get_elem? views i ≡ some v → All (Shows r.state) v)
    → IsShown shape record { words = s.words; homes = s.homes; views = views }
resown shape s r views sums parts = record {
  state = r.state;
  shape = r.shape;
  carried = r.carried;
  words = r.words;
  parts = parts;
  once = λ number. subst (λ n. n ≤ 1) (sym (sums number)) (r.once number);
}

count : ℕ → List Part → ℕ
count number = sum_by (λ q. one_if (eqb (number_of q) number))

cut : (number : ℕ) (views : List (List Part)) (id : ℕ) (v : List Part) → get_elem? views id ≡ some v → times number (set views id (drop 1 v) ++ take 1 v ∷ []) ≡ times number views
cut number views id v at =
    let f : Part → ℕ = λ q. one_if (eqb (number_of q) number) in
    omega (
      arith,
      sum_by-append (sum_by f) (set views id (drop 1 v)) (take 1 v ∷ []),
      sum_by_set (sum_by f) views id v (drop 1 v) at,
      sum_by-take-drop f v 1,
    )

joined : (number : ℕ) (views : List (List Part)) (id other : ℕ) (v w : List Part) → get_elem? views id ≡ some v → get_elem? (set views id (w ++ v)) other ≡ some w
    → times number (set (set views id (w ++ v)) other []) ≡ times number views
joined number views id other v w at at' =
    let f : Part → ℕ = λ q. one_if (eqb (number_of q) number) in
    omega (
      arith,
      sum_by-append f w v,
      sum_by_set (sum_by f) views id v (w ++ v) at,
      sum_by_set (sum_by f) (set views id (w ++ v)) other w [] at',
    )

pub splits : (shape : Shape) (id : ℕ) (v : List Part) → Splits (IsShown shape) id v (drop 1 v) (take 1 v)
splits shape id v s r at =
    let P : Part → Type 0 = Shows r.state in
    let here : All P v = r.parts id v at in
    resown shape s r (set s.views id (drop 1 v) ++ take 1 v ∷ []) (λ n. cut n s.views id v at) (λ i w e. ⊎_elim
    (λ (old : get_elem? (set s.views id (drop 1 v)) i ≡ some w). ⊎_elim
    (λ (t : (i ≡ id) × (drop 1 v ≡ w)). subst (All P) t.1 (All-drop P 1 v here))
    (λ (t : (i ≢ id) × (get_elem? s.views i ≡ some w)). r.parts i w t.1)
    (at_set s.views id i (drop 1 v) w old))
    (λ (new : take 1 v ≡ w). subst (All P) new (All-take P 1 v here))
    (at_snoc (set s.views id (drop 1 v)) (take 1 v) w i e))

pub joins : (shape : Shape) (id : ℕ) (v : List Part) (other : ℕ) (w : List Part) → Joins (IsShown shape) id v other w (w ++ v) []
joins shape id v other w s r at apart at' =
    let P : Part → Type 0 = Shows r.state in
    let there : get_elem? s.views other ≡ some w = sym (set_else s.views id other (w ++ v) apart) ∙ at' in
    resown shape s r (set (set s.views id (w ++ v)) other []) (λ n. joined n s.views id other v w at at') (λ i u e. ⊎_elim
    (λ (t : (i ≡ other) × ([] ≡ u)). subst (All P) t.1 (All-nil P))
    (λ (t : (i ≢ other) × (get_elem? (set s.views id (w ++ v)) i ≡ some u)). ⊎_elim
    (λ (t : (i ≡ id) × ((w ++ v) ≡ u)). subst (All P) t.1 (All-append P w v (r.parts other w there) (r.parts id v at)))
    (λ (t : (i ≢ id) × (get_elem? s.views i ≡ some u)). r.parts i u t.1)
    (at_set s.views id i (w ++ v) u t.1))
    (at_set (set s.views id (w ++ v)) other i [] u e))

-- the first of the parts that are left
sources_more : (shape : Shape) (first left : ℕ) → 0 < left → sources_from shape first left ≡ Part.Source shape first [] ∷ sources_from shape (first + 1) (left - 1)
sources_more shape first zero few = absurd (omega arith)
sources_more shape first (suc n) few = ap (λ m. Part.Source shape first [] ∷ sources_from shape (first + 1) m) (omega arith)

callers_more : (shape : Shape) (first left : ℕ) → 0 < left → callers_from shape first left ≡ Part.Caller shape first [] ∷ callers_from shape (first + 1) (left - 1)
callers_more shape first zero few = absurd (omega arith)
callers_more shape first (suc n) few = ap (λ m. Part.Caller shape first [] ∷ callers_from shape (first + 1) m) (omega arith)

scanners_more : (shape : Shape) (first left : ℕ) → 0 < left → scanners_from shape first left ≡ Part.Scanner shape first [] ∷ scanners_from shape (first + 1) (left - 1)
scanners_more shape first zero few = absurd (omega arith)
scanners_more shape first (suc n) few = ap (λ m. Part.Scanner shape first [] ∷ scanners_from shape (first + 1) m) (omega arith)

-- a seat gives its first part away
module _ (m : Sat) (part : Part) (parts rest more : List Part) (is : m ≡ (parts ++ rest, [])) (first : parts ≡ part ∷ more) where
  all_is : m ≡ (part ∷ (more ++ rest), [])
  all_is = is ∙ ap (λ z. (z ++ rest, [])) first

  left_over : (m' : Sat) → m' ≡ (drop 1 m.0, m.1) → m' ≡ (more ++ rest, [])
  left_over m' e = e ∙ ap (λ (z : Sat). (drop 1 z.0, z.1)) all_is

  given : (m' : Sat) → m' ≡ (take 1 m.0, []) → m' ≡ (part ∷ [], [])
  given m' e = e ∙ ap (λ (z : Sat). (take 1 z.0, [])) all_is

module _ (shape : Shape) (first left left' : ℕ) (rest : List Part) (m m' one : Sat) (some : 0 < left) (less : left' ≡ left - 1) where
  pub source_left : m ≡ (sources_from shape first left ++ rest, []) → m' ≡ (drop 1 m.0, m.1) → m' ≡ (sources_from shape (first + 1) left' ++ rest, [])
  source_left is e = left_over m (Part.Source shape first []) (sources_from shape first left) rest (sources_from shape (first + 1) (left - 1)) is (sources_more shape first left some) m' e
      ∙ ap (λ k. (sources_from shape (first + 1) k ++ rest, [])) (sym less)

  pub source_given : m ≡ (sources_from shape first left ++ rest, []) → one ≡ (take 1 m.0, []) → one ≡ (Part.Source shape first [] ∷ [], [])
  source_given is e = given m (Part.Source shape first []) (sources_from shape first left) rest (sources_from shape (first + 1) (left - 1)) is (sources_more shape first left some) one e

  pub caller_left : m ≡ (callers_from shape first left ++ rest, []) → m' ≡ (drop 1 m.0, m.1) → m' ≡ (callers_from shape (first + 1) left' ++ rest, [])
  caller_left is e = left_over m (Part.Caller shape first []) (callers_from shape first left) rest (callers_from shape (first + 1) (left - 1)) is (callers_more shape first left some) m' e
      ∙ ap (λ k. (callers_from shape (first + 1) k ++ rest, [])) (sym less)

  pub caller_given : m ≡ (callers_from shape first left ++ rest, []) → one ≡ (take 1 m.0, []) → one ≡ (Part.Caller shape first [] ∷ [], [])
  caller_given is e = given m (Part.Caller shape first []) (callers_from shape first left) rest (callers_from shape (first + 1) (left - 1)) is (callers_more shape first left some) one e

  pub scanner_left : m ≡ (scanners_from shape first left ++ rest, []) → m' ≡ (drop 1 m.0, m.1) → m' ≡ (scanners_from shape (first + 1) left' ++ rest, [])
  scanner_left is e = left_over m (Part.Scanner shape first []) (scanners_from shape first left) rest (scanners_from shape (first + 1) (left - 1)) is (scanners_more shape first left some) m' e
      ∙ ap (λ k. (scanners_from shape (first + 1) k ++ rest, [])) (sym less)

  pub scanner_given : m ≡ (scanners_from shape first left ++ rest, []) → one ≡ (take 1 m.0, []) → one ≡ (Part.Scanner shape first [] ∷ [], [])
  scanner_given is e = given m (Part.Scanner shape first []) (scanners_from shape first left) rest (scanners_from shape (first + 1) (left - 1)) is (scanners_more shape first left some) one e

-- a seat of a known part
pub source_has : (m : Sat) (shape : Shape) (gauge : ℕ) → m ≡ (Part.Source shape gauge [] ∷ [], []) → HasSource gauge m
source_has m shape gauge is = is ∙ sym (ap (λ (z : Sat). (Part.Source (shape_in z.0) gauge (source_steps z.0) ∷ [], [])) is)

pub caller_has : (m : Sat) (shape : Shape) (pass : ℕ) → m ≡ (Part.Caller shape pass [] ∷ [], []) → HasCaller pass m
caller_has m shape pass is = is ∙ sym (ap (λ (z : Sat). (Part.Caller (shape_in z.0) pass (caller_steps z.0) ∷ [], [])) is)

pub scanner_has : (m : Sat) (shape : Shape) (k : ℕ) → m ≡ (Part.Scanner shape k [] ∷ [], []) → HasScanner k m
scanner_has m shape k is = is ∙ sym (ap (λ (z : Sat). (Part.Scanner (shape_in z.0) k (scanner_steps z.0) ∷ [], [])) is)
