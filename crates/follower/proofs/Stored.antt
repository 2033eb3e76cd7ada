-- Batches as they stand in a partition's log, one after the other, and what is read of them from the end of a copy on.
use Rattle.std.proofs.Common.{◌≡◌, ℕ, suc, ◌+◌, ◌-◌, ◌≤◌, ◌<◌, nat_lt, cond, Bool, true, false, inl, inr, pos, List, [], ◌∷◌, ◌++◌, length, take, drop, map, filter, refl, sym, ap, subst, ◌∙◌, append_assoc, arith}
use Rattle.std.proofs.lemmas.List.{take-append-drop, map-append}
use Rattle.std.proofs.lemmas.Bool.{cases_lt}
use Rattle.std.proofs.lemmas.Bool.Decides.{nat_tests}
use Rattle.kbatch.specs.Kept.{count_of}
use Rattle.partlog.specs.Batches.{StoredBatch, next_offset}
use Rattle.partlog.specs.Gauges.{batches_below, bytes_in}
use Rattle.partlog.specs.Taken.{batches_past, fitting, taken}
use Rattle.partlog.specs.Taken.{joined as stored_bytes}
use Rattle.partlog.proofs.Laws.{bytes_in-cons, fitting-more, fitting-none}
use Rattle.follower.specs.Logs.{FollowOn, IsSomeBatch, base_of, joined}
use Rattle.follower.proofs.Prefixes.{some_count}
use Rattle.follower.proofs.Verdicts.{batch_size}

-- each is a batch, and begins where the one before it ends
abbrev pub AreStored : ℕ → List StoredBatch → ℕ → Type 0
AreStored from [] end = from ≡ end
AreStored from (b ∷ bs) end =
    IsSomeBatch b.bytes × (base_of b.bytes ≡ pos from) × (b.base ≡ from) × (b.count ≡ count_of b.bytes) × AreStored (next_offset b) bs end

-- their bytes, batch by batch
abbrev pub rows : List StoredBatch → List (List ℕ)
rows bs = map (λ b. b.bytes) bs

pub follow_rows : (from end : ℕ) (bs : List StoredBatch) → AreStored from bs end → FollowOn from (rows bs) end
follow_rows from end [] all = all
follow_rows from end (b ∷ bs) all =
    let next : next_offset b ≡ from + count_of b.bytes = omega (arith, all.2, all.3) in
    (all.0, all.1, subst (λ (n : ℕ). FollowOn n (rows bs) end) next (follow_rows (next_offset b) end bs all.4))

pub joined_rows : (bs : List StoredBatch) → stored_bytes bs ≡ joined (rows bs)
joined_rows [] = refl
joined_rows (b ∷ bs) = ap (λ (more : List ℕ). b.bytes ++ more) (joined_rows bs)

pub rows_append : (xs ys : List StoredBatch) → rows (xs ++ ys) ≡ rows xs ++ rows ys
rows_append xs ys = map-append (λ (b : StoredBatch). b.bytes) xs ys

pub stored_append : (from mid end : ℕ) (xs ys : List StoredBatch) → AreStored from xs mid → AreStored mid ys end → AreStored from (xs ++ ys) end
stored_append from mid end [] ys p q = subst (λ (n : ℕ). AreStored n ys end) (sym p) q
stored_append from mid end (x ∷ xs) ys p q = (p.0, p.1, p.2, p.3, stored_append (next_offset x) mid end xs ys p.4 q)

pub record IsDivided (from : ℕ) (xs ys : List StoredBatch) (end : ℕ) : Type 0 where
  pub mid : ℕ
  pub front : AreStored from xs mid
  pub back : AreStored mid ys end

pub divided : (from end : ℕ) (xs ys : List StoredBatch) → AreStored from (xs ++ ys) end → IsDivided from xs ys end
divided from end [] ys all = record { mid = from; front = refl; back = all }
divided from end (x ∷ xs) ys all =
    let rest = divided (next_offset x) end xs ys all.4 in
    record { mid = rest.mid; front = (all.0, all.1, all.2, all.3, rest.front); back = rest.back }

pub stored_grows : (from end : ℕ) (bs : List StoredBatch) → AreStored from bs end → from ≤ end
stored_grows from end [] all = omega (arith, all)
stored_grows from end (b ∷ bs) all = omega (arith, all.2, stored_grows (next_offset b) end bs all.4)

-- ---- those before an offset, and those from it on

module _ (offset : ℕ) (b : StoredBatch) (bs : List StoredBatch) where
  below_more : next_offset b ≤ offset → batches_below offset (b ∷ bs) ≡ b ∷ batches_below offset bs
  below_more le = grind (arith, nat_tests)

  below_less : offset < next_offset b → batches_below offset (b ∷ bs) ≡ batches_below offset bs
  below_less lt = grind (arith, nat_tests)

some_records : (b : StoredBatch) (from : ℕ) → IsSomeBatch b.bytes → b.base ≡ from → b.count ≡ count_of b.bytes → from < next_offset b
some_records b from is base count = omega (arith, base, count, some_count b.bytes is)

below_none : (offset from end : ℕ) (bs : List StoredBatch) → AreStored from bs end → offset ≤ from → batches_below offset bs ≡ []
below_none offset from end [] all le = refl
below_none offset from end (b ∷ bs) all le =
    let some = some_records b from all.0 all.2 all.3 in
    below_less offset b bs (omega (arith, le, some)) ∙ below_none offset (next_offset b) end bs all.4 (omega (arith, le, some))

below_front : (offset from end : ℕ) (xs ys : List StoredBatch) → AreStored from xs offset → AreStored offset ys end → batches_below offset (xs ++ ys) ≡ xs
below_front offset from end [] ys p q = below_none offset offset end ys q (omega arith)
below_front offset from end (x ∷ xs) ys p q =
    below_more offset x (xs ++ ys) (stored_grows (next_offset x) offset xs p.4) ∙ ap (λ (bs : List StoredBatch). x ∷ bs) (below_front offset (next_offset x) end xs ys p.4 q)

past_zero : (bs : List StoredBatch) → batches_past 0 bs ≡ bs
past_zero [] = refl
past_zero (b ∷ bs) = refl

past_more : (b : StoredBatch) (bs : List StoredBatch) (place : ℕ) → 0 < place → batches_past place (b ∷ bs) ≡ batches_past (place - length b.bytes) bs
past_more b bs place some = grind (arith, nat_tests)

past_front : (from mid : ℕ) (xs ys : List StoredBatch) → AreStored from xs mid → batches_past (bytes_in xs) (xs ++ ys) ≡ ys
past_front from mid [] ys all = past_zero ys
past_front from mid (x ∷ xs) ys all =
    let size = bytes_in-cons x xs in
    let some = batch_size x.bytes all.0 in
    let rest : bytes_in (x ∷ xs) - length x.bytes ≡ bytes_in xs = omega (arith, size) in
    past_more x (xs ++ ys) (bytes_in (x ∷ xs)) (omega (arith, size, some)) ∙ ap (λ (n : ℕ). batches_past n (xs ++ ys)) rest ∙ past_front (next_offset x) mid xs ys all.4

-- ---- what is read

abbrev IsFront : List StoredBatch → List StoredBatch → Type 0
IsFront xs ys = (k : ℕ) × (xs ≡ take k ys)

fitting_front : (limit : ℕ) (bs : List StoredBatch) → IsFront (fitting limit bs) bs
fitting_front limit [] = (0, refl)
fitting_front limit (b ∷ bs) = elim (cases_lt limit (length b.bytes)) [
  | inl short ↦ (0, fitting-none b bs limit short)
  | inr fits ↦
      let rest = fitting_front (limit - length b.bytes) bs in
      (suc rest.0, fitting-more b bs limit fits ∙ ap (λ (l : List StoredBatch). b ∷ l) rest.1)
]

taken_front : (limit : ℕ) (any : Bool) (bs : List StoredBatch) → IsFront (taken limit any bs) bs
taken_front limit any bs =
    let fit : List StoredBatch = fitting limit bs in
    let front : IsFront fit bs = fitting_front limit bs in
    elim any as (λ a. IsFront (cond a fit (cond (nat_lt 0 (length fit)) fit (take 1 bs))) bs) [
      | true ↦ front
      | false ↦ elim (nat_lt 0 (length fit)) as (λ t. IsFront (cond t fit (take 1 bs)) bs) [ true ↦ front | false ↦ (1, refl) ]
    ]

all_kept : (bs : List StoredBatch) → filter (λ (b : StoredBatch). true) bs ≡ bs
all_kept [] = refl
all_kept (b ∷ bs) = ap (λ (l : List StoredBatch). b ∷ l) (all_kept bs)

-- ---- a copy that ends within them

heads : (x y : List ℕ) (xs ys : List (List ℕ)) → x ∷ xs ≡ y ∷ ys → x ≡ y
heads x y xs ys e = cc

tails : (x y : List ℕ) (xs ys : List (List ℕ)) → x ∷ xs ≡ y ∷ ys → xs ≡ ys
tails x y xs ys e = cc

-- these batches are those of the copy, and others from its end on
pub record IsPartedAt (front : List (List ℕ)) (from mid end : ℕ) (bs : List StoredBatch) : Type 0 where
  pub before : List StoredBatch
  pub behind : List StoredBatch
  pub parts : bs ≡ before ++ behind
  pub same : rows before ≡ front
  pub first : AreStored from before mid
  pub later : AreStored mid behind end

pub parted_at : (from mid end : ℕ) (front back : List (List ℕ)) (xs ys : List StoredBatch) → front ++ back ≡ rows (xs ++ ys) → FollowOn from front mid → AreStored from xs end → mid ≤ end → IsPartedAt front from mid end xs
parted_at from mid end [] back xs ys same p q le = record { before = []; behind = xs; parts = refl; same = refl; first = p; later = subst (λ (n : ℕ). AreStored n xs end) p q }
parted_at from mid end (f ∷ front) back [] ys same p q le = absurd (omega (arith, q, le, some_count f p.0, follow_le (from + count_of f) mid front p.2))
  where
    follow_le : (n m : ℕ) (bs : List (List ℕ)) → FollowOn n bs m → n ≤ m
    follow_le n m [] all = omega (arith, all)
    follow_le n m (b ∷ bs) all = omega (arith, follow_le (n + count_of b) m bs all.2)
parted_at from mid end (f ∷ front) back (x ∷ xs) ys same p q le =
    let first : f ≡ x.bytes = heads f x.bytes (front ++ back) (rows (xs ++ ys)) same in
    let next : from + count_of f ≡ next_offset x = omega (arith, ap count_of first, q.2, q.3) in
    let rest = parted_at (next_offset x) mid end front back xs ys (tails f x.bytes (front ++ back) (rows (xs ++ ys)) same) (subst (λ (n : ℕ). FollowOn n front mid) next p.2) q.4 le in
    record {
      before = x ∷ rest.before;
      behind = rest.behind;
      parts = ap (λ (l : List StoredBatch). x ∷ l) rest.parts;
      same = ap (λ (l : List (List ℕ)). x.bytes ∷ l) rest.same ∙ ap (λ (b : List ℕ). b ∷ front) (sym first);
      first = (q.0, q.1, q.2, q.3, rest.first);
      later = rest.later;
    }

-- what may be read of later batches from the copy's end on: the first of those behind it
pub record IsReadOn (front : List (List ℕ)) (mid end : ℕ) (bs run : List StoredBatch) : Type 0 where
  pub after : List StoredBatch
  pub parts : rows bs ≡ front ++ (rows run ++ rows after)
  pub last : ℕ
  pub each : AreStored mid run last
  pub within : last ≤ end

pub read_on : (mid end last limit : ℕ) (any : Bool) (front : List (List ℕ)) (xs more : List StoredBatch) → IsPartedAt front 0 mid end xs → AreStored end more last
    → IsReadOn front mid last (xs ++ more) (taken limit any (filter (λ (b : StoredBatch). true) (batches_past (bytes_in (batches_below mid xs)) (xs ++ more))))
read_on mid end last limit any front xs more parted later =
    let F = parted.before in
    let G = parted.behind in
    let H = G ++ more in
    let all : AreStored mid H last = stored_append mid end last G more parted.later later in
    let below : batches_below mid xs ≡ F = ap (batches_below mid) parted.parts ∙ below_front mid 0 end F G parted.first parted.later in
    let whole : xs ++ more ≡ F ++ H = ap (λ (l : List StoredBatch). l ++ more) parted.parts ∙ append_assoc F G more in
    let past : batches_past (bytes_in (batches_below mid xs)) (xs ++ more) ≡ H =
    ap (λ (l : List StoredBatch). batches_past (bytes_in l) (xs ++ more)) below ∙ ap (batches_past (bytes_in F)) whole ∙ past_front 0 mid F H parted.first in
    let front_of = taken_front limit any H in
    let run : taken limit any (filter (λ (b : StoredBatch). true) (batches_past (bytes_in (batches_below mid xs)) (xs ++ more))) ≡ take front_of.0 H =
    ap (λ (l : List StoredBatch). taken limit any (filter (λ (b : StoredBatch). true) l)) past ∙ ap (taken limit any) (all_kept H) ∙ front_of.1 in
    let halves : H ≡ take front_of.0 H ++ drop front_of.0 H = sym (take-append-drop front_of.0 H) in
    let cut = divided mid last (take front_of.0 H) (drop front_of.0 H) (subst (λ (l : List StoredBatch). AreStored mid l last) halves all) in
    subst (IsReadOn front mid last (xs ++ more)) (sym run) (record {
      after = drop front_of.0 H;
      parts = ap rows whole ∙ rows_append F H ∙ ap (λ (l : List (List ℕ)). l ++ rows H) parted.same ∙ ap (λ (l : List (List ℕ)). front ++ l) (ap rows halves ∙ rows_append (take front_of.0 H) (drop front_of.0 H));
      last = cut.mid;
      each = cut.front;
      within = stored_grows cut.mid last (drop front_of.0 H) cut.back;
    })
