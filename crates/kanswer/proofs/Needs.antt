-- The needs of a request, one after the other beside what became of its partitions.
use Rattle.std.proofs.Common.{◌≡◌, ◌≢◌, ℕ, suc, ℤ, pos, negsuc, ◌+◌, ◌*◌, ◌/◌, ◌<◌, ◌≤◌, List, [], ◌∷◌, ◌++◌, length, map, get_or, All, AllPairs, Option, Some, None, unwrap_or, arith, sym, ap, ◌∙◌, length-append}
use Rattle.std.specs.Prelude.{⊤}
use Rattle.std.specs.List.{filter_map, zip, AllByRecursion}
use Rattle.std.proofs.lemmas.List.Elements.{All-from_recursion, recursion_from_All}
use Rattle.std.proofs.lemmas.List.Kept.{AllPairs-cons}
use Rattle.std.proofs.lemmas.Nat.{div-mul-add}
use Rattle.std.proofs.Math.ListN.{get_or-append}
use Rattle.std.proofs.Math.Seq.{get_or-append_seam}
use Rattle.kwire.specs.declared.request.Ask.{Ask}
use Rattle.kwire.specs.declared.request.Ask.TheVariants.{Produce, Fetch, Metadata, Versions}
use Rattle.kwire.specs.declared.request.FetchPart.{FetchPart}
use Rattle.opcond.specs.declared.need.Need.{Need}
use Rattle.kanswer.specs.declared.accepted.Accepted.{Accepted}
use Rattle.kanswer.specs.declared.accepted.Accepted.TheVariants.{Refused, Appended, Seen}
use Rattle.kanswer.specs.Decisions.{fetch_parts}
use Rattle.kanswer.specs.Results.{AreResults, IsBounded, part_asked, parts_asked}
use Rattle.kanswer.specs.LogReadings.{named_count}
use Rattle.kanswer.specs.Waiting.{fetch_need, needs_by_part, needs_of, produce_need}

-- a need is one of the partition whose log was asked
abbrev pub IsNeedOf : Option Need → Accepted → Type 0
IsNeedOf None result = ⊤
IsNeedOf (Some need) result = part_asked result ≡ Some (need.gauge / 3)

abbrev pub AreNeeds : List (Option Need) → List Accepted → Type 0
AreNeeds [] results = ⊤
AreNeeds (need ∷ needs) [] = ⊥
AreNeeds (need ∷ needs) (result ∷ results) = IsNeedOf need result × AreNeeds needs results

-- the partition of a gauge
gauge_part : (part kind : ℕ) → kind < 3 → part ≡ (3 * part + kind) / 3
gauge_part part kind lt = sym (ap (λ n. n / 3) (omega arith) ∙ div-mul-add part 3 kind lt)

of_produce : (result : Accepted) → IsNeedOf (produce_need result) result
of_produce (Refused code) = tt
of_produce (Appended part base count) = ap Some (gauge_part part 0 (omega arith) ∙ ap (λ n. n / 3) (omega arith))
of_produce (Seen part start) = tt

of_fetch : (replica : ℤ) (asked : FetchPart) (result : Accepted) → IsNeedOf (fetch_need replica (asked, result)) result
of_fetch replica asked (Refused code) = tt
of_fetch replica asked (Appended part base count) = tt
of_fetch (pos n) asked (Seen part start) = ap Some (gauge_part part 2 (omega arith))
of_fetch (negsuc n) asked (Seen part start) = ap Some (gauge_part part 1 (omega arith))

produce_needs : (results : List Accepted) → AreNeeds (map produce_need results) results
produce_needs [] = tt
produce_needs (result ∷ results) = (of_produce result, produce_needs results)

fetch_needs : (replica : ℤ) (parts : List FetchPart) (results : List Accepted) → AreNeeds (map (fetch_need replica) (zip parts results)) results
fetch_needs replica [] results = tt
fetch_needs replica (asked ∷ parts) [] = tt
fetch_needs replica (asked ∷ parts) (result ∷ results) = (of_fetch replica asked result, fetch_needs replica parts results)

pub are_needs : (ask : Ask) (results : List Accepted) → AreNeeds (needs_by_part ask results) results
are_needs (Produce version transactional acks timeout topics) results = produce_needs results
are_needs (Fetch version replica max_wait min_bytes max_bytes isolation topics) results = fetch_needs replica (map (λ named. named.1) (fetch_parts topics)) results
are_needs (Metadata topics) results = tt
are_needs (Versions version) results = tt

-- ---- there are no more of them than partitions

abbrev pub present : List (Option Need) → List Need
present needs = filter_map (λ need. need) needs

few_present : (needs : List (Option Need)) (results : List Accepted) → AreNeeds needs results → length (present needs) ≤ length results
few_present [] results are = omega arith
few_present (need ∷ needs) [] are = absurd are
few_present (None ∷ needs) (result ∷ results) are = omega (arith, few_present needs results are.1)
few_present (Some need ∷ needs) (result ∷ results) are = omega (arith, few_present needs results are.1)

-- ---- and they are of different gauges

pub same_part : (p q : ℕ) → ◌≡◌ {A = Option ℕ} (Some p) (Some q) → p ≡ q
same_part p q is = ap (λ (o : Option ℕ). unwrap_or o 0) is

pub no_part : (n : ℕ) → ◌≡◌ {A = Option ℕ} None (Some n) → ⊥
no_part n is = cc

-- the partitions of later needs are among those of later results
abbrev IsAnother : ℕ → Need → Type 0
IsAnother part need = part ≢ need.gauge / 3

others : (part : ℕ) (needs : List (Option Need)) (results : List Accepted) → AreNeeds needs results → AllByRecursion (λ p. part ≢ p) (parts_asked results) → AllByRecursion (IsAnother part) (present needs)
others part [] results are other = tt
others part (need ∷ needs) [] are other = absurd are
others part (None ∷ needs) (Refused code ∷ results) are other = others part needs results are.1 other
others part (None ∷ needs) (Appended p base count ∷ results) are other = others part needs results are.1 other.1
others part (None ∷ needs) (Seen p start ∷ results) are other = others part needs results are.1 other.1
others part (Some need ∷ needs) (Refused code ∷ results) are other = absurd (no_part (need.gauge / 3) are.0)
others part (Some need ∷ needs) (Appended p base count ∷ results) are other =
    ((λ e. other.0 (e ∙ sym (same_part p (need.gauge / 3) are.0))), others part needs results are.1 other.1)
others part (Some need ∷ needs) (Seen p start ∷ results) are other =
    ((λ e. other.0 (e ∙ sym (same_part p (need.gauge / 3) are.0))), others part needs results are.1 other.1)

abbrev pub AreApart : List Need → Type 0
AreApart needs = AllPairs (λ a b. a.gauge ≢ b.gauge) needs

abbrev Differ : List ℕ → Type 0
Differ parts = AllPairs (λ a b. a ≢ b) parts

first_differs : (p : ℕ) (parts : List ℕ) → Differ (p ∷ parts) → AllByRecursion (λ q. p ≢ q) parts
first_differs p parts differ = recursion_from_All (λ q. p ≢ q) parts (λ k d lt. differ 0 (suc k) d (omega arith) (omega arith))

rest_differ : (p : ℕ) (parts : List ℕ) → Differ (p ∷ parts) → Differ parts
rest_differ p parts differ = λ i j d lt within. differ (suc i) (suc j) d (omega arith) (omega arith)

add_need : (need : Need) (p : ℕ) (rest : List Need) → ◌≡◌ {A = Option ℕ} (Some p) (Some (need.gauge / 3)) → AllByRecursion (IsAnother p) rest → AreApart rest → AreApart (need ∷ rest)
add_need need p rest is other apart =
    AllPairs-cons (λ (a b : Need). a.gauge ≢ b.gauge) need rest
    (λ k d lt e. All-from_recursion (IsAnother p) rest other k d lt (same_part p (need.gauge / 3) is ∙ ap (λ g. g / 3) e)) apart

apart_present : (needs : List (Option Need)) (results : List Accepted) → AreNeeds needs results → Differ (parts_asked results) → AreApart (present needs)
apart_present [] results are differ = λ i j d lt within. absurd (omega arith)
apart_present (need ∷ needs) [] are differ = absurd are
apart_present (None ∷ needs) (Refused code ∷ results) are differ = apart_present needs results are.1 differ
apart_present (None ∷ needs) (Appended p base count ∷ results) are differ = apart_present needs results are.1 (rest_differ p (parts_asked results) differ)
apart_present (None ∷ needs) (Seen p start ∷ results) are differ = apart_present needs results are.1 (rest_differ p (parts_asked results) differ)
apart_present (Some need ∷ needs) (Refused code ∷ results) are differ = absurd (no_part (need.gauge / 3) are.0)
apart_present (Some need ∷ needs) (Appended p base count ∷ results) are differ =
    add_need need p (present needs) are.0 (others p needs results are.1 (first_differs p (parts_asked results) differ)) (apart_present needs results are.1 (rest_differ p (parts_asked results) differ))
apart_present (Some need ∷ needs) (Seen p start ∷ results) are differ =
    add_need need p (present needs) are.0 (others p needs results are.1 (first_differs p (parts_asked results) differ)) (apart_present needs results are.1 (rest_differ p (parts_asked results) differ))

long_needs : (needs : List (Option Need)) (results : List Accepted) → AreNeeds needs results → length needs ≤ length results
long_needs [] results are = omega arith
long_needs (need ∷ needs) [] are = absurd are
long_needs (need ∷ needs) (result ∷ results) are = omega (arith, long_needs needs results are.1)

pub needs_within : (ask : Ask) (results : List Accepted) → length (needs_by_part ask results) ≤ length results
needs_within ask results = long_needs (needs_by_part ask results) results (are_needs ask results)

module _ (ask : Ask) (results : List Accepted) (are : AreResults ask results) where
  pub few_needs : length (needs_of ask results) ≤ 64
  few_needs = omega (arith, few_present (needs_by_part ask results) results (are_needs ask results), are.each, are.few)

  pub needs_apart : AreApart (needs_of ask results)
  needs_apart = apart_present (needs_by_part ask results) results (are_needs ask results) are.once

-- ---- each is of another gauge than those before it

pub apart_before : (xs rest : List Need) (need : Need) → AreApart (xs ++ need ∷ rest) → All (λ n. n.gauge ≢ need.gauge) xs
apart_before xs rest need apart k d lt =
    let long = length-append xs (need ∷ rest) in
    let low : get_or (xs ++ need ∷ rest) k d ≡ get_or xs k d = get_or-append xs (need ∷ rest) d k lt in
    let high : get_or (xs ++ need ∷ rest) (length xs) d ≡ need = get_or-append_seam xs need rest d in
    λ e. apart k (length xs) d lt (omega (arith, long)) (ap (λ (n : Need). n.gauge) low ∙ e ∙ sym (ap (λ (n : Need). n.gauge) high))

pub few_before : (xs rest : List Need) (need : Need) → length (xs ++ need ∷ rest) ≤ 64 → length xs < 64
few_before xs rest need few = omega (arith, few, length-append xs (need ∷ rest))

-- ---- the result of one partition

pub one_result : (ask : Ask) (result : Accepted) → named_count ask ≡ 1 → IsBounded result → AreResults ask (result ∷ [])
one_result ask result one bounded = record {
  few = omega (arith, one);
  each = sym one;
  bounded = All-from_recursion IsBounded (result ∷ []) (bounded, tt);
  once = λ i j d lt within. absurd (omega (arith, lt, within, single result));
}
  where
    single : (r : Accepted) → length (parts_asked (r ∷ [])) ≤ 1
    single (Refused code) = omega arith
    single (Appended part base count) = omega arith
    single (Seen part start) = omega arith
