-- Whether a request waits, from how far its needs are reached.
use Rattle.std.proofs.Common.{◌≡◌, ℕ, zero, suc, ◌+◌, ◌<◌, ◌≤◌, ℤ, negsuc, Bool, true, false, cond, ◌&&◌, List, [], ◌∷◌, ◌++◌, length, map, drop, get_or, count_by, sum_by, option_map, drop_of_length-le, inl, inr, nat_lt, Option, Some, None, arith, refl, sym, ap, ◌∙◌}
use Rattle.std.specs.List.{zip, cons_option, slice_get}
use Rattle.std.specs.Ordering.{int_eq}
use Rattle.std.proofs.Math.Seq.{drop-cons}
use Rattle.std.proofs.lemmas.Bool.Decides.{leb_tells}
use Rattle.std.proofs.lemmas.List.{map-append}
use Rattle.std.proofs.lemmas.List.Sums.{sum_by-cons}
use Rattle.std.proofs.lemmas.List.Concat.{length-flat_map}
use Rattle.std.proofs.lemmas.Option.{slice_get-map, slice_get_within, slice_get-get_or}
use Rattle.kwire.specs.declared.request.Ask.{Ask}
use Rattle.kwire.specs.declared.request.Ask.TheVariants.{Produce, Fetch, Metadata, Versions}
use Rattle.kwire.specs.declared.request.FetchPart.{FetchPart}
use Rattle.kwire.specs.declared.request.FetchTopic.{FetchTopic}
use Rattle.partlog.specs.declared.numbers.Numbers.{Numbers}
use Rattle.opcond.specs.declared.need.Need.{Need}
use Rattle.kanswer.specs.declared.accepted.Accepted.{Accepted}
use Rattle.kanswer.specs.declared.accepted.Accepted.TheVariants.{Refused, Appended, Seen}
use Rattle.kanswer.specs.Answer.{asked_parts}
use Rattle.kanswer.specs.Appends.{is_appended}
use Rattle.kanswer.specs.Decisions.{fetch_parts}
use Rattle.kanswer.specs.MayWait.{may_wait}
use Rattle.kanswer.specs.Numbered.{AreNumbers}
use Rattle.kanswer.specs.Reached.{reached_at, reached_by}
use Rattle.kanswer.specs.Waiting.{Shown, all_seen, at_least_zero, becomes_delayed, falls_short, fetch_need, least_of, needs_by_part, needs_of, produce_need, results_of}
use Rattle.kanswer.proofs.Needs.{present}
use Rattle.kanswer.proofs.Values.{tally_reached}

-- ---- the decision

below_some : (t m : ℕ) → nat_lt t m ≡ (nat_lt 0 m && nat_lt t m)
below_some t m = elim (leb_tells (suc t) m) [
  | inl le ↦
      let some : nat_lt 0 m ≡ true = above 0 m (omega (arith, le.1)) in
      sym (ap (λ (b : Bool). b && nat_lt t m) some)
  | inr gt ↦ gt.0 ∙ sym (ap (λ (b : Bool). nat_lt 0 m && b) gt.0 ∙ and_false (nat_lt 0 m))
]
  where
    and_false : (b : Bool) → (b && false) ≡ false
    and_false true = refl
    and_false false = refl

    above : (a b : ℕ) → a < b → nat_lt a b ≡ true
    above a b lt = elim (leb_tells (suc a) b) [ inl le ↦ le.0 | inr gt ↦ absurd (omega (arith, lt, gt.1)) ]

grouped : (a b c : Bool) → ((a && b) && c) ≡ (a && (b && c))
grouped true b c = refl
grouped false b c = refl

pub delayed_is : (ask : Ask) (numbers : List Numbers) (shown : List Shown) → AreNumbers numbers shown
    → (may_wait ask (results_of shown) && nat_lt (reached_by (needs_by_part ask (results_of shown)) numbers) (least_of ask (needs_of ask (results_of shown)))) ≡ becomes_delayed ask shown
delayed_is (Produce version transactional acks timeout topics) numbers shown own =
    let ask : Ask = Produce version transactional acks timeout topics in
    let most : ℕ = length (needs_of ask (results_of shown)) in
    ap (λ (t : ℕ). int_eq acks (negsuc 0) && nat_lt t most) (sym (tally_reached ask numbers shown own))
    ∙ ap (λ (b : Bool). int_eq acks (negsuc 0) && b) (below_some _ most)
delayed_is (Fetch version replica max_wait min_bytes max_bytes isolation topics) numbers shown own =
    let ask : Ask = Fetch version replica max_wait min_bytes max_bytes isolation topics in
    ap (λ (t : ℕ). (nat_lt 0 (at_least_zero max_wait) && all_seen (results_of shown)) && nat_lt t (least_of ask (needs_of ask (results_of shown)))) (sym (tally_reached ask numbers shown own))
    ∙ grouped (nat_lt 0 (at_least_zero max_wait)) (all_seen (results_of shown)) (falls_short ask shown)
delayed_is (Metadata topics) numbers shown own = refl
delayed_is (Versions version) numbers shown own = refl

-- one that may not wait doesn't
pub never_delayed : (ask : Ask) (shown : List Shown) → may_wait ask (results_of shown) ≡ false → becomes_delayed ask shown ≡ false
never_delayed (Produce version transactional acks timeout topics) shown never =
    ap (λ (b : Bool). b && (nat_lt 0 (length (needs_of (Produce version transactional acks timeout topics) (results_of shown))) && falls_short (Produce version transactional acks timeout topics) shown)) never
never_delayed (Fetch version replica max_wait min_bytes max_bytes isolation topics) shown never =
    let short = falls_short (Fetch version replica max_wait min_bytes max_bytes isolation topics) shown in
    sym (grouped (nat_lt 0 (at_least_zero max_wait)) (all_seen (results_of shown)) short) ∙ ap (λ (b : Bool). b && short) never
never_delayed (Metadata topics) shown never = refl
never_delayed (Versions version) shown never = refl

-- ---- the parts that a fetch asks for

pub parts_asked_for : (topics : List FetchTopic) → map (λ (named : List ℕ × FetchPart). named.1) (fetch_parts topics) ≡ asked_parts topics
parts_asked_for [] = refl
parts_asked_for (topic ∷ topics) =
    map-append (λ (named : List ℕ × FetchPart). named.1) (map (λ (part : FetchPart). (topic.name, part)) topic.parts) (fetch_parts topics)
    ∙ ap (λ (ps : List FetchPart). ps ++ map (λ (named : List ℕ × FetchPart). named.1) (fetch_parts topics)) (unnamed topic.name topic.parts)
    ∙ ap (λ (ps : List FetchPart). topic.parts ++ ps) (parts_asked_for topics)
  where
    unnamed : (name : List ℕ) (ps : List FetchPart) → map (λ (named : List ℕ × FetchPart). named.1) (map (λ (part : FetchPart). (name, part)) ps) ≡ ps
    unnamed name [] = refl
    unnamed name (p ∷ ps) = ap (λ (l : List FetchPart). p ∷ l) (unnamed name ps)

-- ---- a produce needs as many as were appended to

pub appended_needs : (results : List Accepted) → count_by is_appended results ≡ length (present (map produce_need results))
appended_needs [] = refl
appended_needs (Refused code ∷ results) = sum_by-cons (λ r. cond (is_appended r) 1 0) (Refused code) results ∙ omega (arith, appended_needs results)
appended_needs (Appended part base count ∷ results) = sum_by-cons (λ r. cond (is_appended r) 1 0) (Appended part base count) results ∙ omega (arith, appended_needs results)
appended_needs (Seen part start ∷ results) = sum_by-cons (λ r. cond (is_appended r) 1 0) (Seen part start) results ∙ omega (arith, appended_needs results)

-- ---- one partition after the other

item_on : {X : Type 0} (xs : List X) (i : ℕ) (d : X) → i < length xs → drop i xs ≡ get_or xs i d ∷ drop (i + 1) xs
item_on xs i d lt =
    let next : suc i ≡ i + 1 = omega arith in
    drop-cons xs i d lt ∙ ap (λ (n : ℕ). get_or xs i d ∷ drop n xs) next

same_some : {X : Type 0} (x y : X) → Some x ≡ Some y → x ≡ y
same_some x y e = cc

need_on : (needs : List (Option Need)) (i : ℕ) (need : Option Need) → slice_get needs i ≡ Some need → drop i needs ≡ need ∷ drop (i + 1) needs
need_on needs i need is =
    let lt = slice_get_within needs i need is in
    item_on needs i need lt ∙ ap (λ (n : Option Need). n ∷ drop (i + 1) needs) (same_some (get_or needs i need) need (sym (slice_get-get_or needs i need lt) ∙ is))

pub reached_on : (needs : List (Option Need)) (numbers : List Numbers) (i : ℕ) (need : Option Need) (d : Numbers) → slice_get needs i ≡ Some need → i < length numbers
    → reached_by (drop i needs) (drop i numbers) ≡ reached_at need (get_or numbers i d) + reached_by (drop (i + 1) needs) (drop (i + 1) numbers)
reached_on needs numbers i need d is lt =
    ap (λ (l : List (Option Need)). reached_by l (drop i numbers)) (need_on needs i need is)
    ∙ ap (λ (l : List Numbers). reached_by (need ∷ drop (i + 1) needs) l) (item_on numbers i d lt)

pub present_on : (needs : List (Option Need)) (i : ℕ) (need : Option Need) → slice_get needs i ≡ Some need → present (drop i needs) ≡ cons_option need (present (drop (i + 1) needs))
present_on needs i need is = ap present (need_on needs i need is)

-- behind the last partition nothing is left
pub reached_end : (needs : List (Option Need)) (numbers : List Numbers) (i : ℕ) → length numbers ≤ i → reached_by (drop i needs) (drop i numbers) ≡ 0
reached_end needs numbers i past = ap (λ (l : List Numbers). reached_by (drop i needs) l) (drop_of_length-le numbers past) ∙ none (drop i needs)
  where
    none : (ns : List (Option Need)) → reached_by ns [] ≡ 0
    none [] = refl
    none (n ∷ ns) = refl

pub present_end : (needs : List (Option Need)) (i : ℕ) → length needs ≤ i → present (drop i needs) ≡ []
present_end needs i past = ap present (drop_of_length-le needs past)

-- ---- the need of one partition

pub need_of_produce : (results : List Accepted) (i : ℕ) (d : Accepted) → i < length results → slice_get (map produce_need results) i ≡ Some (produce_need (get_or results i d))
need_of_produce results i d lt = slice_get-map produce_need results i ∙ ap (option_map produce_need) (slice_get-get_or results i d lt)

zip_at : {A B : Type 0} (ks : List A) (vs : List B) (i : ℕ) (k : A) (d : B) → slice_get ks i ≡ Some k → i < length vs → slice_get (zip ks vs) i ≡ Some (k, get_or vs i d)
zip_at [] vs i k d is lt = absurd cc
zip_at (x ∷ ks) [] i k d is lt = absurd (omega (arith, lt))
zip_at {A} {B} (x ∷ ks) (v ∷ vs) zero k d is lt = ap (λ (y : A). let pair : A × B = (y, v) in Some pair) (same_some x k is)
zip_at (x ∷ ks) (v ∷ vs) (suc i) k d is lt = zip_at ks vs i k d is (omega (arith, lt))

pub need_of_fetch : (replica : ℤ) (topics : List FetchTopic) (results : List Accepted) (i : ℕ) (asked : FetchPart) (d : Accepted) → slice_get (asked_parts topics) i ≡ Some asked → i < length results
    → slice_get (map (fetch_need replica) (zip (map (λ (named : List ℕ × FetchPart). named.1) (fetch_parts topics)) results)) i ≡ Some (fetch_need replica (asked, get_or results i d))
need_of_fetch replica topics results i asked d is lt =
    ap (λ (ps : List FetchPart). slice_get (map (fetch_need replica) (zip ps results)) i) (parts_asked_for topics)
    ∙ slice_get-map (fetch_need replica) (zip (asked_parts topics) results) i
    ∙ ap (option_map (fetch_need replica)) (zip_at (asked_parts topics) results i asked d is lt)

-- each of them is asked for
pub asked_there : (topics : List FetchTopic) (i : ℕ) → i < sum_by (λ topic. length topic.parts) topics → slice_get (asked_parts topics) i ≡ None → ⊥
asked_there topics i lt none =
    let long : length (asked_parts topics) ≡ sum_by (λ topic. length topic.parts) topics = length-flat_map (λ (topic : FetchTopic). topic.parts) topics in
    no_item (asked_parts topics) i (omega (arith, lt, long)) none
  where
    no_item : (ps : List FetchPart) (k : ℕ) → k < length ps → slice_get ps k ≡ None → ⊥
    no_item [] k lt none = omega (arith, lt)
    no_item (p ∷ ps) zero lt none = cc
    no_item (p ∷ ps) (suc k) lt none = no_item ps k (omega (arith, lt)) none
