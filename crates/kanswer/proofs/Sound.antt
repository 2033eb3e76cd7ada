-- Results of honest decisions: as many as there are named partitions, of logs that are there, each its own.
use Rattle.std.proofs.Common.{◌≡◌, ◌≢◌, ℕ, zero, suc, ◌≤◌, ℤ, List, [], ◌∷◌, length, map, All, AllPairs, refl, sym, ap, subst, ◌∙◌, arith, inl, inr, length-append}
use Rattle.std.proofs.lemmas.List.{length-map}
use Rattle.std.proofs.lemmas.List.Kept.{AllPairs-cons}
use Rattle.std.proofs.lemmas.List.Sums.{sum_by-cons}
use Rattle.std.specs.Prelude.{sum_by}
use Rattle.std.specs.List.{AllByRecursion, AllZip, cons_option, flat_map}
use Rattle.partlog.specs.State.{PartState}
use Rattle.kanswer.specs.declared.accepted.Accepted.{Accepted}
use Rattle.kanswer.specs.declared.accepted.Accepted.TheVariants.{Refused, Appended, Seen}
use Rattle.kwire.specs.declared.request.Ask.{Ask}
use Rattle.kwire.specs.declared.request.Ask.TheVariants.{Produce, Fetch, Metadata, Versions}
use Rattle.kwire.specs.declared.request.FetchPart.{FetchPart}
use Rattle.kwire.specs.declared.request.FetchTopic.{FetchTopic}
use Rattle.kwire.specs.declared.request.ProducePart.{ProducePart}
use Rattle.kwire.specs.declared.request.ProduceTopic.{ProduceTopic}
use Rattle.kwire.specs.declared.request.Request.{Request}
use Rattle.kwire.specs.Configuration.{Configuration, part_of}
use Rattle.kwire.specs.IsRequest.{IsRequest, Named, named_of}
use Rattle.kwire.proofs.Laws.{spelled_partitions}
use Rattle.kanswer.specs.Decisions.{Entry, Decision, Decides, ProduceDecides, fetch_decision, produce_parts, fetch_parts}
use Rattle.kanswer.specs.LogReadings.{IsCarriable, named_count}
use Rattle.kanswer.specs.Results.{IsBounded, part_asked}
use Rattle.kanswer.specs.Deciding.{IsHonestAs, IsSound}

-- ---- the partitions whose logs were asked

abbrev pub Differs : ℕ → ℕ → Type 0
Differs part other = part ≢ other

pub result_other : (part q : ℕ) (state : PartState) (result : Accepted) (entry : Entry) (rest : List ℕ) → IsHonestAs q state result entry → q ≢ part → AllByRecursion (Differs part) rest
    → AllByRecursion (Differs part) (cons_option (part_asked result) rest)
result_other part q state (Refused code) entry rest honest differ all = all
result_other part q state (Appended p base count) entry rest honest differ all = (λ e. differ (sym honest.0 ∙ sym e), all)
result_other part q state (Seen p start) entry rest honest differ all = (λ e. differ (sym honest ∙ sym e), all)

pub all_at : {X : Type 0} (P : X → Type 0) (xs : List X) → AllByRecursion P xs → All P xs
all_at P [] all i d lt = absurd (omega (arith, lt))
all_at P (x ∷ xs) all zero d lt = all.0
all_at P (x ∷ xs) all (suc i) d lt = all_at P xs all.1 i d (omega (arith, lt))

pub one_more_part : (part q : ℕ) (state : PartState) (result : Accepted) (entry : Entry) (rest : List ℕ) → IsHonestAs q state result entry → q ≡ part → AllByRecursion (Differs part) rest → AllPairs (λ a b. a ≢ b) rest
    → AllPairs (λ a b. a ≢ b) (cons_option (part_asked result) rest)
one_more_part part q state (Refused code) entry rest honest is all pairs = pairs
one_more_part part q state (Appended p base count) entry rest honest is all pairs =
    AllPairs-cons (λ a b. a ≢ b) p rest (all_at (λ b. p ≢ b) rest (subst (λ (x : ℕ). AllByRecursion (Differs x) rest) (sym (honest.0 ∙ is)) all)) pairs
one_more_part part q state (Seen p start) entry rest honest is all pairs =
    AllPairs-cons (λ a b. a ≢ b) p rest (all_at (λ b. p ≢ b) rest (subst (λ (x : ℕ). AllByRecursion (Differs x) rest) (sym (honest ∙ is)) all)) pairs

pub none_paired : AllPairs (λ (a b : ℕ). a ≢ b) []
none_paired i j d lt within = absurd (omega (arith, within))

-- ---- one result for each named partition

pub zip_length : {A B : Type 0} (R : A → B → Type 0) (xs : List A) (ys : List B) → AllZip R xs ys → length ys ≡ length xs
zip_length R [] [] d = refl
zip_length R [] (y ∷ ys) d = absurd d
zip_length R (x ∷ xs) [] d = absurd d
zip_length R (x ∷ xs) (y ∷ ys) d = ap suc (zip_length R xs ys d.1)

parts_count : {T P : Type 0} (name : T → List ℕ) (parts : T → List P) (topics : List T) → length (flat_map (λ t. map {A = P} {B = List ℕ × P} (λ p. (name t, p)) (parts t)) topics) ≡ sum_by (λ t. length (parts t)) topics
parts_count name parts [] = refl
parts_count {P = P} name parts (t ∷ topics) =
    let here : List (List ℕ × P) = map (λ p. (name t, p)) (parts t) in
    let later : List (List ℕ × P) = flat_map (λ t. map (λ p. (name t, p)) (parts t)) topics in
    let count : length here ≡ length (parts t) = length-map (parts t) (λ p. (name t, p)) in
    let rest : length later ≡ sum_by (λ t. length (parts t)) topics = parts_count name parts topics in
    length-append here later ∙ omega (arith, count, rest, sum_by-cons (λ t. length (parts t)) t topics)

pub decided_count : (config : Configuration) (ask : Ask) (decisions : List Decision) → Decides config ask decisions → length decisions ≡ named_count ask
decided_count config (Produce version transactional acks timeout topics) decisions d =
    zip_length (ProduceDecides config version transactional acks) (produce_parts topics) decisions d ∙ parts_count (λ t. t.name) (λ t. t.parts) topics
decided_count config (Fetch version replica max_wait min_bytes max_bytes isolation topics) decisions d =
    ap length d ∙ length-map (fetch_parts topics) (λ a. fetch_decision config replica a (part_of config a.0 a.1.index)) ∙ parts_count (λ t. t.name) (λ t. t.parts) topics
decided_count config (Metadata topics) decisions d = ap length d
decided_count config (Versions version) decisions d = ap length d

-- ---- what is asked of them

bounded : (n : ℕ) (result : Accepted) → n ≤ 64 → IsSound n result → IsCarriable result → IsBounded result
bounded n (Refused code) few is fits = tt
bounded n (Appended part base count) few is fits = (omega (arith, is.0, few), is.1, fits)
bounded n (Seen part start) few is fits = omega (arith, is, few)

pub all_bounded : (n : ℕ) (results : List Accepted) → n ≤ 64 → AllByRecursion (IsSound n) results → All IsCarriable results → AllByRecursion IsBounded results
all_bounded n [] few is fits = tt
all_bounded n (r ∷ results) few is fits = (bounded n r few is.0 (fits 0 r (omega arith)), all_bounded n results few is.1 (λ i d lt. fits (suc i) d (omega (arith, lt))))

-- as many partitions are named as there are names
names_count : {T P : Type 0} (name : T → List ℕ) (index : P → ℤ) (parts : T → List P) (topics : List T) → length (flat_map (λ t. map (λ (p : P). let n : Named = record { topic = name t; index = index p } in n) (parts t)) topics) ≡ sum_by (λ t. length (parts t)) topics
names_count name index parts [] = refl
names_count {P = P} name index parts (t ∷ topics) =
    let named_by : P → Named = λ p. record { topic = name t; index = index p } in
    let later : List Named = flat_map (λ t. map (λ (p : P). let n : Named = record { topic = name t; index = index p } in n) (parts t)) topics in
    length-append (map named_by (parts t)) later ∙ omega (arith, length-map (parts t) named_by, names_count name index parts topics, sum_by-cons (λ t. length (parts t)) t topics)

named_length : (ask : Ask) → named_count ask ≡ length (named_of ask)
named_length (Produce version transactional acks timeout topics) = sym (names_count (λ (t : ProduceTopic). t.name) (λ (p : ProducePart). p.index) (λ (t : ProduceTopic). t.parts) topics)
named_length (Fetch version replica max_wait min_bytes max_bytes isolation topics) = sym (names_count (λ (t : FetchTopic). t.name) (λ (p : FetchPart). p.index) (λ (t : FetchTopic). t.parts) topics)
named_length (Metadata topics) = refl
named_length (Versions version) = refl

pub few_named : (request : Request) (body : List ℕ) → IsRequest body request → named_count request.ask ≤ 64
few_named request body asked =
    elim asked [
      | inl whole ↦ omega (arith, named_length request.ask, spelled_partitions body request whole.whole)
      | inr other ↦ omega (arith, ap named_count other.asked)
    ]
