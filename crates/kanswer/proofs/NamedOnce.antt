-- A request names a partition once, so that no log is asked twice.
use Rattle.std.proofs.Common.{◌≡◌, ◌≢◌, ℕ, suc, ◌+◌, ◌<◌, ◌≤◌, ℤ, pos, negsuc, Bool, true, false, cond, List, [], ◌∷◌, ◌++◌, length, get_or, map, Option, Some, None, unwrap_or, refl, sym, ap, subst, ◌∙◌, arith, inl, inr}
use Rattle.std.proofs.lemmas.List.{map-append}
use Rattle.std.proofs.lemmas.List.Sums.{sum_by-cons}
use Rattle.std.specs.Prelude.{MatchOption, MatchBool, AllPairs, nat_lt}
use Rattle.std.specs.List.{AllByRecursion, AllZip, flat_map}
use Rattle.std.specs.Bool.{nat_eq}
use Rattle.std.specs.Cmp.Lexicographic.{pointwise, same_text}
use Rattle.std.proofs.lemmas.Bool.{ltb-true}
use Rattle.kwire.specs.declared.config.Topic.{Topic}
use Rattle.kwire.specs.declared.request.Ask.{Ask}
use Rattle.kwire.specs.declared.request.Ask.TheVariants.{Produce, Fetch, Metadata, Versions}
use Rattle.kwire.specs.declared.request.FetchPart.{FetchPart}
use Rattle.kwire.specs.declared.request.FetchTopic.{FetchTopic}
use Rattle.kwire.specs.declared.request.ProducePart.{ProducePart}
use Rattle.kwire.specs.declared.request.ProduceTopic.{ProduceTopic}
use Rattle.kwire.specs.declared.request.Request.{Request}
use Rattle.kwire.specs.Configuration.{Configuration, part_from, part_of, partitions_of}
use Rattle.kwire.specs.IsRequest.{IsRequest, Named, named_of}
use Rattle.kanswer.specs.Decisions.{Decision, Refuse, AskLog, Decides, BatchDecides, ProduceDecides, fetch_decision, is_acks, least_insync, produce_parts, fetch_parts}
use Rattle.kbytes.proofs.Laws.{some_is}
use Rattle.kanswer.specs.Deciding.{AsksOther, AskOnce, AsksWithin}

-- ---- a partition has one name

either_above : (n partitions before p : ℕ) (b : Bool) → cond b (Some (before + n)) None ≡ Some p → before ≤ p
either_above n partitions before p true e = omega (arith, some_is (before + n) p e)
either_above n partitions before p false e = absurd cc

chosen_above : (n before partitions p : ℕ) (b : Bool) (rest : Option ℕ) → (rest ≡ Some p → before + partitions ≤ p) → cond b (cond (nat_lt n partitions) (Some (before + n)) None) rest ≡ Some p → before ≤ p
chosen_above n before partitions p true rest later e = either_above n partitions before p (nat_lt n partitions) e
chosen_above n before partitions p false rest later e = omega (arith, later e)

part_above : (before : ℕ) (topics : List Topic) (name : List ℕ) (index : ℤ) (p : ℕ) → part_from before topics name index ≡ Some p → before ≤ p
part_above before [] name index p e = absurd cc
part_above before (topic ∷ topics) name (negsuc n) p e = absurd cc
part_above before (topic ∷ topics) name (pos n) p e =
    chosen_above n before topic.partitions p (pointwise nat_eq topic.name name) (part_from (before + topic.partitions) topics name (pos n))
    (part_above (before + topic.partitions) topics name (pos n) p) e

abbrev SameName : List ℕ → ℤ → List ℕ → ℤ → Type 0
SameName name index other at = (name ≡ other) × (index ≡ at)

within : (n partitions before p : ℕ) (b : Bool) → (b ≡ true → n < partitions) → cond b (Some (before + n)) None ≡ Some p → (p ≡ before + n) × (n < partitions)
within n partitions before p true lt e = (sym (some_is (before + n) p e), lt refl)
within n partitions before p false lt e = absurd cc

-- two names of one partition, by whether each is that of the first topic
one_of_two : (called name other : List ℕ) (n m before partitions p : ℕ) (a b : Bool) (rest more : Option ℕ) → a ≡ pointwise nat_eq called name → b ≡ pointwise nat_eq called other
    → (rest ≡ Some p → before + partitions ≤ p) → (more ≡ Some p → before + partitions ≤ p) → (rest ≡ Some p → more ≡ Some p → SameName name (pos n) other (pos m))
    → cond a (cond (nat_lt n partitions) (Some (before + n)) None) rest ≡ Some p → cond b (cond (nat_lt m partitions) (Some (before + m)) None) more ≡ Some p → SameName name (pos n) other (pos m)
one_of_two called name other n m before partitions p true true rest more ea eb above over later e f =
    let x = within n partitions before p (nat_lt n partitions) (ltb-true n partitions) e in
    let y = within m partitions before p (nat_lt m partitions) (ltb-true m partitions) f in
    let same : n ≡ m = omega (arith, x.0, y.0) in
    (sym (same_text called name ea) ∙ same_text called other eb, ap pos same)
one_of_two called name other n m before partitions p true false rest more ea eb above over later e f =
    let x = within n partitions before p (nat_lt n partitions) (ltb-true n partitions) e in absurd (omega (arith, x.0, x.1, over f))
one_of_two called name other n m before partitions p false true rest more ea eb above over later e f =
    let y = within m partitions before p (nat_lt m partitions) (ltb-true m partitions) f in absurd (omega (arith, y.0, y.1, above e))
one_of_two called name other n m before partitions p false false rest more ea eb above over later e f = later e f

one_name : (before : ℕ) (topics : List Topic) (name other : List ℕ) (index at : ℤ) (p : ℕ) → part_from before topics name index ≡ Some p → part_from before topics other at ≡ Some p → SameName name index other at
one_name before [] name other index at p e f = absurd cc
one_name before (topic ∷ topics) name other (negsuc n) at p e f = absurd cc
one_name before (topic ∷ topics) name other (pos n) (negsuc m) p e f = absurd cc
one_name before (topic ∷ topics) name other (pos n) (pos m) p e f =
    let behind : ℕ = before + topic.partitions in
    one_of_two topic.name name other n m before topic.partitions p (pointwise nat_eq topic.name name) (pointwise nat_eq topic.name other)
    (part_from behind topics name (pos n)) (part_from behind topics other (pos m)) refl refl
    (part_above behind topics name (pos n) p) (part_above behind topics other (pos m) p) (one_name behind topics name other (pos n) (pos m) p) e f

-- ---- a partition that is found is one of those that are there

index_within : (before n partitions p : ℕ) (b : Bool) → (b ≡ true → n < partitions) → cond b (Some (before + n)) None ≡ Some p → p < before + partitions
index_within before n partitions p true lt e = omega (arith, lt refl, some_is (before + n) p e)
index_within before n partitions p false lt e = absurd cc

name_within : (before n partitions others p : ℕ) (b : Bool) (rest : Option ℕ) → (rest ≡ Some p → p < (before + partitions) + others)
    → cond b (cond (nat_lt n partitions) (Some (before + n)) None) rest ≡ Some p → p < before + (partitions + others)
name_within before n partitions others p true rest later e = omega (arith, index_within before n partitions p (nat_lt n partitions) (ltb-true n partitions) e)
name_within before n partitions others p false rest later e = omega (arith, later e)

part_within : (before : ℕ) (topics : List Topic) (name : List ℕ) (index : ℤ) (p : ℕ) → part_from before topics name index ≡ Some p → p < before + partitions_of topics
part_within before [] name index p e = absurd cc
part_within before (topic ∷ topics) name (negsuc n) p e = absurd cc
part_within before (topic ∷ topics) name (pos n) p e =
    let total : partitions_of (topic ∷ topics) ≡ topic.partitions + partitions_of topics = sum_by-cons (λ (t : Topic). t.partitions) topic topics in
    let later = part_within (before + topic.partitions) topics name (pos n) p in
    omega (arith, total, name_within before n topic.partitions (partitions_of topics) p (pointwise nat_eq topic.name name) (part_from (before + topic.partitions) topics name (pos n)) later e)

-- ---- decisions that ask no log twice

-- where a log is asked, it is that of the named partition
abbrev Asks : Configuration → Named → Decision → Type 0
Asks config named (Refuse code) = Unit {0}
Asks config named (AskLog part outcome) = part_of config named.topic named.index ≡ Some part

abbrev named_as : List ℕ → ℤ → Named
named_as topic index = record { topic = topic; index = index }

batch_asks : (version : ℤ) (least : ℕ) (config : Configuration) (name : List ℕ) (index : ℤ) (part : ℕ) (bytes : List ℕ) (decision : Decision) → part_of config name index ≡ Some part → BatchDecides version least part bytes decision → Asks config (named_as name index) decision
batch_asks version least config name index part bytes decision is d =
    elim d [
      | inl fault ↦ subst (Asks config (named_as name index)) (sym fault.2) tt
      | inr batch ↦ subst (Asks config (named_as name index)) (sym batch.2) is
    ]

acks_asks : (version : ℤ) (least : ℕ) (config : Configuration) (name : List ℕ) (index : ℤ) (b : Bool) (part : ℕ) (bytes : List ℕ) (decision : Decision) → part_of config name index ≡ Some part → MatchBool b (BatchDecides version least part bytes decision) (decision ≡ Refuse (pos 21)) → Asks config (named_as name index) decision
acks_asks version least config name index true part bytes decision is d = batch_asks version least config name index part bytes decision is d
acks_asks version least config name index false part bytes decision is d = subst (Asks config (named_as name index)) (sym d) tt

part_asks : (version : ℤ) (least : ℕ → ℕ) (config : Configuration) (name : List ℕ) (index : ℤ) (o : Option ℕ) (b : Bool) (bytes : List ℕ) (decision : Decision) → part_of config name index ≡ o → MatchOption o (decision ≡ Refuse (pos 3)) (λ part. MatchBool b (BatchDecides version (least part) part bytes decision) (decision ≡ Refuse (pos 21))) → Asks config (named_as name index) decision
part_asks version least config name index None b bytes decision is d = subst (Asks config (named_as name index)) (sym d) tt
part_asks version least config name index (Some part) b bytes decision is d = acks_asks version (least part) config name index b part bytes decision is d

abbrev named_produce : List ℕ × ProducePart → Named
named_produce named = named_as named.0 named.1.index

abbrev named_fetch : List ℕ × FetchPart → Named
named_fetch named = named_as named.0 named.1.index

produce_asks : (version : ℤ) (config : Configuration) (id : Option (List ℕ)) (acks : ℤ) (named : List ℕ × ProducePart) (decision : Decision) → ProduceDecides config version id acks named decision → Asks config (named_produce named) decision
produce_asks version config (Some id) acks named decision d = subst (Asks config (named_produce named)) (sym d) tt
produce_asks version config None acks named decision d = part_asks version (least_insync config acks) config named.0 named.1.index (part_of config named.0 named.1.index) (is_acks acks) (unwrap_or named.1.records []) decision refl d

produces_ask : (version : ℤ) (config : Configuration) (id : Option (List ℕ)) (acks : ℤ) (named : List (List ℕ × ProducePart)) (decisions : List Decision) → AllZip (ProduceDecides config version id acks) named decisions → AllZip (Asks config) (map named_produce named) decisions
produces_ask version config id acks [] [] d = tt
produces_ask version config id acks [] (x ∷ decisions) d = absurd d
produces_ask version config id acks (a ∷ named) [] d = absurd d
produces_ask version config id acks (a ∷ named) (x ∷ decisions) d = (produce_asks version config id acks a x d.0, produces_ask version config id acks named decisions d.1)

found_asks : (config : Configuration) (replica : ℤ) (named : List ℕ × FetchPart) (o : Option ℕ) → part_of config named.0 named.1.index ≡ o → Asks config (named_fetch named) (fetch_decision config replica named o)
found_asks config replica named None is = tt
found_asks config replica named (Some part) is = is

fetches_ask : (config : Configuration) (replica : ℤ) (named : List (List ℕ × FetchPart))
    → AllZip (Asks config) (map named_fetch named) (map (λ a. fetch_decision config replica a (part_of config a.0 a.1.index)) named)
fetches_ask config replica [] = tt
fetches_ask config replica (a ∷ named) = (found_asks config replica a (part_of config a.0 a.1.index) refl, fetches_ask config replica named)

-- the names of the partitions of a request
module _ {P : Type 0} (index : P → ℤ) where
  topic_names : (name : List ℕ) (parts : List P) → map (λ (part : P). named_as name (index part)) parts ≡ map (λ (named : List ℕ × P). named_as named.0 (index named.1)) (map (λ (part : P). (name, part)) parts)
  topic_names name [] = refl
  topic_names name (part ∷ parts) = ap (λ (ns : List Named). named_as name (index part) ∷ ns) (topic_names name parts)

  module _ {T : Type 0} (name : T → List ℕ) (parts : T → List P) where
    all_names : (topics : List T) → flat_map (λ t. map (λ (part : P). named_as (name t) (index part)) (parts t)) topics
        ≡ map (λ (named : List ℕ × P). named_as named.0 (index named.1)) (flat_map (λ t. map (λ (part : P). (name t, part)) (parts t)) topics)
    all_names [] = refl
    all_names (t ∷ topics) =
        let named_by : List ℕ × P → Named = λ named. named_as named.0 (index named.1) in
        let here : List (List ℕ × P) = map (λ (part : P). (name t, part)) (parts t) in
        let later : List (List ℕ × P) = flat_map (λ u. map (λ (part : P). (name u, part)) (parts u)) topics in
        ap (λ (ns : List Named). ns ++ flat_map (λ u. map (λ (part : P). named_as (name u) (index part)) (parts u)) topics) (topic_names (name t) (parts t))
        ∙ ap (λ (ns : List Named). map named_by here ++ ns) (all_names topics)
        ∙ sym (map-append named_by here later)

asks_named : (config : Configuration) (ask : Ask) (decisions : List Decision) → Decides config ask decisions → AllZip (Asks config) (named_of ask) decisions
asks_named config (Produce version transactional acks timeout topics) decisions d =
    subst (λ (ns : List Named). AllZip (Asks config) ns decisions) (sym (all_names (λ (part : ProducePart). part.index) (λ (t : ProduceTopic). t.name) (λ (t : ProduceTopic). t.parts) topics))
    (produces_ask version config transactional acks (produce_parts topics) decisions d)
asks_named config (Fetch version replica max_wait min_bytes max_bytes isolation topics) decisions d =
    subst (λ (ds : List Decision). AllZip (Asks config) (named_of (Fetch version replica max_wait min_bytes max_bytes isolation topics)) ds) (sym d)
    (subst (λ (ns : List Named). AllZip (Asks config) ns (map (λ a. fetch_decision config replica a (part_of config a.0 a.1.index)) (fetch_parts topics))) (sym (all_names (λ (part : FetchPart). part.index) (λ (t : FetchTopic). t.name) (λ (t : FetchTopic). t.parts) topics))
    (fetches_ask config replica (fetch_parts topics)))
asks_named config (Metadata topics) decisions d = subst (AllZip (Asks config) []) (sym d) tt
asks_named config (Versions version) decisions d = subst (AllZip (Asks config) []) (sym d) tt

-- ---- names that differ

abbrev Once : List Named → Type 0
Once [] = Unit {0}
Once (name ∷ names) = AllByRecursion (λ other. name ≢ other) names × Once names

each_of : {X : Type 0} (P : X → Type 0) (xs : List X) → ((i : ℕ) (d : X) → i < length xs → P (get_or xs i d)) → AllByRecursion P xs
each_of P [] all = tt
each_of P (x ∷ xs) all = (all 0 x (omega arith), each_of P xs (λ i d lt. all (suc i) d (omega (arith, lt))))

pairs_once : (names : List Named) → AllPairs (λ a b. a ≢ b) names → Once names
pairs_once [] all = tt
pairs_once (name ∷ names) all =
    (each_of (λ other. name ≢ other) names (λ i d lt. all 0 (suc i) d (omega arith) (omega (arith, lt))), pairs_once names (λ i j d lt within. all (suc i) (suc j) d (omega (arith, lt)) (omega (arith, within))))

asks_other : (config : Configuration) (name other : Named) (part : ℕ) (decision : Decision) → part_of config name.topic name.index ≡ Some part → name ≢ other → Asks config other decision → AsksOther part decision
asks_other config name other part (Refuse code) is differ asks = tt
asks_other config name other part (AskLog q outcome) is differ asks = λ same.
    let one = one_name 0 config.topics name.topic other.topic name.index other.index part is (asks ∙ ap Some same) in
    differ (ap (λ (t : List ℕ). named_as t name.index) one.0 ∙ ap (named_as other.topic) one.1)

others_asked : (config : Configuration) (name : Named) (part : ℕ) (names : List Named) (decisions : List Decision) → part_of config name.topic name.index ≡ Some part → AllByRecursion (λ other. name ≢ other) names
    → AllZip (Asks config) names decisions → AllByRecursion (AsksOther part) decisions
others_asked config name part [] [] is differ asks = tt
others_asked config name part [] (d ∷ decisions) is differ asks = absurd asks
others_asked config name part (n ∷ names) [] is differ asks = absurd asks
others_asked config name part (n ∷ names) (d ∷ decisions) is differ asks =
    (asks_other config name n part d is differ.0 asks.0, others_asked config name part names decisions is differ.1 asks.1)

once_asked : (config : Configuration) (names : List Named) (decisions : List Decision) → Once names → AllZip (Asks config) names decisions → AskOnce decisions
once_asked config [] [] once asks = tt
once_asked config [] (d ∷ decisions) once asks = absurd asks
once_asked config (n ∷ names) [] once asks = absurd asks
once_asked config (n ∷ names) (Refuse code ∷ decisions) once asks = once_asked config names decisions once.1 asks.1
once_asked config (n ∷ names) (AskLog part outcome ∷ decisions) once asks =
    (others_asked config n part names decisions asks.0 once.0 asks.1, once_asked config names decisions once.1 asks.1)

nothing_named : (config : Configuration) (request : Request) (decisions : List Decision) → named_of request.ask ≡ [] → AllZip (Asks config) (named_of request.ask) decisions → AskOnce decisions
nothing_named config request decisions none asks = once_asked config (named_of request.ask) decisions (subst Once (sym none) tt) asks

-- what is decided of a request asks no log twice
pub request_asks_once : (config : Configuration) (request : Request) (body : List ℕ) (decisions : List Decision) → IsRequest body request → Decides config request.ask decisions → AskOnce decisions
request_asks_once config request body decisions asked d =
    elim asked [
      | inl whole ↦ once_asked config (named_of request.ask) decisions (pairs_once (named_of request.ask) whole.once) (asks_named config request.ask decisions d)
      | inr other ↦ nothing_named config request decisions (ap named_of other.asked) (asks_named config request.ask decisions d)
    ]

asks_within : (config : Configuration) (name : Named) (decision : Decision) → Asks config name decision → AsksWithin (partitions_of config.topics) decision
asks_within config name (Refuse code) asks = tt
asks_within config name (AskLog part outcome) asks = omega (arith, part_within 0 config.topics name.topic name.index part asks)

all_within : (config : Configuration) (names : List Named) (decisions : List Decision) → AllZip (Asks config) names decisions → AllByRecursion (AsksWithin (partitions_of config.topics)) decisions
all_within config [] [] asks = tt
all_within config [] (d ∷ decisions) asks = absurd asks
all_within config (n ∷ names) [] asks = absurd asks
all_within config (n ∷ names) (d ∷ decisions) asks = (asks_within config n d asks.0, all_within config names decisions asks.1)

pub decided_within : (config : Configuration) (ask : Ask) (decisions : List Decision) → Decides config ask decisions → AllByRecursion (AsksWithin (partitions_of config.topics)) decisions
decided_within config ask decisions d = all_within config (named_of ask) decisions (asks_named config ask decisions d)
