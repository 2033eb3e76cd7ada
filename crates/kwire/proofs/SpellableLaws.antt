-- Replies whose lengths and counts are in range.
use Rattle.std.proofs.Common.{◌≡◌, ℕ, ◌+◌, ◌*◌, ◌<◌, ◌≤◌, ◌^◌, ℤ, pos, Bool, true, false, cond, List, [], ◌∷◌, ◌++◌, length, map, Some, None, refl, ap, ◌∙◌, arith, lit<}
use Rattle.std.specs.Prelude.{IfSome, ⊤}
use Rattle.std.specs.List.{flat_map, AllByRecursion}
use Rattle.std.specs.Ordering.{int_eq}
use native.Mathlib.Nat.{suc-mul}
use Rattle.std.proofs.lemmas.List.{length-append}
use Rattle.std.specs.List.{range_with_len}
use Rattle.std.proofs.lemmas.List.FromFn.{length-range_with_len}
use Rattle.kbytes.specs.Field.{Field, Int8, Int32, Int64, String, Records, Array, field, fields}
use Rattle.kwire.specs.declared.reply.Told.TheVariants.{Produced, Fetched, Metadata, Versions}
use Rattle.kwire.specs.declared.reply.ProducedPart.{ProducedPart}
use Rattle.kwire.specs.declared.reply.ProducedTopic.{ProducedTopic}
use Rattle.kwire.specs.declared.reply.FetchedPart.{FetchedPart}
use Rattle.kwire.specs.declared.reply.FetchedTopic.{FetchedTopic}
use Rattle.kwire.specs.declared.reply.TopicInfo.{TopicInfo}
use Rattle.kwire.specs.IsSpellable.{AreInRange, IsSpellable}
use Rattle.kwire.specs.Apis.{has_log_start}
use Rattle.kwire.specs.IsRequest.{only_field}
use Rattle.kwire.specs.Spelling.{aborted, produced_part_fields, produced_topic_fields, fetched_part_fields, fetched_topic_fields, replica_fields, partition_fields, topic_info_fields, told_fields, spelling}
use Rattle.kwire.proofs.Places.{fields-append}

pub record IsProducedTopic (topic : ProducedTopic) : Type 0 where
  pub name : length topic.name < 2 ^ 15
  pub few : length topic.parts ≤ 64

abbrev pub IsFetchedPart : FetchedPart → Type 0
IsFetchedPart part = length part.records < 2 ^ 31

pub record IsFetchedTopic (topic : FetchedTopic) : Type 0 where
  pub name : length topic.name < 2 ^ 15
  pub few : length topic.parts ≤ 64
  pub parts : AllByRecursion IsFetchedPart topic.parts

pub in_range_both : (fs gs : List Field) → AreInRange fs → AreInRange gs → AreInRange (fs ++ gs)
in_range_both [] gs first next = next
in_range_both (f ∷ fs) gs first next = (first.0, in_range_both fs gs first.1 next)

module _ {X : Type 0} (kind : X → List Field) (Fine : X → Type 0) (fine : (x : X) → Fine x → AreInRange (kind x)) where
  pub in_range_all : (xs : List X) → AllByRecursion Fine xs → AreInRange (flat_map kind xs)
  in_range_all [] all = tt
  in_range_all (x ∷ xs) all = in_range_both (kind x) (flat_map kind xs) (fine x all.0) (in_range_all xs all.1)

few_fit : (n : ℕ) → n ≤ 64 → n < 2 ^ 31
few_fit n le = omega arith

all_true : {X : Type 0} (xs : List X) → AllByRecursion (λ (x : X). ⊤) xs
all_true [] = tt
all_true (x ∷ xs) = (tt, all_true xs)

-- an integer that stands there only in some versions
start_in_range : (b : Bool) (z : ℤ) (fs : List Field) → AreInRange fs → AreInRange (only_field b (Int64 z) fs)
start_in_range true z fs all = (tt, all)
start_in_range false z fs all = all

start_length : (b : Bool) (z : ℤ) (fs : List Field) → length (fields (only_field b (Int64 z) fs)) ≤ 8 + length (fields fs)
start_length true z fs = omega arith
start_length false z fs = omega arith

-- a part has integers alone
produced_part_in_range : (version : ℤ) (part : ProducedPart) → ⊤ → AreInRange (produced_part_fields version part)
produced_part_in_range version part _ = (tt, (tt, (tt, (tt, start_in_range (has_log_start version) part.start [] tt))))

produced_topic_in_range : (version : ℤ) (topic : ProducedTopic) → IsProducedTopic topic → AreInRange (produced_topic_fields version topic)
produced_topic_in_range version topic is =
    (is.name, (few_fit (length topic.parts) is.few, in_range_all (produced_part_fields version) (λ _. ⊤) (produced_part_in_range version) topic.parts (all_true topic.parts)))

pub produced_in_range : (version : ℤ) (topics : List ProducedTopic) → length topics ≤ 64 → AllByRecursion IsProducedTopic topics → AreInRange (told_fields (Produced version topics))
produced_in_range version topics few all =
    (few_fit (length topics) few, in_range_both (flat_map (produced_topic_fields version) topics) _ (in_range_all (produced_topic_fields version) IsProducedTopic (produced_topic_in_range version) topics all) (tt, tt))

aborted_in_range : (b : Bool) → IfSome (cond b None (Some 0)) (λ (n : ℕ). n < 2 ^ 31)
aborted_in_range true = tt
aborted_in_range false = lit< tt

fetched_part_in_range : (version isolation : ℤ) (part : FetchedPart) → IsFetchedPart part → AreInRange (fetched_part_fields version isolation part)
fetched_part_in_range version isolation part is =
    (tt, (tt, (tt, (tt, start_in_range (has_log_start version) part.start (Array (aborted isolation) ∷ Records (Some part.records) ∷ []) (aborted_in_range (int_eq isolation (pos 0)), (is, tt))))))

fetched_topic_in_range : (version isolation : ℤ) (topic : FetchedTopic) → IsFetchedTopic topic → AreInRange (fetched_topic_fields version isolation topic)
fetched_topic_in_range version isolation topic is =
    (is.name, (few_fit (length topic.parts) is.few, in_range_all (fetched_part_fields version isolation) IsFetchedPart (fetched_part_in_range version isolation) topic.parts is.parts))

pub fetched_in_range : (version isolation : ℤ) (topics : List FetchedTopic) → length topics ≤ 64 → AllByRecursion IsFetchedTopic topics → AreInRange (told_fields (Fetched version isolation topics))
fetched_in_range version isolation topics few all =
    (tt, (few_fit (length topics) few, in_range_all (fetched_topic_fields version isolation) IsFetchedTopic (fetched_topic_in_range version isolation) topics all))

-- ---- lengths of frames

module _ {X : Type 0} (kind : X → List Field) (body : X → List ℕ) (Fine : X → Type 0) (most : ℕ)
    (fits : (x : X) → Fine x → length (fields (kind x)) ≤ most + length (body x)) where
  pub length_all : (xs : List X) → AllByRecursion Fine xs → length (fields (flat_map kind xs)) ≤ length xs * most + length (flat_map body xs)
  length_all [] all = omega arith
  length_all (x ∷ xs) all =
      let here : length (fields (kind x)) ≤ most + length (body x) = fits x all.0 in
      let behind : length (fields (flat_map kind xs)) ≤ length xs * most + length (flat_map body xs) = length_all xs all.1 in
      let left : length (fields (flat_map kind (x ∷ xs))) ≡ length (fields (kind x)) + length (fields (flat_map kind xs)) =
      ap length (fields-append (kind x) (flat_map kind xs)) ∙ length-append (fields (kind x)) (fields (flat_map kind xs)) in
      let right : length (flat_map body (x ∷ xs)) ≡ length (body x) + length (flat_map body xs) = length-append (body x) (flat_map body xs) in
      let product : length (x ∷ xs) * most ≡ length xs * most + most = suc-mul (length xs) most in
      omega arith

-- no bytes
abbrev nothing : {X : Type 0} → X → List ℕ
nothing x = []

none_of_none : {X : Type 0} (xs : List X) → length (flat_map (nothing {X = X}) xs) ≡ 0
none_of_none [] = refl
none_of_none (x ∷ xs) = none_of_none xs

-- the records of a topic, one partition after the other
abbrev pub records_in : FetchedTopic → List ℕ
records_in topic = flat_map (λ part. part.records) topic.parts

-- a name, a count and what stands after them
topic_length : (name : List ℕ) (count : ℕ) (parts : List Field) → length (fields (String name ∷ Array (Some count) ∷ parts)) ≡ 6 + length name + length (fields parts)
topic_length name count parts =
    let rest = field (Array (Some count)) ++ fields parts in
    let all : length (fields (String name ∷ Array (Some count) ∷ parts)) ≡ 2 + length (name ++ rest) = omega arith in
    let behind : length rest ≡ 4 + length (fields parts) = omega arith in
    omega (arith, length-append name rest)

produced_part_length : (version : ℤ) (part : ProducedPart) → ⊤ → length (fields (produced_part_fields version part)) ≤ 30 + 0
produced_part_length version part _ =
    let start = only_field (has_log_start version) (Int64 part.start) [] in
    let whole : length (fields (produced_part_fields version part)) ≡ 22 + length (fields start) = omega arith in
    omega (arith, start_length (has_log_start version) part.start [])

produced_topic_length : (version : ℤ) (topic : ProducedTopic) → IsProducedTopic topic → length (fields (produced_topic_fields version topic)) ≤ 40000 + 0
produced_topic_length version topic is =
    let all = topic_length topic.name (length topic.parts) (flat_map (produced_part_fields version) topic.parts) in
    let parts = length_all (produced_part_fields version) nothing (λ _. ⊤) 30 (produced_part_length version) topic.parts (all_true topic.parts) in
    let none = none_of_none topic.parts in
    let name = is.name in
    let few = is.few in
    omega arith

pub produced_spellable : (correlation version : ℤ) (topics : List ProducedTopic) → length topics ≤ 64 → AllByRecursion IsProducedTopic topics → IsSpellable (record { correlation = correlation; told = Produced version topics })
produced_spellable correlation version topics few all =
    let in_topics = flat_map (produced_topic_fields version) topics in
    let each = length_all (produced_topic_fields version) nothing IsProducedTopic 40000 (produced_topic_length version) topics all in
    let none = none_of_none topics in
    let joined : length (fields (in_topics ++ Int32 (pos 0) ∷ [])) ≡ length (fields in_topics) + 4 =
    ap length (fields-append in_topics (Int32 (pos 0) ∷ [])) ∙ length-append (fields in_topics) (fields (Int32 (pos 0) ∷ [])) in
    let whole : length (spelling (record { correlation = correlation; told = Produced version topics })) ≡ 12 + length (fields (in_topics ++ Int32 (pos 0) ∷ [])) = omega arith in
    record { in_range = produced_in_range version topics few all; short = omega arith }

fetched_part_length : (version isolation : ℤ) (part : FetchedPart) → ⊤ → length (fields (fetched_part_fields version isolation part)) ≤ 38 + length part.records
fetched_part_length version isolation part _ =
    let last = Array (aborted isolation) ∷ Records (Some part.records) ∷ [] in
    let start = only_field (has_log_start version) (Int64 part.start) last in
    let whole : length (fields (fetched_part_fields version isolation part)) ≡ 22 + length (fields start) = omega arith in
    let behind : length (fields last) ≡ 8 + length (part.records ++ []) = omega arith in
    omega (arith, start_length (has_log_start version) part.start last, length-append part.records [])

fetched_topic_length : (version isolation : ℤ) (topic : FetchedTopic) → IsFetchedTopic topic → length (fields (fetched_topic_fields version isolation topic)) ≤ 40000 + length (records_in topic)
fetched_topic_length version isolation topic is =
    let all = topic_length topic.name (length topic.parts) (flat_map (fetched_part_fields version isolation) topic.parts) in
    let parts = length_all (fetched_part_fields version isolation) (λ part. part.records) (λ _. ⊤) 38 (fetched_part_length version isolation) topic.parts (all_true topic.parts) in
    let name = is.name in
    let few = is.few in
    omega arith

pub fetched_spellable : (correlation version isolation : ℤ) (topics : List FetchedTopic) → length topics ≤ 64 → AllByRecursion IsFetchedTopic topics → length (flat_map records_in topics) ≤ 2 ^ 30
    → IsSpellable (record { correlation = correlation; told = Fetched version isolation topics })
fetched_spellable correlation version isolation topics few all bytes =
    let each = length_all (fetched_topic_fields version isolation) records_in IsFetchedTopic 40000 (fetched_topic_length version isolation) topics all in
    let whole : length (spelling (record { correlation = correlation; told = Fetched version isolation topics })) ≡ 16 + length (fields (flat_map (fetched_topic_fields version isolation) topics)) = omega arith in
    record { in_range = fetched_in_range version isolation topics few all; short = omega arith }

-- ---- metadata, and the versions of the apis

-- a topic that metadata tells
pub record IsInfo (topic : TopicInfo) : Type 0 where
  pub name : length topic.name < 2 ^ 15
  pub few : topic.partitions ≤ 64
  pub replicas : topic.followers ≤ 8

abbrev numbers : List ℕ → List Field
numbers xs = map (λ x. Int32 (pos x)) xs

numbers_in_range : (xs : List ℕ) → AreInRange (numbers xs)
numbers_in_range [] = tt
numbers_in_range (x ∷ xs) = (tt, numbers_in_range xs)

numbers_length : (xs : List ℕ) → length (fields (numbers xs)) ≡ 4 * length xs
numbers_length [] = refl
numbers_length (x ∷ xs) = let rest = numbers_length xs in omega arith

replicas_in_range : (followers : ℕ) → followers ≤ 8 → AreInRange (replica_fields followers)
replicas_in_range followers few = (few_fit (followers + 1) (omega (arith, few)), numbers_in_range (range_with_len 0 (followers + 1)))

replicas_length : (followers : ℕ) → length (fields (replica_fields followers)) ≡ 8 + 4 * followers
replicas_length followers =
    let all = numbers_length (range_with_len 0 (followers + 1)) in
    let size = length-range_with_len 0 (followers + 1) in
    omega arith

partition_in_range : (followers index : ℕ) → followers ≤ 8 → AreInRange (partition_fields followers index)
partition_in_range followers index few =
    let one = replicas_in_range followers few in
    (tt, (tt, (tt, in_range_both (replica_fields followers) (replica_fields followers) one one)))

partition_length : (followers index : ℕ) → followers ≤ 8 → length (fields (partition_fields followers index)) ≤ 90 + 0
partition_length followers index few =
    let one = replica_fields followers in
    let both : length (fields (one ++ one)) ≡ length (fields one) + length (fields one) = ap length (fields-append one one) ∙ length-append (fields one) (fields one) in
    let size = replicas_length followers in
    omega arith

info_in_range : (topic : TopicInfo) → IsInfo topic → AreInRange (topic_info_fields topic)
info_in_range topic is =
    let parts = range_with_len 0 topic.partitions in
    (tt, (is.name, (tt, (few_fit topic.partitions is.few, in_range_all (partition_fields topic.followers) (λ _. ⊤) (λ index _. partition_in_range topic.followers index is.replicas) parts (all_true parts)))))

info_length : (topic : TopicInfo) → IsInfo topic → length (fields (topic_info_fields topic)) ≤ 40000 + 0
info_length topic is =
    let parts = range_with_len 0 topic.partitions in
    let inside = flat_map (partition_fields topic.followers) parts in
    let each = length_all (partition_fields topic.followers) nothing (λ _. ⊤) 90 (λ index _. partition_length topic.followers index is.replicas) parts (all_true parts) in
    let none = none_of_none parts in
    let count = length-range_with_len 0 topic.partitions in
    let behind = field (Int8 (pos 0)) ++ (field (Array (Some topic.partitions)) ++ fields inside) in
    let all : length (fields (topic_info_fields topic)) ≡ 4 + length (topic.name ++ behind) = omega arith in
    let name = is.name in
    let few = is.few in
    omega (arith, length-append topic.name behind)

pub metadata_spellable : (correlation : ℤ) (port : ℕ) (topics : List TopicInfo) → length topics ≤ 64 → AllByRecursion IsInfo topics → IsSpellable (record { correlation = correlation; told = Metadata port topics })
metadata_spellable correlation port topics few all =
    let each = length_all topic_info_fields nothing IsInfo 40000 info_length topics all in
    let none = none_of_none topics in
    let whole : length (spelling (record { correlation = correlation; told = Metadata port topics })) ≡ 41 + length (fields (flat_map topic_info_fields topics)) = omega arith in
    record {
      in_range = (lit< tt, (tt, (lit< tt, (tt, (tt, (tt, (few_fit (length topics) few, in_range_all topic_info_fields IsInfo info_in_range topics all)))))));
      short = omega arith;
    }

pub versions_spellable : (correlation code : ℤ) → IsSpellable (record { correlation = correlation; told = Versions code })
versions_spellable correlation code = record {
  in_range = (tt, (lit< tt, (tt, (tt, (tt, (tt, (tt, (tt, (tt, (tt, (tt, (tt, (tt, (tt, tt))))))))))))));
  short = omega arith;
}
