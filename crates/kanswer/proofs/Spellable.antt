-- The reply to a request that was read has a frame.
use Rattle.std.proofs.Common.{◌≡◌, ℕ, ◌<◌, ◌≤◌, ◌^◌, ℤ, Bool, true, false, cond, Option, Some, None, List, [], ◌∷◌, ◌++◌, length, take, drop, map, sum_by, subst, refl, sym, arith, length-append, inl, inr}
use Rattle.std.proofs.lemmas.List.{length-map}
use Rattle.std.proofs.lemmas.List.Sums.{sum_by-cons, sum_by-take-drop}
use Rattle.std.specs.List.{flat_map, AllByRecursion}
use Rattle.std.specs.Bool.{nat_eq}
use Rattle.std.specs.Cmp.Lexicographic.{pointwise}
use Rattle.std.specs.List.{find}
use Rattle.kbytes.specs.Field.{Field, String}
use Rattle.kwire.specs.declared.config.Topic.{Topic}
use Rattle.kwire.specs.DeclaredTopics.{AreDeclared, IsDeclared}
use Rattle.kbytes.proofs.Laws.{some_is}
use Rattle.kbytes.specs.FitsField.{FitsField}
use Rattle.kwire.specs.declared.request.Ask.{Ask}
use Rattle.kwire.specs.declared.request.Ask.TheVariants.{Produce, Fetch, Metadata, Versions}
use Rattle.kwire.specs.declared.request.Request.{Request}
use Rattle.kwire.specs.declared.request.ProducePart.{ProducePart}
use Rattle.kwire.specs.declared.request.ProduceTopic.{ProduceTopic}
use Rattle.kwire.specs.declared.request.FetchPart.{FetchPart}
use Rattle.kwire.specs.declared.request.FetchTopic.{FetchTopic}
use Rattle.kwire.specs.declared.reply.Told.TheVariants.{Fetched}
use Rattle.kwire.specs.declared.reply.FetchedPart.{FetchedPart}
use Rattle.kwire.specs.declared.reply.FetchedTopic.{FetchedTopic}
use Rattle.kanswer.specs.declared.accepted.Accepted.{Accepted}
use Rattle.kanswer.specs.declared.accepted.Accepted.TheVariants.{Refused, Appended, Seen}
use Rattle.kanswer.specs.declared.accepted.Reading.{Reading}
use Rattle.kanswer.specs.Answer.{produced_parts, produced_topics, first_budget, info_as, info_of, infos_of, told_to, answer}
use Rattle.kanswer.specs.LogReadings.{AreReadings, budget_of}
use Rattle.kwire.specs.Configuration.{Configuration, partitions_of}
use Rattle.kanswer.specs.Waiting.{Shown}
use Rattle.kanswer.specs.BytesRead.{bytes_read, most_left}
use Rattle.kwire.specs.IsRequest.{IsRequest, Named, named_of, topics_named, ask_fields, produce_part_fields, produce_topic_fields, fetch_part_fields, fetch_topic_fields}
use Rattle.kwire.specs.IsSpellable.{IsSpellable}
use Rattle.kanswer.specs.ToldParts.{parts_by, fetched_part, fetched_topic, fetched_of}
use Rattle.kanswer.proofs.AnswersAgree.{fetched_is}
use Rattle.kwire.proofs.Laws.{IsProducedTopic, IsFetchedPart, IsFetchedTopic, records_in, IsInfo, produced_spellable, fetched_spellable, metadata_spellable, versions_spellable, spelled_fits, spelled_topics, spelled_partitions}

-- what stands behind some fields fits too
behind_fit : (fs gs : List Field) → AllByRecursion FitsField (fs ++ gs) → AllByRecursion FitsField gs
behind_fit [] gs all = all
behind_fit (f ∷ fs) gs all = behind_fit fs gs all.1

module _ {T P : Type 0} (parts : T → List P) (named : T → P → Named) where
  all_named : (topics : List T) → length (flat_map (λ t. map (named t) (parts t)) topics) ≡ sum_by (λ t. length (parts t)) topics
  all_named [] = refl
  all_named (t ∷ topics) =
      omega (
        arith,
        length-append (map (named t) (parts t)) (flat_map (λ (u : T). map (named u) (parts u)) topics),
        length-map (parts t) (named t),
        sum_by-cons (λ (u : T). length (parts u)) t topics,
        all_named topics,
      )

-- ---- produces

few_produced : (config : Configuration) (acks : ℤ) (parts : List ProducePart) (shown : List Shown) → length (produced_parts config acks parts shown) ≤ length parts
few_produced config acks [] shown = omega arith
few_produced config acks (asked ∷ parts) [] = omega arith
few_produced config acks (asked ∷ parts) (s ∷ shown) = let rest = few_produced config acks parts shown in omega arith

produced_length : (config : Configuration) (acks : ℤ) (topics : List ProduceTopic) (shown : List Shown) → length (produced_topics config acks topics shown) ≡ length topics
produced_length config acks [] shown = refl
produced_length config acks (topic ∷ topics) shown = let rest = produced_length config acks topics (drop (length topic.parts) shown) in omega arith

produced_fine : (config : Configuration) (acks : ℤ) (topics : List ProduceTopic) (shown : List Shown) → sum_by (λ topic. length topic.parts) topics ≤ 64
    → AllByRecursion FitsField (flat_map produce_topic_fields topics) → AllByRecursion IsProducedTopic (produced_topics config acks topics shown)
produced_fine config acks [] shown few fits = tt
produced_fine config acks (topic ∷ topics) shown few fits =
    let count = sum_by-cons (λ (t : ProduceTopic). length t.parts) topic topics in
    let here = few_produced config acks topic.parts (take (length topic.parts) shown) in
    let rest = behind_fit (flat_map produce_part_fields topic.parts) (flat_map produce_topic_fields topics) fits.1.1 in
    (record { name = fits.0; few = omega arith }, produced_fine config acks topics (drop (length topic.parts) shown) (omega arith) rest)

-- ---- fetches

few_parts : {A B : Type 0} (f : A → Accepted → Reading → B) (parts : List A) (results : List Accepted) (readings : List Reading) → length (parts_by f parts results readings) ≤ length parts
few_parts f [] results readings = omega arith
few_parts f (asked ∷ parts) [] readings = omega arith
few_parts f (asked ∷ parts) (result ∷ results) [] = omega arith
few_parts f (asked ∷ parts) (result ∷ results) (reading ∷ readings) = let rest = few_parts f parts results readings in omega arith

fetched_length : (topics : List FetchTopic) (results : List Accepted) (readings : List Reading) → length (fetched_of topics results readings) ≡ length topics
fetched_length [] results readings = refl
fetched_length (topic ∷ topics) results readings =
    let rest = fetched_length topics (drop (length topic.parts) results) (drop (length topic.parts) readings) in
    omega arith

part_bytes : (asked : FetchPart) (result : Accepted) (reading : Reading) → length (fetched_part asked result reading).records ≤ length reading.records
part_bytes asked (Refused code) reading = omega arith
part_bytes asked (Appended part base count) reading = omega arith
part_bytes asked (Seen part start) reading = omega arith

abbrev records_of : List FetchedPart → List ℕ
records_of parts = flat_map (λ part. part.records) parts

parts_bytes : (parts : List FetchPart) (results : List Accepted) (readings : List Reading) → length (records_of (parts_by fetched_part parts results readings)) ≤ bytes_read readings
parts_bytes [] results readings = omega arith
parts_bytes (asked ∷ parts) [] readings = omega arith
parts_bytes (asked ∷ parts) (result ∷ results) [] = omega arith
parts_bytes (asked ∷ parts) (result ∷ results) (reading ∷ readings) =
    let here = part_bytes asked result reading in
    let rest = parts_bytes parts results readings in
    let read = sum_by-cons (λ (r : Reading). length r.records) reading readings in
    omega (arith, length-append (fetched_part asked result reading).records (records_of (parts_by fetched_part parts results readings)))

topics_bytes : (topics : List FetchTopic) (results : List Accepted) (readings : List Reading) → length (flat_map records_in (fetched_of topics results readings)) ≤ bytes_read readings
topics_bytes [] results readings = omega arith
topics_bytes (topic ∷ topics) results readings =
    let n : ℕ = length topic.parts in
    let here = parts_bytes topic.parts (take n results) (take n readings) in
    let rest = topics_bytes topics (drop n results) (drop n readings) in
    let read = sum_by-take-drop (λ (r : Reading). length r.records) readings n in
    omega (arith, length-append (records_of (parts_by fetched_part topic.parts (take n results) (take n readings))) (flat_map records_in (fetched_of topics (drop n results) (drop n readings))))

each_short : (parts : List FetchedPart) → length (records_of parts) < 2 ^ 31 → AllByRecursion IsFetchedPart parts
each_short [] lt = tt
each_short (part ∷ parts) lt =
    let both = length-append part.records (records_of parts) in
    (omega arith, each_short parts (omega arith))

fetched_fine : (version : ℤ) (topics : List FetchTopic) (results : List Accepted) (readings : List Reading) → sum_by (λ topic. length topic.parts) topics ≤ 64 → bytes_read readings < 2 ^ 31
    → AllByRecursion FitsField (flat_map (fetch_topic_fields version) topics) → AllByRecursion IsFetchedTopic (fetched_of topics results readings)
fetched_fine version [] results readings few short fits = tt
fetched_fine version (topic ∷ topics) results readings few short fits =
    let n : ℕ = length topic.parts in
    let count = sum_by-cons (λ (t : FetchTopic). length t.parts) topic topics in
    let here = few_parts fetched_part topic.parts (take n results) (take n readings) in
    let bytes = parts_bytes topic.parts (take n results) (take n readings) in
    let read = sum_by-take-drop (λ (r : Reading). length r.records) readings n in
    let rest = behind_fit (flat_map (fetch_part_fields version) topic.parts) (flat_map (fetch_topic_fields version) topics) fits.1.1 in
    let one : IsFetchedTopic (fetched_topic topic (take n results) (take n readings)) = record {
      name = fits.0;
      few = omega arith;
      parts = each_short (parts_by fetched_part topic.parts (take n results) (take n readings)) (omega arith);
    }
    in
    (one, fetched_fine version topics (drop n results) (drop n readings) (omega arith) (omega arith) rest)

-- ---- metadata

info_fine : (name : List ℕ) (o : Option Topic) → length name < 2 ^ 15 → ((topic : Topic) → o ≡ Some topic → (length topic.name < 2 ^ 15) × (topic.partitions ≤ 64) × (topic.followers ≤ 8)) → IsInfo (info_as name o)
info_fine name None short fine = record { name = short; few = omega arith; replicas = omega arith }
info_fine name (Some topic) short fine = let t = fine topic refl in record { name = t.0; few = t.1; replicas = t.2 }

abbrev IsFine : Topic → Type 0
IsFine topic = (length topic.name < 2 ^ 15) × (topic.partitions ≤ 64) × (topic.followers ≤ 8)

all_fine : (topics : List Topic) → AllByRecursion IsDeclared topics → partitions_of topics ≤ 64 → AllByRecursion IsFine topics
all_fine [] each few = tt
all_fine (t ∷ topics) each few =
    let total = sum_by-cons (λ (topic : Topic). topic.partitions) t topics in
    let here = each.0 in
    ((omega (arith, here.0), omega (arith, total, few), omega (arith, here.2)), all_fine topics each.1 (omega (arith, total, few)))

few_topics : (topics : List Topic) → AllByRecursion IsDeclared topics → length topics ≤ partitions_of topics
few_topics [] each = omega arith
few_topics (t ∷ topics) each = omega (arith, sum_by-cons (λ (topic : Topic). topic.partitions) t topics, few_topics topics each.1, each.0.1)

found_by : (b : Bool) (t topic : Topic) (o : Option Topic) → IsFine t → (o ≡ Some topic → IsFine topic) → cond b (Some t) o ≡ Some topic → IsFine topic
found_by true t topic o here later e = subst IsFine (some_is t topic e) here
found_by false t topic o here later e = later e

found_fine : (test : Topic → Bool) (topics : List Topic) → AllByRecursion IsFine topics → (topic : Topic) → find test topics ≡ Some topic → IsFine topic
found_fine test [] all topic is = absurd cc
found_fine test (t ∷ topics) all topic is = found_by (test t) t topic (find test topics) all.0 (found_fine test topics all.1 topic) is

every_info : (topics : List Topic) → AllByRecursion IsFine topics → AllByRecursion IsInfo (map (λ topic. info_as topic.name (Some topic)) topics)
every_info [] all = tt
every_info (t ∷ topics) all = (record { name = all.0.0; few = all.0.1; replicas = all.0.2 }, every_info topics all.1)

asked_infos : (topics : List Topic) (names : List (List ℕ)) → AllByRecursion IsFine topics → AllByRecursion FitsField (map String names) → AllByRecursion IsInfo (map (info_of topics) names)
asked_infos topics [] all fits = tt
asked_infos topics (name ∷ names) all fits =
    (info_fine name (find (λ (topic : Topic). pointwise nat_eq topic.name name) topics) fits.0 (found_fine (λ (topic : Topic). pointwise nat_eq topic.name name) topics all), asked_infos topics names all fits.1)

metadata_told : (config : Configuration) (correlation : ℤ) (topics : Option (List (List ℕ))) → AreDeclared config.topics → AllByRecursion FitsField (ask_fields (Metadata topics)) → topics_named (Metadata topics) ≤ 64
    → IsSpellable (record { correlation = correlation; told = told_to config (Metadata topics) [] })
metadata_told config correlation None declared fits few =
    metadata_spellable correlation config.port (infos_of config.topics None)
    (omega (arith, length-map config.topics (λ (topic : Topic). info_as topic.name (Some topic)), few_topics config.topics declared.each, declared.few))
    (every_info config.topics (all_fine config.topics declared.each declared.few))
metadata_told config correlation (Some names) declared fits few =
    metadata_spellable correlation config.port (infos_of config.topics (Some names)) (omega (arith, length-map names (info_of config.topics), few))
    (asked_infos config.topics names (all_fine config.topics declared.each declared.few) fits.1)

-- ---- a request

told_spellable : (config : Configuration) (correlation : ℤ) (ask : Ask) (accepted : List Accepted) (readings : List Reading) (shown : List Shown) → AreDeclared config.topics → AllByRecursion FitsField (ask_fields ask)
    → topics_named ask ≤ 64 → length (named_of ask) ≤ 64 → AreReadings ask accepted readings shown → bytes_read readings ≤ most_left (budget_of ask)
    → IsSpellable (record { correlation = correlation; told = told_to config ask shown })
told_spellable config correlation (Produce version transactional acks timeout topics) accepted readings shown declared fits few_topics few are room =
    let count = all_named (λ (t : ProduceTopic). t.parts) (λ (t : ProduceTopic) (p : ProducePart). record { topic = t.name; index = p.index }) topics in
    let size = produced_length config acks topics shown in
    produced_spellable correlation version (produced_topics config acks topics shown) (omega arith) (produced_fine config acks topics shown (omega arith) fits.1.1.1.1)
told_spellable config correlation (Fetch version replica max_wait min_bytes max_bytes isolation topics) accepted readings shown declared fits few_topics few are room =
    let count = all_named (λ (t : FetchTopic). t.parts) (λ (t : FetchTopic) (p : FetchPart). record { topic = t.name; index = p.index }) topics in
    let size = fetched_length topics accepted readings in
    let bytes = topics_bytes topics accepted readings in
    subst (λ (told : List FetchedTopic). IsSpellable (record { correlation = correlation; told = Fetched version isolation told })) (fetched_is replica topics accepted readings shown (first_budget max_bytes) are)
    (fetched_spellable correlation version isolation (fetched_of topics accepted readings) (omega arith) (fetched_fine version topics accepted readings (omega arith) (omega arith) fits.1.1.1.1.1.1) (omega arith))
told_spellable config correlation (Metadata topics) accepted readings shown declared fits few_topics few are room = metadata_told config correlation topics declared fits few_topics
told_spellable config correlation (Versions version) accepted readings shown declared fits few_topics few are room = versions_spellable correlation _

pub answer_spellable : (config : Configuration) (request : Request) (body : List ℕ) (accepted : List Accepted) (readings : List Reading) (shown : List Shown) → AreDeclared config.topics → IsRequest body request
    → AreReadings request.ask accepted readings shown → bytes_read readings ≤ most_left (budget_of request.ask) → IsSpellable (answer config request shown)
answer_spellable config request body accepted readings shown declared (inl whole) are room =
    told_spellable config request.correlation request.ask accepted readings shown declared (spelled_fits body request whole.whole).1.1.1.1 (spelled_topics body request whole.whole) (spelled_partitions body request whole.whole) are room
answer_spellable config request body accepted readings shown declared (inr other) are room =
    subst (λ (ask : Ask). IsSpellable (record { correlation = request.correlation; told = told_to config ask shown })) (sym other.asked) (versions_spellable request.correlation _)
