-- What a body of bytes carries are bytes.
use Rattle.std.proofs.Common.{◌≡◌, ℕ, zero, suc, ℤ, pos, List, [], ◌∷◌, ◌++◌, length, map, Option, Some, None, unwrap_or, refl, sym, subst, arith, inl, inr}
use Rattle.std.proofs.lemmas.List.{take_at, drop_at}
use Rattle.std.specs.List.{flat_map, AllByRecursion}
use Rattle.std.specs.Int.{w32}
use Rattle.kbytes.specs.Octets.{IsBytes}
use Rattle.kbytes.specs.Field.{Field, field, fields, integer, sized}
use Rattle.kbytes.proofs.Laws.{IsBytes-take, IsBytes-drop}
use Rattle.kwire.specs.declared.request.Ask.{Ask}
use Rattle.kwire.specs.declared.request.Ask.TheVariants.{Produce, Fetch, Metadata, Versions}
use Rattle.kwire.specs.declared.request.ProducePart.{ProducePart}
use Rattle.kwire.specs.declared.request.ProduceTopic.{ProduceTopic}
use Rattle.kwire.specs.declared.request.Request.{Request}
use Rattle.kanswer.specs.Decisions.{produce_parts}
use Rattle.kwire.specs.IsRequest.{IsRequest, produce_part_fields, produce_topic_fields, ask_fields, request_fields}
use Rattle.kbytes.proofs.Laws.{all_append}

-- ---- parts of bytes

pub none_are_bytes : IsBytes []
none_are_bytes i = omega arith

pub front_bytes : (xs ys : List ℕ) → IsBytes (xs ++ ys) → IsBytes xs
front_bytes xs ys fits = subst IsBytes (take_at xs ys (length xs) refl) (IsBytes-take (length xs) (xs ++ ys) fits)

pub back_bytes : (xs ys : List ℕ) → IsBytes (xs ++ ys) → IsBytes ys
back_bytes xs ys fits = subst IsBytes (drop_at xs ys (length xs) refl) (IsBytes-drop (length xs) (xs ++ ys) fits)

pub both_bytes : (xs ys : List ℕ) → IsBytes xs → IsBytes ys → IsBytes (xs ++ ys)
both_bytes [] ys one two i = two i
both_bytes (x ∷ xs) ys one two zero = one 0
both_bytes (x ∷ xs) ys one two (suc i) = both_bytes xs ys (λ j. one (suc j)) two i

-- ---- fields

abbrev IsSpelledByBytes : Field → Type 0
IsSpelledByBytes f = IsBytes (field f)

each_field : (fs : List Field) → IsBytes (fields fs) → AllByRecursion IsSpelledByBytes fs
each_field [] fits = tt
each_field (f ∷ fs) fits = (front_bytes (field f) (fields fs) fits, each_field fs (back_bytes (field f) (fields fs) fits))

behind_fields : (fs gs : List Field) → AllByRecursion IsSpelledByBytes (fs ++ gs) → AllByRecursion IsSpelledByBytes gs
behind_fields [] gs all = all
behind_fields (f ∷ fs) gs all = behind_fields fs gs all.1

before_fields : (fs gs : List Field) → AllByRecursion IsSpelledByBytes (fs ++ gs) → AllByRecursion IsSpelledByBytes fs
before_fields [] gs all = tt
before_fields (f ∷ fs) gs all = (all.0, before_fields fs gs all.1)

-- ---- the records of a produce

-- those of a named partition
abbrev pub HasBytes : List ℕ × ProducePart → Type 0
HasBytes named = IsBytes (unwrap_or named.1.records [])

records_bytes : (records : Option (List ℕ)) → IsBytes (sized w32 records) → IsBytes (unwrap_or records [])
records_bytes None fits = none_are_bytes
records_bytes (Some bytes) fits = back_bytes (integer w32 (pos (length bytes))) bytes fits

parts_bytes : (name : List ℕ) (parts : List ProducePart) → AllByRecursion IsSpelledByBytes (flat_map produce_part_fields parts) → AllByRecursion HasBytes (map (λ (part : ProducePart). (name, part)) parts)
parts_bytes name [] all = tt
parts_bytes name (part ∷ parts) all = (records_bytes part.records all.1.0, parts_bytes name parts all.1.1)

topics_bytes : (topics : List ProduceTopic) → AllByRecursion IsSpelledByBytes (flat_map produce_topic_fields topics) → AllByRecursion HasBytes (produce_parts topics)
topics_bytes [] all = tt
topics_bytes (topic ∷ topics) all =
    let here = flat_map produce_part_fields topic.parts in
    all_append HasBytes (map (λ (part : ProducePart). (topic.name, part)) topic.parts) (produce_parts topics)
    (parts_bytes topic.name topic.parts (before_fields here (flat_map produce_topic_fields topics) all.1.1))
    (topics_bytes topics (behind_fields here (flat_map produce_topic_fields topics) all.1.1))

-- of each partition that is produced to
abbrev pub CarriesBytes : Ask → Type 0
CarriesBytes (Produce version transactional acks timeout topics) = AllByRecursion HasBytes (produce_parts topics)
CarriesBytes (Fetch version replica max_wait min_bytes max_bytes isolation topics) = Unit {0}
CarriesBytes (Metadata topics) = Unit {0}
CarriesBytes (Versions version) = Unit {0}

ask_bytes : (ask : Ask) → AllByRecursion IsSpelledByBytes (ask_fields ask) → CarriesBytes ask
ask_bytes (Produce version transactional acks timeout topics) all = topics_bytes topics all.1.1.1.1
ask_bytes (Fetch version replica max_wait min_bytes max_bytes isolation topics) all = tt
ask_bytes (Metadata topics) all = tt
ask_bytes (Versions version) all = tt

versions_bytes : (ask : Ask) (version : ℤ) → ask ≡ Versions version → CarriesBytes ask
versions_bytes ask version is = subst CarriesBytes (sym is) tt

pub request_bytes : (body : List ℕ) (request : Request) → IsBytes body → IsRequest body request → CarriesBytes request.ask
request_bytes body request fits (inl whole) =
    let each = each_field (request_fields request) (subst IsBytes whole.whole.spelled fits) in
    ask_bytes request.ask each.1.1.1.1
request_bytes body request fits (inr other) = versions_bytes request.ask other.version other.asked
