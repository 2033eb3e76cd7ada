-- A request that is spelled out: its fields are in range, and it names at most 64 topics and partitions.
use Rattle.std.proofs.Common.{ℕ, ◌+◌, ◌≤◌, ℤ, Bool, true, false, subst, append_assoc, List, [], ◌∷◌, ◌++◌, length, map, Some, None, arith}
use Rattle.std.specs.List.{flat_map}
use Rattle.std.proofs.lemmas.List.{length-append, length-map}
use Rattle.kbytes.specs.Field.{Field, Int32, Int64}
use Rattle.kbytes.specs.FitsField.{FitsField}
use Rattle.kwire.specs.declared.request.TheConstants.{MOST_NAMED}
use Rattle.kwire.specs.declared.request.Request.{Request}
use Rattle.kwire.specs.declared.request.Ask.{Ask}
use Rattle.kwire.specs.declared.request.Ask.TheVariants.{Produce, Fetch, Metadata, Versions}
use Rattle.kwire.specs.declared.request.ProducePart.{ProducePart}
use Rattle.kwire.specs.declared.request.ProduceTopic.{ProduceTopic}
use Rattle.kwire.specs.declared.request.FetchPart.{FetchPart}
use Rattle.kwire.specs.declared.request.FetchTopic.{FetchTopic}
use Rattle.kwire.specs.Layouts.{INT32, INT64, Layout, End, ◌⨾◌, Many, MayCome, left_after, named_after, followed_by, times, LeadTo, AreOf}
use Rattle.kwire.specs.Apis.{has_log_start, only, produce_part_layout, produce_topic_layout, fetch_part_layout, fetch_topic_layout, request_layout}
use Rattle.kwire.specs.IsRequest.{IsSpelledOut, Named, api_of, version_of, only_field, produce_part_fields, produce_topic_fields, fetch_part_fields, fetch_topic_fields, request_fields, named_of, topics_named}
use Rattle.kwire.proofs.Places.{AllFit}

may_fit : (layout : Layout) (named : ℕ) (f : Field) → MayCome layout named f → FitsField f
may_fit End named f h = absurd h
may_fit (kind ⨾ next) named f h = h.1
may_fit (Many kind things each next) named f h = h.1

lead_fit : (fs : List Field) (layout left : Layout) (named all : ℕ) → LeadTo layout named fs left all → AllFit fs
lead_fit [] layout left named all h = tt
lead_fit (f ∷ fs) layout left named all h = (may_fit layout named f h.0, lead_fit fs (left_after layout f) left (named_after layout named f) all h.1)

pub spelled_fits : (body : List ℕ) (request : Request) → IsSpelledOut body request → AllFit (request_fields request)
spelled_fits body request h = lead_fit (request_fields request) (request_layout (api_of request.ask) (version_of request.ask)) End 0 h.laid_out.named h.laid_out.lead

-- ---- topics

few_topics : (ask : Ask) (request : Request) → AreOf (request_layout (api_of ask) (version_of ask)) (request_fields (record request { ask = ask })) → topics_named ask ≤ MOST_NAMED
few_topics (Produce version transactional acks timeout topics) request h = h.lead.1.1.1.1.1.1.1.0.2
few_topics (Fetch version replica max_wait min_bytes max_bytes isolation topics) request h = h.lead.1.1.1.1.1.1.1.1.1.0.2
few_topics (Metadata None) request h = omega arith
few_topics (Metadata (Some topics)) request h = h.lead.1.1.1.1.0.2
few_topics (Versions version) request h = omega arith

pub spelled_topics : (body : List ℕ) (request : Request) → IsSpelledOut body request → topics_named request.ask ≤ MOST_NAMED
spelled_topics body request h = few_topics request.ask request h.laid_out

-- ---- partitions

skip_produce : (parts : List ProducePart) (next : Layout) (named all : ℕ) (gs : List Field) → LeadTo (times (length parts) produce_part_layout next) named (flat_map produce_part_fields parts ++ gs) End all → LeadTo next named gs End all
unfolding times followed_by
skip_produce [] next named all gs h = h
skip_produce (p ∷ parts) next named all gs h = skip_produce parts next named all gs h.1.1

-- the last fields of a fetch's partition
skip_rest : (b : Bool) (start most : ℤ) (next : Layout) (named all : ℕ) (gs : List Field) → LeadTo (followed_by (only b INT64 (INT32 ⨾ End)) next) named (only_field b (Int64 start) (Int32 most ∷ []) ++ gs) End all → LeadTo next named gs End all
unfolding followed_by
skip_rest true start most next named all gs h = h.1.1
skip_rest false start most next named all gs h = h.1

skip_fetch : (version : ℤ) (parts : List FetchPart) (next : Layout) (named all : ℕ) (gs : List Field) → LeadTo (times (length parts) (fetch_part_layout version) next) named (flat_map (fetch_part_fields version) parts ++ gs) End all → LeadTo next named gs End all
unfolding times followed_by
skip_fetch version [] next named all gs h = h
skip_fetch version (p ∷ parts) next named all gs h =
    let rest = flat_map (fetch_part_fields version) parts ++ gs in
    let layout = times (length parts) (fetch_part_layout version) next in
    let tail = only_field (has_log_start version) (Int64 p.log_start) (Int32 p.most ∷ []) in
    let there = subst (λ (fs : List Field). LeadTo (followed_by (only (has_log_start version) INT64 (INT32 ⨾ End)) layout) named fs End all) (append_assoc tail (flat_map (fetch_part_fields version) parts) gs) h.1.1 in
    skip_fetch version parts next named all gs (skip_rest (has_log_start version) p.log_start p.most layout named all rest there)

module _ {X Y : Type 0} (name : X → List ℕ) (parts : X → List Y) (index : Y → ℤ) where
  abbrev names_in : List X → List Named
  names_in topics = flat_map (λ topic. map (λ part. record { topic = name topic; index = index part }) (parts topic)) topics

  names_more : (named : ℕ) (t : X) (ts : List X) → (named + length (parts t)) + length (names_in ts) ≤ MOST_NAMED → named + length (names_in (t ∷ ts)) ≤ MOST_NAMED
  names_more named t ts h =
      let one : Y → Named = λ part. record { topic = name t; index = index part } in
      omega (arith, h, length-append (map one (parts t)) (names_in ts), length-map (parts t) one)

produce_names : (topics : List ProduceTopic) (named all : ℕ) → named ≤ MOST_NAMED → LeadTo (times (length topics) produce_topic_layout End) named (flat_map produce_topic_fields topics) End all
    → named + length (names_in (λ (t : ProduceTopic). t.name) (λ (t : ProduceTopic). t.parts) (λ (p : ProducePart). p.index) topics) ≤ MOST_NAMED
unfolding times followed_by
produce_names [] named all few h = omega (arith, few)
produce_names (t ∷ topics) named all few h =
    let more = skip_produce t.parts (times (length topics) produce_topic_layout End) (named + length t.parts) all (flat_map produce_topic_fields topics) h.1.1 in
    names_more (λ (t : ProduceTopic). t.name) (λ (t : ProduceTopic). t.parts) (λ (p : ProducePart). p.index) named t topics (produce_names topics (named + length t.parts) all h.1.0.2 more)

fetch_names : (version : ℤ) (topics : List FetchTopic) (named all : ℕ) → named ≤ MOST_NAMED → LeadTo (times (length topics) (fetch_topic_layout version) End) named (flat_map (fetch_topic_fields version) topics) End all
    → named + length (names_in (λ (t : FetchTopic). t.name) (λ (t : FetchTopic). t.parts) (λ (p : FetchPart). p.index) topics) ≤ MOST_NAMED
unfolding times followed_by
fetch_names version [] named all few h = omega (arith, few)
fetch_names version (t ∷ topics) named all few h =
    let more = skip_fetch version t.parts (times (length topics) (fetch_topic_layout version) End) (named + length t.parts) all (flat_map (fetch_topic_fields version) topics) h.1.1 in
    names_more (λ (t : FetchTopic). t.name) (λ (t : FetchTopic). t.parts) (λ (p : FetchPart). p.index) named t topics (fetch_names version topics (named + length t.parts) all h.1.0.2 more)

few_partitions : (ask : Ask) (request : Request) → AreOf (request_layout (api_of ask) (version_of ask)) (request_fields (record request { ask = ask })) → length (named_of ask) ≤ MOST_NAMED
few_partitions (Produce version transactional acks timeout topics) request h = omega (arith, produce_names topics 0 h.named (omega arith) h.lead.1.1.1.1.1.1.1.1)
few_partitions (Fetch version replica max_wait min_bytes max_bytes isolation topics) request h = omega (arith, fetch_names version topics 0 h.named (omega arith) h.lead.1.1.1.1.1.1.1.1.1.1)
few_partitions (Metadata topics) request h = omega arith
few_partitions (Versions version) request h = omega arith

pub spelled_partitions : (body : List ℕ) (request : Request) → IsSpelledOut body request → length (named_of request.ask) ≤ MOST_NAMED
spelled_partitions body request h = few_partitions request.ask request h.laid_out
