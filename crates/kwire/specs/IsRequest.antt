-- Requests and the bodies of their frames. All fields of a body stand one after the other, and nothing stands after them.
use Rattle.std.specs.Prelude.{ℕ, ◌≡◌, ◌≢◌, ◌⊎◌, ℤ, negsuc, Bool, true, false, List, [], ◌∷◌, ◌++◌, length, map, unwrap_or, Some, None, option_map, AllPairs, ⊤}
use Rattle.std.specs.List.{flat_map, AllByRecursion}
use Rattle.kbytes.specs.Field.{Field, Int8, Int16, Int32, Int64, String, NullableString, Records, Array, fields}
use Rattle.kbytes.specs.FitsField.{FitsField}
use Rattle.kwire.specs.declared.request.Request.{Request}
use Rattle.kwire.specs.declared.request.Ask.{Ask}
use Rattle.kwire.specs.declared.request.Ask.TheVariants.{Produce, Fetch, Metadata, Versions}
use Rattle.kwire.specs.declared.request.ProducePart.{ProducePart}
use Rattle.kwire.specs.declared.request.ProduceTopic.{ProduceTopic}
use Rattle.kwire.specs.declared.request.FetchPart.{FetchPart}
use Rattle.kwire.specs.declared.request.FetchTopic.{FetchTopic}
use Rattle.kwire.specs.declared.api.Api.{Api}
use Rattle.kwire.specs.declared.api.Api.TheVariants.{Produce as ProduceApi, Fetch as FetchApi, Metadata as MetadataApi, Versions as VersionsApi}
use Rattle.kwire.specs.Layouts.{AreOf}
use Rattle.kwire.specs.Apis.{key_of_api, versions_of_api, is_read_in, has_log_start, request_layout}

-- the api that is asked
abbrev pub api_of : Ask → Api
api_of (Produce version transactional acks timeout topics) = ProduceApi
api_of (Fetch version replica max_wait min_bytes max_bytes isolation topics) = FetchApi
api_of (Metadata topics) = MetadataApi
api_of (Versions version) = VersionsApi

-- the version that the header tells
abbrev pub version_of : Ask → ℤ
version_of (Produce version transactional acks timeout topics) = version
version_of (Fetch version replica max_wait min_bytes max_bytes isolation topics) = version
version_of (Metadata topics) = (versions_of_api MetadataApi).greatest
version_of (Versions version) = version

abbrev pub produce_part_fields : ProducePart → List Field
produce_part_fields part = Int32 part.index ∷ Records part.records ∷ []

abbrev pub produce_topic_fields : ProduceTopic → List Field
produce_topic_fields topic = String topic.name ∷ Array (Some (length topic.parts)) ∷ flat_map produce_part_fields topic.parts

-- a field that stands there only in some versions, and those after it
abbrev pub only_field : Bool → Field → List Field → List Field
only_field true f fs = f ∷ fs
only_field false f fs = fs

abbrev pub fetch_part_fields : ℤ → FetchPart → List Field
fetch_part_fields version part =
    Int32 part.index ∷ Int64 part.offset ∷ only_field (has_log_start version) (Int64 part.log_start) (Int32 part.most ∷ [])

abbrev pub fetch_topic_fields : ℤ → FetchTopic → List Field
fetch_topic_fields version topic =
    String topic.name ∷ Array (Some (length topic.parts)) ∷ flat_map (fetch_part_fields version) topic.parts

abbrev pub name_fields : List ℕ → List Field
name_fields name = String name ∷ []

-- what stands after the header and the client's id
abbrev pub ask_fields : Ask → List Field
ask_fields (Produce version transactional acks timeout topics) =
    NullableString transactional ∷ Int16 acks ∷ Int32 timeout ∷ Array (Some (length topics)) ∷ flat_map produce_topic_fields topics
ask_fields (Fetch version replica max_wait min_bytes max_bytes isolation topics) =
    Int32 replica ∷ Int32 max_wait ∷ Int32 min_bytes ∷ Int32 max_bytes ∷ Int8 isolation ∷ Array (Some (length topics)) ∷ flat_map (fetch_topic_fields version) topics
ask_fields (Metadata topics) = Array (option_map length topics) ∷ flat_map name_fields (unwrap_or topics [])
ask_fields (Versions version) = []

-- the api's key, the version and the correlation id
abbrev pub head : ℤ → ℤ → ℤ → List Field
head key version correlation = Int16 key ∷ Int16 version ∷ Int32 correlation ∷ []

abbrev pub head_fields : Request → List Field
head_fields request = head (key_of_api (api_of request.ask)) (version_of request.ask) request.correlation

abbrev pub request_fields : Request → List Field
request_fields request = head_fields request ++ NullableString request.client ∷ ask_fields request.ask

-- what a version doesn't tell is -1
abbrev pub FitsVersion : ℤ → FetchPart → Type 0
FitsVersion version part = has_log_start version ≡ false → part.log_start ≡ negsuc 0

-- so it is with each partition of a fetch
abbrev pub AllFitVersion : Ask → Type 0
AllFitVersion (Produce version transactional acks timeout topics) = ⊤
AllFitVersion (Fetch version replica max_wait min_bytes max_bytes isolation topics) =
    AllByRecursion (λ topic. AllByRecursion (FitsVersion version) topic.parts) topics
AllFitVersion (Metadata topics) = ⊤
AllFitVersion (Versions version) = ⊤

-- a named partition
pub record Named : Type 0 where
  pub topic : List ℕ
  pub index : ℤ

-- the partitions that are named, in order over all topics
abbrev pub named_of : Ask → List Named
named_of (Produce version transactional acks timeout topics) =
    flat_map (λ topic. map (λ part. record { topic = topic.name; index = part.index }) topic.parts) topics
named_of (Fetch version replica max_wait min_bytes max_bytes isolation topics) =
    flat_map (λ topic. map (λ part. record { topic = topic.name; index = part.index }) topic.parts) topics
named_of (Metadata topics) = []
named_of (Versions version) = []

-- how many topics are named
abbrev pub topics_named : Ask → ℕ
topics_named (Produce version transactional acks timeout topics) = length topics
topics_named (Fetch version replica max_wait min_bytes max_bytes isolation topics) = length topics
topics_named (Metadata topics) = length (unwrap_or topics [])
topics_named (Versions version) = 0

-- the body is the fields of the request, and they are those of the api's layout in a version that is read whole
pub record IsSpelledOut (body : List ℕ) (request : Request) : Type 0 where
  pub spelled : body ≡ fields (request_fields request)
  pub version : is_read_in (api_of request.ask) (version_of request.ask) ≡ true
  pub laid_out : AreOf (request_layout (api_of request.ask) (version_of request.ask)) (request_fields request)
  pub fitting : AllFitVersion request.ask

-- such a body, in which no partition is named twice
pub record IsWhole (body : List ℕ) (request : Request) : Type 0 where
  pub whole : IsSpelledOut body request
  pub once : AllPairs (λ a b. a ≢ b) (named_of request.ask)

-- ApiVersions in another version, whatever stands after the correlation id
pub record IsOtherVersion (body : List ℕ) (request : Request) : Type 0 where
  pub version : ℤ
  pub asked : request.ask ≡ Versions version
  pub other : is_read_in VersionsApi version ≡ false
  pub nobody : request.client ≡ None
  pub fits : AllByRecursion FitsField (head_fields request)
  pub rest : List ℕ
  pub spelled : body ≡ fields (head_fields request) ++ rest

abbrev pub IsRequest : List ℕ → Request → Type 0
IsRequest body request = IsWhole body request ⊎ IsOtherVersion body request
