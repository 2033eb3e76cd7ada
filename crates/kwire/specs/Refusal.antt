-- Which bodies are refused, and why: the first fault from the left. The header comes first, then the api and its version, then
-- the fields, bytes after them, and a partition that is named twice.
use Rattle.std.specs.Prelude.{ℕ, ◌+◌, ◌≡◌, ◌≢◌, ℤ, true, false, List, [], ◌∷◌, ◌++◌, length, map, AllPairs, Contains}
use Rattle.std.specs.List.{AllByRecursion}
use Rattle.kbytes.specs.Field.{Field, fields}
use Rattle.kbytes.specs.FitsField.{FitsField}
use Rattle.kwire.specs.declared.api.Api.{Api}
use Rattle.kwire.specs.declared.api.Api.TheVariants.{Versions as VersionsApi}
use Rattle.kwire.specs.declared.request.Request.{Request}
use Rattle.kwire.specs.declared.request.Ask.{Ask}
use Rattle.kwire.specs.declared.request.Ask.TheVariants.{Produce, Fetch, Metadata, Versions}
use Rattle.kwire.specs.declared.frame.WireFault.{WireFault}
use Rattle.kwire.specs.declared.frame.WireFault.TheVariants.{BadRequest, UnknownApi, Unsupported, Twice}
use Rattle.kwire.specs.Layouts.{AreOf, IsFirstFault}
use Rattle.kwire.specs.Apis.{key_of_api, is_read_in, head_layout, request_layout}
use Rattle.kwire.specs.IsRequest.{head, IsSpelledOut, Named}

-- the body begins with a header: the api's key, the version and the correlation id
pub record HasHead (body : List ℕ) (key version : ℤ) : Type 0 where
  pub correlation : ℤ
  pub fits : AllByRecursion FitsField (head key version correlation)
  pub rest : List ℕ
  pub parts : body ≡ fields (head key version correlation) ++ rest

-- a partition that a topic entry names; entries are numbered from 0
pub record Mention : Type 0 where
  pub entry : ℕ
  pub topic : List ℕ
  pub index : ℤ

abbrev pub named : Mention → Named
named mention = record { topic = mention.topic; index = mention.index }

-- those of all entries, which are numbered on from here
abbrev pub mentions_from : {X : Type 0} → (ℕ → X → List Mention) → ℕ → List X → List Mention
mentions_from each entry [] = []
mentions_from each entry (x ∷ xs) = each entry x ++ mentions_from each (entry + 1) xs

-- the partitions that are named, in the order of reading
abbrev pub mentions_of : Ask → List Mention
mentions_of (Produce version transactional acks timeout topics) =
    mentions_from (λ entry topic. map (λ part. record { entry = entry; topic = topic.name; index = part.index }) topic.parts) 0 topics
mentions_of (Fetch version replica max_wait min_bytes max_bytes isolation topics) =
    mentions_from (λ entry topic. map (λ part. record { entry = entry; topic = topic.name; index = part.index }) topic.parts) 0 topics
mentions_of (Metadata topics) = []
mentions_of (Versions version) = []

-- the first that names a partition again: those before it differ, and one of them names the same
pub record IsFirstRepeat (all : List Mention) (mention : Mention) : Type 0 where
  pub before : List Mention
  pub after : List Mention
  pub parts : all ≡ before ++ mention ∷ after
  pub fresh : AllPairs (λ a b. a ≢ b) (map named before)
  pub again : Contains (map named before) (named mention)

pub data IsRefused : List ℕ → WireFault → Type 0 where
  -- a field of the header doesn't read
  NoHead : {body : List ℕ} {why : WireFault} → IsFirstFault head_layout body why → IsRefused body why
  -- no api has this key
  NoApi : {body : List ℕ} {key version : ℤ} → HasHead body key version → ((api : Api) → key ≢ key_of_api api) → IsRefused body (UnknownApi key)
  -- the api isn't read whole in this version
  NoVersion : {body : List ℕ} {key version : ℤ} → HasHead body key version → (api : Api) → key ≡ key_of_api api → is_read_in api version ≡ false → api ≢ VersionsApi
      → IsRefused body (Unsupported key version)
  -- a field doesn't read or isn't allowed, or a count names too many
  NoField : {body : List ℕ} {why : WireFault} → {version : ℤ} → (api : Api) → is_read_in api version ≡ true → HasHead body (key_of_api api) version → IsFirstFault (request_layout api version) body why → IsRefused body why
  -- bytes stand after the fields
  MoreBytes : {body : List ℕ} → {version : ℤ} → (api : Api) → is_read_in api version ≡ true → HasHead body (key_of_api api) version → (fs : List Field) → AreOf (request_layout api version) fs
      → (rest : List ℕ) → rest ≢ [] → body ≡ fields fs ++ rest → IsRefused body (BadRequest (length (fields fs)))
  -- a partition is named twice
  NamedTwice : {body : List ℕ} → (request : Request) → IsSpelledOut body request → (mention : Mention) → IsFirstRepeat (mentions_of request.ask) mention
      → IsRefused body (Twice mention.entry mention.index)
