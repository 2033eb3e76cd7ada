-- Replies and the bytes of their frames (Kafka protocol guide: Produce v3 to v5, Fetch v4 and v5, Metadata v1, ApiVersions v0).
use Rattle.std.specs.Prelude.{ℕ, ◌+◌, ℤ, pos, negsuc, List, [], ◌∷◌, ◌++◌, length, map, codes, if◌then◌else◌, Option, Some, None}
use Rattle.std.specs.List.{flat_map, range_with_len}
use Rattle.std.specs.Ordering.{int_eq}
use Rattle.kbytes.specs.Field.{Field, Int8, Int16, Int32, Int64, String, NullableString, Records, Array, fields}
use Rattle.kwire.specs.declared.api.Api.{Api}
use Rattle.kwire.specs.declared.api.Api.TheVariants.{Produce as ProduceApi, Fetch as FetchApi, Metadata as MetadataApi, Versions as VersionsApi}
use Rattle.kwire.specs.Apis.{key_of_api, versions_of_api, has_log_start}
use Rattle.kwire.specs.IsRequest.{only_field}
use Rattle.kwire.specs.Frames.{framed}
use Rattle.kwire.specs.declared.reply.Reply.{Reply}
use Rattle.kwire.specs.declared.reply.Told.{Told}
use Rattle.kwire.specs.declared.reply.Told.TheVariants.{Produced, Fetched, Metadata, Versions}
use Rattle.kwire.specs.declared.reply.ProducedPart.{ProducedPart}
use Rattle.kwire.specs.declared.reply.ProducedTopic.{ProducedTopic}
use Rattle.kwire.specs.declared.reply.FetchedPart.{FetchedPart}
use Rattle.kwire.specs.declared.reply.FetchedTopic.{FetchedTopic}
use Rattle.kwire.specs.declared.reply.TopicInfo.{TopicInfo}

-- after the base offset comes the append time, which is always -1, and then where the log starts
abbrev pub produced_part_fields : ℤ → ProducedPart → List Field
produced_part_fields version part =
    Int32 part.index ∷ Int16 part.code ∷ Int64 part.base ∷ Int64 (negsuc 0) ∷ only_field (has_log_start version) (Int64 part.start) []

abbrev pub produced_topic_fields : ℤ → ProducedTopic → List Field
produced_topic_fields version topic =
    String topic.name ∷ Array (Some (length topic.parts)) ∷ flat_map (produced_part_fields version) topic.parts

-- the aborted transactions: null for the isolation level 0, none for 1
abbrev pub aborted : ℤ → Option ℕ
aborted isolation = if int_eq isolation (pos 0) then None else Some 0

-- the last stable offset is the high watermark; after it comes where the log starts
abbrev pub fetched_part_fields : ℤ → ℤ → FetchedPart → List Field
fetched_part_fields version isolation part =
    Int32 part.index ∷ Int16 part.code ∷ Int64 part.high ∷ Int64 part.high
    ∷ only_field (has_log_start version) (Int64 part.start) (Array (aborted isolation) ∷ Records (Some part.records) ∷ [])

abbrev pub fetched_topic_fields : ℤ → ℤ → FetchedTopic → List Field
fetched_topic_fields version isolation topic =
    String topic.name ∷ Array (Some (length topic.parts)) ∷ flat_map (fetched_part_fields version isolation) topic.parts

-- the replicas 0 to so many followers, all of them in sync
abbrev pub replica_fields : ℕ → List Field
replica_fields followers = Array (Some (followers + 1)) ∷ map (λ replica. Int32 (pos replica)) (range_with_len 0 (followers + 1))

abbrev pub partition_fields : ℕ → ℕ → List Field
partition_fields followers index =
    Int16 (pos 0) ∷ Int32 (pos index) ∷ Int32 (pos 0) ∷ replica_fields followers ++ replica_fields followers

abbrev pub topic_info_fields : TopicInfo → List Field
topic_info_fields topic =
    Int16 topic.code ∷ String topic.name ∷ Int8 (pos 0) ∷ Array (Some topic.partitions) ∷ flat_map (partition_fields topic.followers) (range_with_len 0 topic.partitions)

-- this broker: node 0, without a rack
abbrev pub broker_fields : ℕ → List Field
broker_fields port = Int32 (pos 0) ∷ String (codes "localhost") ∷ Int32 (pos port) ∷ NullableString None ∷ []

-- an api, and its least and greatest version
abbrev pub api_fields : Api → List Field
api_fields api = Int16 (key_of_api api) ∷ Int16 (versions_of_api api).least ∷ Int16 (versions_of_api api).greatest ∷ []

abbrev pub all_apis : List Api
all_apis = ProduceApi ∷ FetchApi ∷ MetadataApi ∷ VersionsApi ∷ []

-- no reply is throttled
abbrev pub told_fields : Told → List Field
told_fields (Produced version topics) = Array (Some (length topics)) ∷ flat_map (produced_topic_fields version) topics ++ Int32 (pos 0) ∷ []
told_fields (Fetched version isolation topics) =
    Int32 (pos 0) ∷ Array (Some (length topics)) ∷ flat_map (fetched_topic_fields version isolation) topics
told_fields (Metadata port topics) =
    Array (Some 1) ∷ broker_fields port ++ Int32 (pos 0) ∷ Array (Some (length topics)) ∷ flat_map topic_info_fields topics
told_fields (Versions code) =
    Int16 code ∷ Array (Some (length all_apis)) ∷ flat_map api_fields all_apis

-- the bytes of a reply's frame
abbrev pub spelling : Reply → List ℕ
spelling reply = framed (fields (Int32 reply.correlation ∷ told_fields reply.told))
