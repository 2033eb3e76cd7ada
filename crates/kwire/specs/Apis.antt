-- The apis: the key of each, the versions that are read whole, and the layout of its requests in each of them (Kafka protocol
-- guide: Produce v3 to v5, Fetch v4 and v5, Metadata v1, ApiVersions v0).
use Rattle.std.specs.Prelude.{◌&&◌, ℤ, pos, Bool, true, false, List, [], ◌∷◌, int_le}
use Rattle.kwire.specs.declared.api.TheConstants.{LOG_START_VERSION}
use Rattle.kwire.specs.declared.api.Api.{Api}
use Rattle.kwire.specs.declared.api.Api.TheVariants.{Produce, Fetch, Metadata, Versions}
use Rattle.kwire.specs.declared.api.VersionRange.{VersionRange}
use Rattle.kwire.specs.Layouts.{Kind, INT8_OF, INT16, INT32, INT64, STRING, NULLABLE_STRING, RECORDS, ARRAY, NULLABLE_ARRAY, Topics, Partitions, Layout, End, ◌⨾◌, Many}

abbrev pub key_of_api : Api → ℤ
key_of_api Produce = pos 0
key_of_api Fetch = pos 1
key_of_api Metadata = pos 3
key_of_api Versions = pos 18

abbrev pub versions_of_api : Api → VersionRange
versions_of_api Produce = record { least = pos 3; greatest = pos 5 }
versions_of_api Fetch = record { least = pos 4; greatest = pos 5 }
versions_of_api Metadata = record { least = pos 1; greatest = pos 1 }
versions_of_api Versions = record { least = pos 0; greatest = pos 0 }

-- the api is read whole in this version
abbrev pub is_read_in : Api → ℤ → Bool
is_read_in api version = int_le (versions_of_api api).least version && int_le version (versions_of_api api).greatest

-- the version tells where a log starts
abbrev pub has_log_start : ℤ → Bool
has_log_start version = int_le LOG_START_VERSION version

-- a field that stands there only in some versions, and what follows it
abbrev pub only : Bool → Kind → Layout → Layout
only true kind next = kind ⨾ next
only false kind next = next

-- the partition's index, and the batch
abbrev pub produce_part_layout : Layout
produce_part_layout = INT32 ⨾ RECORDS ⨾ End

-- the topic's name, and its partitions
abbrev pub produce_topic_layout : Layout
produce_topic_layout = STRING ⨾ Many ARRAY Partitions produce_part_layout End

-- the partition's index, the offset, where the asker's log starts, and the most bytes
abbrev pub fetch_part_layout : ℤ → Layout
fetch_part_layout version = INT32 ⨾ INT64 ⨾ only (has_log_start version) INT64 (INT32 ⨾ End)

abbrev pub fetch_topic_layout : ℤ → Layout
fetch_topic_layout version = STRING ⨾ Many ARRAY Partitions (fetch_part_layout version) End

-- 0 reads what isn't committed too, and 1 reads what is
abbrev pub isolation_levels : List ℤ
isolation_levels = pos 0 ∷ pos 1 ∷ []

abbrev pub name_layout : Layout
name_layout = STRING ⨾ End

-- what stands after the client's id: of a produce the transactional id, acks, the timeout and the topics; of a fetch the replica,
-- the longest wait, the least and the most bytes, the isolation level and the topics; of metadata the topics' names, null for all
abbrev pub ask_layout : Api → ℤ → Layout
ask_layout Produce version = NULLABLE_STRING ⨾ INT16 ⨾ INT32 ⨾ Many ARRAY Topics produce_topic_layout End
ask_layout Fetch version =
    INT32 ⨾ INT32 ⨾ INT32 ⨾ INT32 ⨾ INT8_OF isolation_levels ⨾ Many ARRAY Topics (fetch_topic_layout version) End
ask_layout Metadata version = Many NULLABLE_ARRAY Topics name_layout End
ask_layout Versions version = End

-- the api's key, the version, and the correlation id
abbrev pub head_layout : Layout
head_layout = INT16 ⨾ INT16 ⨾ INT32 ⨾ End

-- the header, the client's id, and what is asked
abbrev pub request_layout : Api → ℤ → Layout
request_layout api version = INT16 ⨾ INT16 ⨾ INT32 ⨾ NULLABLE_STRING ⨾ ask_layout api version
