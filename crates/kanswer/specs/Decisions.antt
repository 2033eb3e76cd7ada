-- Accepting a request: what becomes of each named partition, from the state that is found, and the entry that it leaves.
use Rattle.std.specs.Prelude.{ℕ, ◌+◌, ◌≡◌, ◌⊎◌, ℤ, pos, negsuc, int_le, Bool, ◌&&◌, ◌||◌, List, [], length, map, nat_lt, nat_le, if◌then◌else◌, Option, Some, None, unwrap_or, MatchOption, MatchBool, slice_index}
use Rattle.std.specs.List.{flat_map, AllZip}
use Rattle.std.specs.Ordering.{int_eq}
use Rattle.partlog.specs.declared.part_log.TheConstants.{MOST_LOG_BYTES}
use Rattle.partlog.specs.State.{PartState as State}
use Rattle.partlog.specs.Gauges.{gauges_of}
use Rattle.partlog.specs.Start.{start_of}
use Rattle.kbatch.specs.declared.fault.BatchFault.{BatchFault}
use Rattle.kbatch.specs.declared.fault.BatchFault.TheVariants.{TooLarge, Short, Length, Magic, Crc, Compressed, Control, Count, Records, NoMemory}
use Rattle.kbatch.specs.declared.record.Record.{Record}
use Rattle.kbatch.specs.Batch.{IsBatch}
use Rattle.kbatch.specs.Fault.{IsFirstFault}
use Rattle.kwire.specs.declared.codes.TheConstants.{NONE, OFFSET_OUT_OF_RANGE, CORRUPT_MESSAGE, UNKNOWN_TOPIC_OR_PARTITION, NOT_LEADER_OR_FOLLOWER, KAFKA_STORAGE_ERROR, REPLICA_NOT_AVAILABLE, MESSAGE_TOO_LARGE, NOT_ENOUGH_REPLICAS, INVALID_REQUIRED_ACKS, INVALID_REQUEST, UNSUPPORTED_COMPRESSION_TYPE, INVALID_RECORD}
use Rattle.kwire.specs.Configuration.{Configuration, followers_of, min_insync_at, part_of}
use Rattle.kwire.specs.declared.request.Ask.{Ask}
use Rattle.kwire.specs.declared.request.Ask.TheVariants.{Produce, Fetch, Metadata, Versions}
use Rattle.kwire.specs.declared.request.ProducePart.{ProducePart}
use Rattle.kwire.specs.declared.request.ProduceTopic.{ProduceTopic}
use Rattle.kwire.specs.declared.request.FetchPart.{FetchPart}
use Rattle.kwire.specs.declared.request.FetchTopic.{FetchTopic}
use Rattle.kanswer.specs.declared.terms.TheConstants.{STORAGE_ERROR_VERSION}
use Rattle.kanswer.specs.declared.accepted.Accepted.{Accepted}
use Rattle.kanswer.specs.declared.accepted.Accepted.TheVariants.{Refused, Appended, Seen}

-- the entry that is left in a partition's history: a batch of so many records as it was sent, a follower's fetch in range, or a look
pub data Entry : Type 0 where
  Put : ℕ → List ℕ → Entry
  Followed : ℤ → ℕ → Entry
  Looked : Entry

pub record Outcome : Type 0 where
  pub result : Accepted
  pub entry : Entry

-- A named partition is refused before its log is asked, or its log is asked, and the outcome comes from the state that is found.
pub data Decision : Type 0 where
  Refuse : ℤ → Decision
  AskLog : ℕ → (State → Outcome) → Decision

-- the error codes of the protocol
abbrev pub code_of : BatchFault → ℤ
code_of (TooLarge len) = MESSAGE_TOO_LARGE
code_of Short = INVALID_RECORD
code_of (Length kept) = INVALID_RECORD
code_of (Magic found) = INVALID_RECORD
code_of (Crc kept found) = CORRUPT_MESSAGE
code_of (Compressed codec) = UNSUPPORTED_COMPRESSION_TYPE
code_of Control = INVALID_RECORD
code_of (Count count last) = INVALID_RECORD
code_of (Records at) = INVALID_RECORD
code_of NoMemory = NONE

abbrev pub look : Accepted → Outcome
look result = record { result = result; entry = Looked }

-- a full log, in this version of a produce
abbrev pub full_code : ℤ → ℤ
full_code version = if int_le STORAGE_ERROR_VERSION version then KAFKA_STORAGE_ERROR else NOT_LEADER_OR_FOLLOWER

-- With acks -1 at least the topic's least number of replicas have to be in sync, the leader counted.
abbrev pub needed_insync : ℤ → ℕ → ℕ
needed_insync acks least = if int_eq acks (negsuc 0) then least else 0

-- of the partition with this number
abbrev pub least_insync : Configuration → ℤ → ℕ → ℕ
least_insync config acks part = needed_insync acks (min_insync_at config.topics part)

-- a batch is put at the end, where at least so many replicas are in sync and the log can keep it
abbrev pub append_outcome : ℤ → ℕ → ℕ → ℕ → List ℕ → State → Outcome
append_outcome version least part count batch state =
    if nat_lt state.insync least then look (Refused NOT_ENOUGH_REPLICAS)
    else (if nat_lt MOST_LOG_BYTES ((gauges_of state).bytes + length batch) then look (Refused (full_code version))
    else record { result = Appended part state.log_end count; entry = Put count batch })

abbrev pub is_acks : ℤ → Bool
is_acks acks = int_eq acks (negsuc 0) || int_eq acks (pos 0) || int_eq acks (pos 1)

abbrev pub BatchDecides : ℤ → ℕ → ℕ → List ℕ → Decision → Type 0
BatchDecides version least part bytes decision =
    ((fault : BatchFault) × IsFirstFault bytes fault × (decision ≡ Refuse (code_of fault)))
    ⊎ ((records : List Record) × IsBatch bytes records × (decision ≡ AskLog part (append_outcome version least part (length records) bytes)))

-- The first cause that applies decides: a transactional id, no such partition, unknown acks, a fault of the batch; and once the
-- log is asked, too few replicas in sync, a full log.
abbrev pub ProduceDecides : Configuration → ℤ → Option (List ℕ) → ℤ → List ℕ × ProducePart → Decision → Type 0
ProduceDecides config version (Some id) acks named decision = decision ≡ Refuse INVALID_REQUEST
ProduceDecides config version None acks named decision =
    MatchOption (part_of config named.0 named.1.index) (decision ≡ Refuse UNKNOWN_TOPIC_OR_PARTITION) (λ part.
    MatchBool (is_acks acks)
    (BatchDecides version (least_insync config acks part) part (unwrap_or named.1.records []) decision)
    (decision ≡ Refuse INVALID_REQUIRED_ACKS))

abbrev pub in_range_outcome : ℕ → ℤ → Entry → State → Outcome
in_range_outcome part (negsuc n) entry state = look (Refused OFFSET_OUT_OF_RANGE)
in_range_outcome part (pos offset) entry state =
    if nat_lt state.log_end offset then look (Refused OFFSET_OUT_OF_RANGE)
    else record { result = Seen part (start_of offset state); entry = entry }

abbrev pub offset_of : ℤ → ℕ
offset_of (pos n) = n
offset_of (negsuc n) = 0

-- a negative replica id is a consumer's, and the others are those of followers, from 1 on
abbrev pub fetch_outcome : ℕ → ℤ → FetchPart → ℕ → State → Outcome
fetch_outcome followers (negsuc n) asked part state = in_range_outcome part asked.offset Looked state
fetch_outcome followers (pos replica) asked part state =
    if nat_lt 0 replica && nat_le replica followers then in_range_outcome part asked.offset (Followed (pos replica) (offset_of asked.offset)) state
    else look (Refused REPLICA_NOT_AVAILABLE)

abbrev pub fetch_decision : Configuration → ℤ → List ℕ × FetchPart → Option ℕ → Decision
fetch_decision config replica named None = Refuse UNKNOWN_TOPIC_OR_PARTITION
fetch_decision config replica named (Some part) =
    AskLog part (fetch_outcome (slice_index (followers_of config.topics) part) replica named.1 part)

-- the named partitions with what is asked of them, in order over all topics
abbrev pub produce_parts : List ProduceTopic → List (List ℕ × ProducePart)
produce_parts topics = flat_map (λ topic. map (λ part. (topic.name, part)) topic.parts) topics

abbrev pub fetch_parts : List FetchTopic → List (List ℕ × FetchPart)
fetch_parts topics = flat_map (λ topic. map (λ part. (topic.name, part)) topic.parts) topics

-- what is decided of partitions of a fetch
abbrev pub fetch_decisions : Configuration → ℤ → List (List ℕ × FetchPart) → List Decision
fetch_decisions config replica named = map (λ one. fetch_decision config replica one (part_of config one.0 one.1.index)) named

-- one decision for each named partition
abbrev pub Decides : Configuration → Ask → List Decision → Type 0
Decides config (Produce version transactional acks timeout topics) decisions =
    AllZip (ProduceDecides config version transactional acks) (produce_parts topics) decisions
Decides config (Fetch version replica max_wait min_bytes max_bytes isolation topics) decisions =
    decisions ≡ fetch_decisions config replica (fetch_parts topics)
Decides config (Metadata topics) decisions = decisions ≡ []
Decides config (Versions version) decisions = decisions ≡ []
