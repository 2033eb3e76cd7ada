-- The reply to a request, in its version, from what became of each named partition and a state of it. The same function serves a request
-- that is answered at once, one that was satisfied and one that expired.
use Rattle.std.specs.Prelude.{ℕ, ◌+◌, ◌-◌, min, ℤ, pos, negsuc, Bool, true, false, ◌||◌, List, [], ◌∷◌, length, map, take, drop, filter, nat_lt, nat_le, if◌then◌else◌, Option, Some, None}
use Rattle.std.specs.List.{find, flat_map, slice_get}
use Rattle.std.specs.Cmp.Lexicographic.{pointwise}
use Rattle.std.specs.Ordering.{int_eq}
use Rattle.std.specs.Bool.{nat_eq}
use Rattle.partlog.specs.State.{PartState as State}
use Rattle.partlog.specs.Batches.{StoredBatch as Stored, next_offset}
use Rattle.partlog.specs.Taken.{batches_past, taken, joined}
use Rattle.kwire.specs.declared.codes.TheConstants.{NONE, UNKNOWN_TOPIC_OR_PARTITION, REQUEST_TIMED_OUT, NOT_ENOUGH_REPLICAS_AFTER_APPEND, UNSUPPORTED_VERSION}
use Rattle.kwire.specs.declared.config.Topic.{Topic}
use Rattle.kwire.specs.declared.request.Request.{Request}
use Rattle.kwire.specs.declared.request.Ask.{Ask}
use Rattle.kwire.specs.declared.request.Ask.TheVariants as ask
use Rattle.kwire.specs.declared.request.ProducePart.{ProducePart}
use Rattle.kwire.specs.declared.request.ProduceTopic.{ProduceTopic}
use Rattle.kwire.specs.declared.request.FetchPart.{FetchPart}
use Rattle.kwire.specs.declared.request.FetchTopic.{FetchTopic}
use Rattle.kwire.specs.declared.reply.Reply.{Reply}
use Rattle.kwire.specs.declared.reply.Told.{Told}
use Rattle.kwire.specs.declared.reply.Told.TheVariants as told
use Rattle.kwire.specs.declared.reply.ProducedPart.{ProducedPart}
use Rattle.kwire.specs.declared.reply.ProducedTopic.{ProducedTopic}
use Rattle.kwire.specs.declared.reply.FetchedPart.{FetchedPart}
use Rattle.kwire.specs.declared.reply.FetchedTopic.{FetchedTopic}
use Rattle.kwire.specs.declared.reply.TopicInfo.{TopicInfo}
use Rattle.kanswer.specs.declared.accepted.TheConstants.{LOG_START}
use Rattle.kanswer.specs.declared.accepted.Accepted.{Accepted}
use Rattle.kanswer.specs.declared.accepted.Accepted.TheVariants.{Refused, Appended, Seen}
use Rattle.kanswer.specs.declared.accepted.Budget.{Budget}
use Rattle.kwire.specs.Configuration.{Configuration, min_insync_at}
use Rattle.kanswer.specs.Waiting.{Shown, at_least_zero, reply_limit, is_consumer}

-- With acks -1 every replica in sync has to have the batch; else the time has run out, which is code 7. And as many have to be in
-- sync as the topic asks for at least; else it is code 20.
abbrev pub produced_code : ℤ → ℕ → ℕ → State → ℤ
produced_code acks least after state =
    if int_eq acks (negsuc 0) then (if nat_lt state.high after then REQUEST_TIMED_OUT
    else (if nat_lt state.insync least then NOT_ENOUGH_REPLICAS_AFTER_APPEND else NONE))
    else NONE

-- a refused partition has the base offset -1 and the log start -1
abbrev pub produced_as : Configuration → ℤ → ℤ → Accepted → State → ProducedPart
produced_as config acks index (Refused code) state = record { index = index; code = code; base = negsuc 0; start = negsuc 0 }
produced_as config acks index (Appended part base count) state = record {
  index = index;
  code = produced_code acks (min_insync_at config.topics part) (base + count) state;
  base = pos base;
  start = LOG_START;
}
produced_as config acks index (Seen part start) state = record { index = index; code = NONE; base = negsuc 0; start = negsuc 0 }

abbrev pub produced_parts : Configuration → ℤ → List ProducePart → List Shown → List ProducedPart
produced_parts config acks [] shown = []
produced_parts config acks (asked ∷ parts) [] = []
produced_parts config acks (asked ∷ parts) (s ∷ shown) =
    produced_as config acks asked.index s.result s.state ∷ produced_parts config acks parts shown

-- what was shown stands in order over all topics
abbrev pub produced_topics : Configuration → ℤ → List ProduceTopic → List Shown → List ProducedTopic
produced_topics config acks [] shown = []
produced_topics config acks (topic ∷ topics) shown =
    record { name = topic.name; parts = produced_parts config acks topic.parts (take (length topic.parts) shown) }
    ∷ produced_topics config acks topics (drop (length topic.parts) shown)

-- a consumer reads below the high watermark, a follower to the log's end
abbrev pub is_readable : ℤ → State → Stored → Bool
is_readable replica state batch = if is_consumer replica then nat_le (next_offset batch) state.high else true

-- the batches of one partition, within what is left to the reply
abbrev pub read_of : ℤ → FetchPart → ℕ → State → Budget → List Stored
read_of replica asked start state budget =
    taken (min (at_least_zero asked.most) budget.left) budget.any (filter (is_readable replica state) (batches_past start state.batches))

-- what a fetch asks of the partitions that it names, in order over all topics
abbrev pub asked_parts : List FetchTopic → List FetchPart
asked_parts topics = flat_map (λ topic. topic.parts) topics

abbrev pub read_if : ℤ → Option FetchPart → ℕ → State → Budget → List Stored
read_if replica None start state budget = []
read_if replica (Some asked) start state budget = read_of replica asked start state budget

-- those of the partition that a request names at this place, counted from 0 over all topics; only a fetch reads any
abbrev pub read_at : Ask → ℕ → ℕ → State → Budget → List Stored
read_at (ask.Produce version transactional acks timeout topics) at start state budget = []
read_at (ask.Fetch version replica max_wait min_bytes max_bytes isolation topics) at start state budget =
    read_if replica (slice_get (asked_parts topics) at) start state budget
read_at (ask.Metadata topics) at start state budget = []
read_at (ask.Versions version) at start state budget = []

-- what is left to the reply after them
abbrev pub budget_after : List Stored → Budget → Budget
budget_after batches budget =
    record { left = budget.left - length (joined batches); any = budget.any || nat_lt 0 (length batches) }

abbrev pub batches_as : ℤ → FetchPart → Accepted → State → Budget → List Stored
batches_as replica asked (Refused code) state budget = []
batches_as replica asked (Appended part base count) state budget = []
batches_as replica asked (Seen part start) state budget = read_of replica asked start state budget

-- a partition with an error has the high watermark -1 and the log start -1
abbrev pub fetched_as : FetchPart → Accepted → State → List Stored → FetchedPart
fetched_as asked (Refused code) state batches =
    record { index = asked.index; code = code; high = negsuc 0; start = negsuc 0; records = [] }
fetched_as asked (Appended part base count) state batches =
    record { index = asked.index; code = NONE; high = negsuc 0; start = negsuc 0; records = [] }
fetched_as asked (Seen part start) state batches =
    record { index = asked.index; code = NONE; high = pos state.high; start = LOG_START; records = joined batches }

abbrev pub fetched_parts : ℤ → List FetchPart → List Shown → Budget → List FetchedPart
fetched_parts replica [] shown budget = []
fetched_parts replica (asked ∷ parts) [] budget = []
fetched_parts replica (asked ∷ parts) (s ∷ shown) budget =
    let batches = batches_as replica asked s.result s.state budget in
    fetched_as asked s.result s.state batches ∷ fetched_parts replica parts shown (budget_after batches budget)

-- what is left to the reply after these partitions
abbrev pub budget_behind : ℤ → List FetchPart → List Shown → Budget → Budget
budget_behind replica [] shown budget = budget
budget_behind replica (asked ∷ parts) [] budget = budget
budget_behind replica (asked ∷ parts) (s ∷ shown) budget =
    budget_behind replica parts shown (budget_after (batches_as replica asked s.result s.state budget) budget)

abbrev pub fetched_topics : ℤ → List FetchTopic → List Shown → Budget → List FetchedTopic
fetched_topics replica [] shown budget = []
fetched_topics replica (topic ∷ topics) shown budget =
    let here = take (length topic.parts) shown in
    record { name = topic.name; parts = fetched_parts replica topic.parts here budget }
    ∷ fetched_topics replica topics (drop (length topic.parts) shown) (budget_behind replica topic.parts here budget)

abbrev pub first_budget : ℤ → Budget
first_budget max_bytes = record { left = reply_limit max_bytes; any = false }

-- an unknown topic has the code 3 and no partitions
abbrev pub info_as : List ℕ → Option Topic → TopicInfo
info_as name None = record { code = UNKNOWN_TOPIC_OR_PARTITION; name = name; partitions = 0; followers = 0 }
info_as name (Some topic) = record { code = NONE; name = topic.name; partitions = topic.partitions; followers = topic.followers }

abbrev pub info_of : List Topic → List ℕ → TopicInfo
info_of topics name = info_as name (find (λ topic. pointwise nat_eq topic.name name) topics)

abbrev pub infos_of : List Topic → Option (List (List ℕ)) → List TopicInfo
infos_of topics None = map (λ topic. info_as topic.name (Some topic)) topics
infos_of topics (Some names) = map (info_of topics) names

abbrev pub told_to : Configuration → Ask → List Shown → Told
told_to config (ask.Produce version transactional acks timeout topics) shown = told.Produced version (produced_topics config acks topics shown)
told_to config (ask.Fetch version replica max_wait min_bytes max_bytes isolation topics) shown =
    told.Fetched version isolation (fetched_topics replica topics shown (first_budget max_bytes))
told_to config (ask.Metadata topics) shown = told.Metadata config.port (infos_of config.topics topics)
told_to config (ask.Versions version) shown = told.Versions (if int_eq version (pos 0) then NONE else UNSUPPORTED_VERSION)

abbrev pub answer : Configuration → Request → List Shown → Reply
answer config request shown = record { correlation = request.correlation; told = told_to config request.ask shown }
