-- What is told of the named partitions, from what became of each and what was read of it.
use Rattle.std.specs.Prelude.{ℕ, ◌+◌, ℤ, pos, negsuc, Some, List, [], ◌∷◌, length, take, drop, nat_lt, if◌then◌else◌}
use Rattle.std.specs.List.{flat_map}
use Rattle.std.specs.Ordering.{int_eq}
use Rattle.kbytes.specs.Field.{Field, String, Array}
use Rattle.kwire.specs.declared.codes.TheConstants.{NONE, REQUEST_TIMED_OUT, NOT_ENOUGH_REPLICAS_AFTER_APPEND}
use Rattle.kwire.specs.Configuration.{Configuration, min_insync_at}
use Rattle.partlog.specs.declared.numbers.Numbers.{Numbers}
use Rattle.kwire.specs.declared.request.ProducePart.{ProducePart}
use Rattle.kwire.specs.declared.request.ProduceTopic.{ProduceTopic}
use Rattle.kwire.specs.declared.request.FetchPart.{FetchPart}
use Rattle.kwire.specs.declared.request.FetchTopic.{FetchTopic}
use Rattle.kwire.specs.declared.reply.ProducedPart.{ProducedPart}
use Rattle.kwire.specs.declared.reply.ProducedTopic.{ProducedTopic}
use Rattle.kwire.specs.declared.reply.FetchedPart.{FetchedPart}
use Rattle.kwire.specs.declared.reply.FetchedTopic.{FetchedTopic}
use Rattle.kanswer.specs.declared.accepted.Accepted.{Accepted}
use Rattle.kanswer.specs.declared.accepted.Accepted.TheVariants.{Refused, Appended, Seen}
use Rattle.kanswer.specs.declared.accepted.Reading.{Reading}
use Rattle.kanswer.specs.declared.accepted.TheConstants.{LOG_START}

-- with acks -1 a batch that every replica in sync has, or else the time ran out; and as many of these as the topic asks for at least
abbrev pub code_at : ℤ → ℕ → ℕ → Numbers → ℤ
code_at acks least after numbers =
    if int_eq acks (negsuc 0) then (if nat_lt numbers.high after then REQUEST_TIMED_OUT
    else (if nat_lt numbers.insync least then NOT_ENOUGH_REPLICAS_AFTER_APPEND else NONE))
    else NONE

abbrev pub produced_part : Configuration → ℤ → ProducePart → Accepted → Reading → ProducedPart
produced_part config acks asked (Refused code) reading =
    record { index = asked.index; code = code; base = negsuc 0; start = negsuc 0 }
produced_part config acks asked (Appended part base count) reading = record {
  index = asked.index;
  code = code_at acks (min_insync_at config.topics part) (base + count) reading.numbers;
  base = pos base;
  start = LOG_START;
}
produced_part config acks asked (Seen part start) reading =
    record { index = asked.index; code = NONE; base = negsuc 0; start = negsuc 0 }

abbrev pub fetched_part : FetchPart → Accepted → Reading → FetchedPart
fetched_part asked (Refused code) reading =
    record { index = asked.index; code = code; high = negsuc 0; start = negsuc 0; records = [] }
fetched_part asked (Appended part base count) reading =
    record { index = asked.index; code = NONE; high = negsuc 0; start = negsuc 0; records = [] }
fetched_part asked (Seen part start) reading =
    record { index = asked.index; code = NONE; high = pos reading.numbers.high; start = LOG_START; records = reading.records }

-- one partition after the other
abbrev pub parts_by : {A B : Type 0} → (A → Accepted → Reading → B) → List A → List Accepted → List Reading → List B
parts_by f [] results readings = []
parts_by f (asked ∷ parts) [] readings = []
parts_by f (asked ∷ parts) (result ∷ results) [] = []
parts_by f (asked ∷ parts) (result ∷ results) (reading ∷ readings) = f asked result reading ∷ parts_by f parts results readings

-- one topic after the other, each with its own of the flat lists
abbrev pub topics_by : {A B : Type 0} → (A → ℕ) → (A → List Accepted → List Reading → B) → List A → List Accepted → List Reading → List B
topics_by size f [] results readings = []
topics_by size f (topic ∷ topics) results readings =
    f topic (take (size topic) results) (take (size topic) readings)
    ∷ topics_by size f topics (drop (size topic) results) (drop (size topic) readings)

abbrev pub produced_topic : Configuration → ℤ → ProduceTopic → List Accepted → List Reading → ProducedTopic
produced_topic config acks topic results readings =
    record { name = topic.name; parts = parts_by (produced_part config acks) topic.parts results readings }

abbrev pub fetched_topic : FetchTopic → List Accepted → List Reading → FetchedTopic
fetched_topic topic results readings = record { name = topic.name; parts = parts_by fetched_part topic.parts results readings }

abbrev pub produced_of : Configuration → ℤ → List ProduceTopic → List Accepted → List Reading → List ProducedTopic
produced_of config acks topics results readings =
    topics_by (λ topic. length topic.parts) (produced_topic config acks) topics results readings

abbrev pub fetched_of : List FetchTopic → List Accepted → List Reading → List FetchedTopic
fetched_of topics results readings = topics_by (λ topic. length topic.parts) fetched_topic topics results readings

-- the fields of one topic: its name, the count, and those of what is told of its partitions
abbrev pub topic_fields : {A P B : Type 0} → (A → List ℕ) → (A → List P) → (P → Accepted → Reading → B) → (B → List Field) → A → List Accepted → List Reading → List Field
topic_fields name parts tells kind topic results readings =
    let told = parts_by tells (parts topic) results readings in
    String (name topic) ∷ Array (Some (length told)) ∷ flat_map kind told

abbrev pub topics_fields : {A P B : Type 0} → (A → List ℕ) → (A → List P) → (P → Accepted → Reading → B) → (B → List Field) → List A → List Accepted → List Reading → List Field
topics_fields name parts tells kind topics results readings =
    flat_map (λ fields. fields) (topics_by (λ topic. length (parts topic)) (topic_fields name parts tells kind) topics results readings)
