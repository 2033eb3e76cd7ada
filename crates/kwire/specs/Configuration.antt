-- The configuration: the port that metadata tells, and the topics in the order in which they were declared. Partitions are
-- numbered from 0 over all topics.
use Rattle.std.specs.Prelude.{ℕ, ◌+◌, ◌<◌, ◌≤◌, ◌≢◌, ℤ, pos, negsuc, Bool, ◌&&◌, ◌||◌, List, [], ◌∷◌, length, map, sum_by, replicate, codes, nat_lt, nat_le, ◌==◌, if◌then◌else◌, Option, Some, None, unwrap_or, Contains, IsTrue}
use Rattle.std.specs.Bool.{nat_eq}
use Rattle.std.specs.Cmp.Lexicographic.{pointwise}
use Rattle.std.specs.List.{flat_map, list_all, slice_get}
use Rattle.kwire.specs.declared.config.Topic.{Topic}
use Rattle.kwire.specs.declared.config.TheConstants.{MOST_NAME_BYTES, MOST_PARTITIONS, MOST_FOLLOWERS}

pub record Configuration : Type 0 where
  pub port : ℕ
  pub topics : List Topic

-- a letter, a digit, `.`, `_` or `-`
abbrev pub is_name_byte : ℕ → Bool
is_name_byte c =
    (nat_le 97 c && nat_le c 122) || (nat_le 65 c && nat_le c 90) || (nat_le 48 c && nat_le c 57) || c == 46 || c == 95 || c == 45

-- 1 to 249 such bytes, and neither `.` nor `..`
pub record IsTopicName (name : List ℕ) : Type 0 where
  pub some : 0 < length name
  pub short : length name ≤ MOST_NAME_BYTES
  pub bytes : IsTrue (list_all is_name_byte name)
  pub no_dot : name ≢ codes "."
  pub no_dots : name ≢ codes ".."

abbrev pub names_of : List Topic → List (List ℕ)
names_of topics = map (λ topic. topic.name) topics

abbrev pub partitions_of : List Topic → ℕ
partitions_of topics = sum_by (λ topic. topic.partitions) topics

-- the number of a partition, counted over all topics, where there is one
abbrev pub part_from : ℕ → List Topic → List ℕ → ℤ → Option ℕ
part_from before [] name index = None
part_from before (topic ∷ topics) name (negsuc n) = None
part_from before (topic ∷ topics) name (pos n) =
    if pointwise nat_eq topic.name name then (if nat_lt n topic.partitions then Some (before + n) else None)
    else part_from (before + topic.partitions) topics name (pos n)

abbrev pub part_of : Configuration → List ℕ → ℤ → Option ℕ
part_of config name index = part_from 0 config.topics name index

-- the number of followers of each partition, in order
abbrev pub followers_of : List Topic → List ℕ
followers_of topics = flat_map (λ topic. replicate topic.partitions topic.followers) topics

-- the least number of in-sync replicas of each partition, in order
abbrev pub min_insyncs_of : List Topic → List ℕ
min_insyncs_of topics = flat_map (λ topic. replicate topic.partitions topic.min_insync) topics

-- that of the partition with this number, or 0 where there is none
abbrev pub min_insync_at : List Topic → ℕ → ℕ
min_insync_at topics part = unwrap_or (slice_get (min_insyncs_of topics) part) 0

-- what may be declared beside these topics; `least` is the least number of in-sync replicas, the leader counted
pub record IsNewTopic (topics : List Topic) (called : List ℕ) (partitions followers least : ℕ) : Type 0 where
  pub named : IsTopicName called
  pub once : ¬ Contains (names_of topics) called
  pub some : 0 < partitions
  pub few : partitions_of topics + partitions ≤ MOST_PARTITIONS
  pub replicas : followers ≤ MOST_FOLLOWERS
  pub in_sync : 0 < least
  pub enough : least ≤ followers + 1
