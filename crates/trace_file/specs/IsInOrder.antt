-- The order of the lines of a trace.
use Rattle.std.specs.Prelude.{ℕ, ◌≡◌, ◌≢◌, ◌≤◌, List, [], ◌∷◌, ◌++◌, IsTrue}
use Rattle.std.specs.List.{flat_map, AllPairs}
use Rattle.trace_file.specs.declared.line.Line.{Line}
use Rattle.trace_file.specs.declared.line.Line.TheVariants.{Topic, Feed, Shut, Clock, End}
use Rattle.kwire.specs.Configuration.{IsNewTopic}
use Rattle.trace_file.specs.Contents.{topic_in, names}

abbrev pub IsTopic : Line → Type 0
IsTopic (Topic name partitions followers least) = Unit {0}
IsTopic (Feed session bytes) = ⊥
IsTopic (Shut session) = ⊥
IsTopic (Clock t) = ⊥
IsTopic End = ⊥

-- a topic, or the end
abbrev pub DeclaresOrEnds : Line → Type 0
DeclaresOrEnds (Topic name partitions followers least) = Unit {0}
DeclaresOrEnds (Feed session bytes) = ⊥
DeclaresOrEnds (Shut session) = ⊥
DeclaresOrEnds (Clock t) = ⊥
DeclaresOrEnds End = Unit {0}

-- what a line may be that stands somewhere after another
pub record MayFollow (earlier later : Line) : Type 0 where
  -- nothing stands after `end`
  pub end_last : earlier ≢ End
  -- topics come first
  pub topics_first : IsTopic later → IsTopic earlier
  -- the moment never falls
  pub no_fall : (t u : ℕ) → earlier ≡ Clock t → later ≡ Clock u → t ≤ u
  -- a session gets nothing and isn't closed again once it is closed
  pub closed_once : (session : ℕ) → earlier ≡ Shut session → IsTrue (names session later) → ⊥

-- each topic may be declared beside those before it
abbrev pub AreNewTopics : List Line → Type 0
AreNewTopics lines = (front back : List Line) (name : List ℕ) (partitions followers least : ℕ)
    → lines ≡ front ++ Topic name partitions followers least ∷ back → IsNewTopic (flat_map topic_in front) name partitions followers least

-- `end` stands last, and so once
pub record IsInOrder (lines : List Line) : Type 0 where
  pub pairs : AllPairs MayFollow lines
  pub topics : AreNewTopics lines
  pub before_end : List Line
  pub ended : lines ≡ before_end ++ End ∷ []
