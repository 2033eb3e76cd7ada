-- The text of one line of a trace, without its line feed. A line's words are what stands between its spaces, so that two
-- words are separated by exactly one space and no word is empty. Numbers are decimal digits without sign or leading zeros.
use Rattle.std.specs.Prelude.{ℕ, ◌≡◌, ◌<◌, ◌≤◌, ◌==◌, ◌⊎◌, List, [], ◌∷◌, length, codes, Ok}
use Rattle.std.specs.Fmt.{decimal}
use Rattle.std.specs.List.{slice_split}
use Rattle.hex.specs.Hex.{decode_of}
use Rattle.trace_file.specs.declared.line.Line.{Line}
use Rattle.trace_file.specs.declared.line.Line.TheVariants.{Topic, Feed, Shut, Clock, End}
use Rattle.trace_file.specs.declared.line.TheConstants.{LAST_MOMENT, MOST_NUMBER, MOST_SESSIONS}

abbrev pub words_of : List ℕ → List (List ℕ)
words_of piece = slice_split (λ byte. byte == 32) piece

-- the words that spell the least number of in-sync replicas of a topic: none where it is 1, or the number
abbrev pub AreLeast : List (List ℕ) → ℕ → Type 0
AreLeast words least = ((words ≡ []) × (least ≡ 1)) ⊎ (words ≡ decimal least ∷ [])

-- `topic NAME PARTITIONS FOLLOWERS` or `topic NAME PARTITIONS FOLLOWERS MIN`. Whether the topic may be declared is no matter of
-- its line.
pub record IsTopicLine (words : List (List ℕ)) (name : List ℕ) (partitions followers least : ℕ) : Type 0 where
  pub last : List (List ℕ)
  pub spelled : words ≡ codes "topic" ∷ name ∷ decimal partitions ∷ decimal followers ∷ last
  pub named : 0 < length name
  pub partitions_fit : partitions ≤ MOST_NUMBER
  pub followers_fit : followers ≤ MOST_NUMBER
  pub least_is : AreLeast last least
  pub least_fits : least ≤ MOST_NUMBER

-- `bytes S HEX`, with digits of either case
pub record IsFeedLine (words : List (List ℕ)) (session : ℕ) (bytes : List ℕ) : Type 0 where
  pub hex : List ℕ
  pub spelled : words ≡ codes "bytes" ∷ decimal session ∷ hex ∷ []
  pub digits : decode_of hex ≡ Ok bytes
  pub some : 0 < length bytes
  pub in_range : session < MOST_SESSIONS

-- `close S`
pub record IsShutLine (words : List (List ℕ)) (session : ℕ) : Type 0 where
  pub spelled : words ≡ codes "close" ∷ decimal session ∷ []
  pub in_range : session < MOST_SESSIONS

-- `clock T`
pub record IsClockLine (words : List (List ℕ)) (t : ℕ) : Type 0 where
  pub spelled : words ≡ codes "clock" ∷ decimal t ∷ []
  pub in_range : t ≤ LAST_MOMENT

-- the words that spell a line
abbrev pub AreWordsOf : List (List ℕ) → Line → Type 0
AreWordsOf words (Topic name partitions followers least) = IsTopicLine words name partitions followers least
AreWordsOf words (Feed session bytes) = IsFeedLine words session bytes
AreWordsOf words (Shut session) = IsShutLine words session
AreWordsOf words (Clock t) = IsClockLine words t
AreWordsOf words End = words ≡ codes "end" ∷ []

abbrev pub IsLine : List ℕ → Line → Type 0
IsLine piece line = AreWordsOf (words_of piece) line
