-- One line that is written: it ends with a line feed, and bytes are written in lower case hex.
use Rattle.std.specs.Prelude.{ℕ, ◌<◌, ◌≤◌, List, [], ◌∷◌, ◌++◌, length, codes, nat_lt, if◌then◌else◌}
use Rattle.std.specs.Fmt.{decimal}
use Rattle.hex.specs.Hex.{encode_lower, IsBytes}
use Rattle.trace_file.specs.declared.line.Line.{Line}
use Rattle.trace_file.specs.declared.line.Line.TheVariants.{Topic, Feed, Shut, Clock, End}
use Rattle.trace_file.specs.declared.line.TheConstants.{LAST_MOMENT, MOST_NUMBER, MOST_SESSIONS}
use Rattle.kwire.specs.Configuration.{IsTopicName}
use Rattle.kwire.specs.declared.reply.Reply.{Reply}
use Rattle.kwire.specs.Spelling.{spelling}

-- words separated by one space, and a line feed
abbrev pub line_of : List (List ℕ) → List ℕ
line_of [] = 10 ∷ []
line_of (word ∷ []) = word ++ 10 ∷ []
line_of (word ∷ next ∷ words) = word ++ 32 ∷ line_of (next ∷ words)

-- `reply S HEX`
abbrev pub reply_line : ℕ → Reply → List ℕ
reply_line session reply = line_of (codes "reply" ∷ decimal session ∷ encode_lower (spelling reply) ∷ [])

-- the words of a topic's least number of in-sync replicas, which is written where it is above 1
abbrev pub least_words : ℕ → List (List ℕ)
least_words least = if nat_lt 1 least then decimal least ∷ [] else []

-- a line of a trace
abbrev pub text_of : Line → List ℕ
text_of (Topic name partitions followers least) = line_of (codes "topic" ∷ name ∷ decimal partitions ∷ decimal followers ∷ least_words least)
text_of (Feed session bytes) = line_of (codes "bytes" ∷ decimal session ∷ encode_lower bytes ∷ [])
text_of (Shut session) = line_of (codes "close" ∷ decimal session ∷ [])
text_of (Clock t) = line_of (codes "clock" ∷ decimal t ∷ [])
text_of End = line_of (codes "end" ∷ [])

-- a line that a trace may have, so that its text is read back as that line
abbrev pub IsWritable : Line → Type 0
IsWritable (Topic name partitions followers least) = IsTopicName name × (partitions ≤ MOST_NUMBER) × (followers ≤ MOST_NUMBER) × (0 < least) × (least ≤ MOST_NUMBER)
IsWritable (Feed session bytes) = (session < MOST_SESSIONS) × (0 < length bytes) × IsBytes bytes
IsWritable (Shut session) = session < MOST_SESSIONS
IsWritable (Clock t) = t ≤ LAST_MOMENT
IsWritable End = Unit {0}
