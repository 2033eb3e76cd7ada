-- What the lines of a trace say: the topics, what each session receives, and the moments.
use Rattle.std.specs.Prelude.{ℕ, ◌+◌, max, Bool, false, List, [], ◌∷◌, nat_lt, ◌==◌, if◌then◌else◌}
use Rattle.std.specs.List.{flat_map, list_any}
use Rattle.trace_file.specs.declared.line.Line.{Line}
use Rattle.trace_file.specs.declared.line.Line.TheVariants.{Topic, Feed, Shut, Clock, End}
use Rattle.kwire.specs.declared.config.Topic as topics
use Rattle.kwire.specs.Configuration.{Configuration}

abbrev pub topic_in : Line → List topics.Topic
topic_in (Topic name partitions followers least) = record { name = name; partitions = partitions; followers = followers; min_insync = least } ∷ []
topic_in (Feed session bytes) = []
topic_in (Shut session) = []
topic_in (Clock t) = []
topic_in End = []

abbrev pub configuration_of : ℕ → List Line → Configuration
configuration_of port lines = record { port = port; topics = flat_map topic_in lines }

-- what a session received in a line, whether the line ends its input, and whether it names the session
abbrev pub bytes_in : ℕ → Line → List ℕ
bytes_in session (Topic name partitions followers least) = []
bytes_in session (Feed s bytes) = if s == session then bytes else []
bytes_in session (Shut s) = []
bytes_in session (Clock t) = []
bytes_in session End = []

abbrev pub shuts : ℕ → Line → Bool
shuts session (Topic name partitions followers least) = false
shuts session (Feed s bytes) = false
shuts session (Shut s) = s == session
shuts session (Clock t) = false
shuts session End = false

abbrev pub names : ℕ → Line → Bool
names session (Topic name partitions followers least) = false
names session (Feed s bytes) = s == session
names session (Shut s) = s == session
names session (Clock t) = false
names session End = false

-- all that a session received, and whether its input ended
abbrev pub input_of : ℕ → List Line → List ℕ
input_of session lines = flat_map (bytes_in session) lines

abbrev pub is_shut : ℕ → List Line → Bool
is_shut session lines = list_any (shuts session) lines

abbrev pub is_named : ℕ → List Line → Bool
is_named session lines = list_any (names session) lines

-- one more than the greatest session that is named, or 0
abbrev pub sessions_of : List Line → ℕ
sessions_of [] = 0
sessions_of (Topic name partitions followers least ∷ lines) = sessions_of lines
sessions_of (Feed session bytes ∷ lines) = max (session + 1) (sessions_of lines)
sessions_of (Shut session ∷ lines) = max (session + 1) (sessions_of lines)
sessions_of (Clock t ∷ lines) = sessions_of lines
sessions_of (End ∷ lines) = sessions_of lines

-- the moments of the clock lines that are above all before
abbrev pub rising_from : ℕ → List Line → List ℕ
rising_from moment [] = []
rising_from moment (Topic name partitions followers least ∷ lines) = rising_from moment lines
rising_from moment (Feed session bytes ∷ lines) = rising_from moment lines
rising_from moment (Shut session ∷ lines) = rising_from moment lines
rising_from moment (Clock t ∷ lines) = if nat_lt moment t then t ∷ rising_from t lines else rising_from moment lines
rising_from moment (End ∷ lines) = rising_from moment lines
