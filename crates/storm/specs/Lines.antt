-- The lines of a load: its topic, one line for each request, the clock after each block, and the end.
use Rattle.std.specs.Prelude.{ℕ, ◌+◌, ◌*◌, ◌%◌, ◌-◌, Bool, ◌||◌, ◌==◌, if◌then◌else◌, List, [], ◌∷◌, ◌++◌, codes}
use Rattle.std.specs.List.{flat_map, range_with_len}
use Rattle.kbytes.specs.Field.{fields}
use Rattle.kwire.specs.Frames.{framed}
use Rattle.kwire.specs.IsRequest.{request_fields}
use Rattle.trace_file.specs.declared.line.Line.{Line}
use Rattle.trace_file.specs.declared.line.Line.TheVariants.{Topic, Feed, Clock, End}
use Rattle.storm.specs.declared.asking.TheConstants.{PARTITIONS}
use Rattle.storm.specs.declared.kind.TheConstants.{BLOCK}
use Rattle.storm.specs.declared.load.TheConstants.{BLOCK_TIME}
use Rattle.storm.specs.Generator.{state_after}
use Rattle.storm.specs.Places.{block_of, session_of, draws_before}
use Rattle.storm.specs.Requests.{ask_of, request_with}

abbrev pub topic_line : Line
topic_line = Topic (codes "storm") PARTITIONS 1 1

-- a request's frame, whose numbers are drawn from state x
abbrev pub frame_from : ℕ → ℕ → List ℕ
frame_from x i = framed (fields (request_fields (request_with i (ask_of x i))))

-- its session sends it as a whole
unfoldable pub feed_line : ℕ → ℕ → Line
feed_line x i = Feed (session_of i) (frame_from x i)

-- a request is the last of its block, or of all n
abbrev pub ends_block : ℕ → ℕ → Bool
ends_block n i = i % BLOCK == BLOCK - 1 || i == n - 1

abbrev pub clock_lines : ℕ → ℕ → List Line
clock_lines n i = if ends_block n i then Clock (BLOCK_TIME * (block_of i + 1)) ∷ [] else []

-- the line of a request, with that of the clock where its block ends; the draws go on from those of the requests before
abbrev pub request_lines : ℕ → ℕ → ℕ → List Line
request_lines seed n i = feed_line (state_after seed (draws_before i)) i ∷ clock_lines n i

-- the lines of so many requests from this one on
abbrev pub lines_from : ℕ → ℕ → ℕ → ℕ → List Line
lines_from seed n first count = flat_map (request_lines seed n) (range_with_len first count)

-- the lines before a request, of a load of n requests
abbrev pub front_lines : ℕ → ℕ → ℕ → List Line
front_lines seed n i = topic_line ∷ flat_map (request_lines seed n) (range_with_len 0 i)

abbrev pub storm_lines : ℕ → ℕ → List Line
storm_lines seed n = front_lines seed n n ++ End ∷ []
