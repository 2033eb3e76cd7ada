-- A whole trace, written out: a produce that waits for its follower, that one's fetch, and a consumer's fetch that waits until its
-- deadline. A wrong word among those that play a line would break what is shown of it.
use Rattle.std.specs.Prelude.{ℕ, ℤ, pos, negsuc, List, [], ◌∷◌, codes, None}
use Rattle.kbytes.specs.Field.{fields}
use Rattle.audit.specs.declared.account.Call.{Call}
use Rattle.audit.specs.declared.account.CallHow.TheVariants.{Expired}
use Rattle.audit.specs.Histories.{clock_part}
use Rattle.audit.specs.Worked.{at, produce_of}
use Rattle.kwire.specs.declared.request.Request.{Request}
use Rattle.kwire.specs.declared.request.Ask.TheVariants.{Fetch}
use Rattle.kwire.specs.Frames.{framed}
use Rattle.kwire.specs.IsRequest.{request_fields}
use Rattle.trace_file.specs.declared.line.Line.{Line}
use Rattle.trace_file.specs.declared.line.Line.TheVariants as lines

-- a batch of one record
abbrev pub batch : List ℕ
batch =
    0 ∷ 0 ∷ 0 ∷ 0 ∷ 0 ∷ 0 ∷ 0 ∷ 0 ∷ 0 ∷ 0 ∷ 0 ∷ 57 ∷ 0 ∷ 0 ∷ 0 ∷ 0 ∷ 2 ∷ 252 ∷ 172 ∷ 248 ∷ 152 ∷ 0 ∷ 0 ∷ 0 ∷ 0 ∷ 0 ∷ 0 ∷
    0 ∷ 0 ∷ 0 ∷ 0 ∷ 0 ∷ 0 ∷ 0 ∷ 0 ∷ 0 ∷ 0 ∷ 0 ∷ 0 ∷ 0 ∷ 0 ∷ 0 ∷ 0 ∷ 255 ∷ 255 ∷ 255 ∷ 255 ∷ 255 ∷ 255 ∷ 255 ∷ 255 ∷ 255 ∷
    255 ∷ 255 ∷ 255 ∷ 255 ∷ 255 ∷ 0 ∷ 0 ∷ 0 ∷ 1 ∷ 14 ∷ 0 ∷ 0 ∷ 0 ∷ 1 ∷ 2 ∷ 99 ∷ 0 ∷ []

-- a fetch by this replica, from behind the one record, which waits so many milliseconds for a byte
abbrev pub fetch_by : ℤ → ℕ → Request
fetch_by replica wait = record {
  correlation = pos 7;
  client = None;
  ask = Fetch (pos 4) replica (pos wait) (pos 1) (pos 1000) (pos 0)
      (record { name = codes "t"; parts = record { index = pos 0; offset = pos 1; log_start = negsuc 0; most = pos 1000 } ∷ [] } ∷ []);
}

-- the produce, the follower's fetch, and a consumer's that waits
abbrev pub produce : Request
produce = produce_of (negsuc 0) batch

abbrev pub follow : Request
follow = fetch_by (pos 1) 0

abbrev pub poll : Request
poll = fetch_by (negsuc 0) 100

abbrev pub body_of : Request → List ℕ
body_of request = fields (request_fields request)

abbrev pub worked_lines : List Line
worked_lines =
    lines.Topic (codes "t") 1 1 1 ∷ lines.Feed 0 (framed (body_of produce)) ∷ lines.Feed 1 (framed (body_of follow))
    ∷ lines.Feed 2 (framed (body_of poll)) ∷ lines.Clock 99 ∷ lines.Clock 100 ∷ lines.End ∷ []

-- the consumer's call, whose looks stand behind the tick
abbrev pub polled : Call
polled = record { frame = body_of poll; accept = at 0 3 ∷ at clock_part 1 ∷ []; finish = at clock_part 4 ∷ at 0 4 ∷ []; how = Expired 0 }
