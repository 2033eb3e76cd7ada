-- Small accounts, written out. A wrong word among those that say what a lawful call is, or a reply, would break what is
-- shown of them.
use Rattle.std.specs.Prelude.{ℕ, ℤ, pos, negsuc, List, [], ◌∷◌, ◌++◌, length, codes, Some, None}
use Rattle.std.specs.List.{flat_map}
use Rattle.partlog.specs.declared.event.PartEvent.{PartEvent}
use Rattle.partlog.specs.declared.event.PartEvent.TheVariants.{Append, Follow, Look, Shrink}
use Rattle.partlog.specs.declared.clock_event.ClockEvent.TheVariants as clocks
use Rattle.kbatch.specs.Stamp.{stamped}
use Rattle.audit.specs.declared.account.Account.{Account}
use Rattle.audit.specs.declared.account.Transcript.{Transcript}
use Rattle.audit.specs.declared.account.Call.{Call}
use Rattle.audit.specs.declared.account.CallHow.TheVariants.{AtOnce, Satisfied, Expired, Parked, Cut}
use Rattle.audit.specs.declared.account.SessionEnd.TheVariants.{Closed, NoMemory, Truncated}
use Rattle.audit.specs.declared.account.Point.{Point}
use Rattle.kwire.specs.declared.request.Request.{Request}
use Rattle.kwire.specs.declared.request.Ask.TheVariants.{Produce, Fetch}
use Rattle.kwire.specs.declared.request.FetchPart.{FetchPart}
use Rattle.kwire.specs.declared.reply.Reply.{Reply}
use Rattle.kwire.specs.declared.reply.Told.TheVariants.{Produced, Fetched}
use Rattle.trace_file.specs.declared.line.Line.{Line}
use Rattle.trace_file.specs.declared.line.Line.TheVariants as lines
use Rattle.kwire.specs.Configuration.{Configuration}
use Rattle.audit.specs.Histories.{clock_part}
use Rattle.audit.specs.Printed.{session_text, summary_of}

abbrev pub at : ℕ → ℕ → Point
at part place = record { part = part; place = place }

-- one topic with two partitions, and no followers
abbrev pub two_parts : Configuration
two_parts = record { port = 9092; topics = record { name = codes "t"; partitions = 2; followers = 0; min_insync = 1 } ∷ [] }

abbrev pub from_start : ℕ → FetchPart
from_start index = record { index = pos index; offset = pos 0; log_start = negsuc 0; most = pos 1000 }

-- a consumer's fetch of these partitions, which waits so many milliseconds for one byte
abbrev pub fetch_of : ℕ → List FetchPart → Request
fetch_of wait parts = record {
  correlation = pos 7;
  client = None;
  ask = Fetch (pos 4) (negsuc 0) (pos wait) (pos 1) (pos 1000) (pos 0) (record { name = codes "t"; parts = parts } ∷ []);
}

abbrev pub fetch_one : Request
fetch_one = fetch_of 100 (from_start 0 ∷ [])

abbrev pub fetch_both : Request
fetch_both = fetch_of 100 (from_start 0 ∷ from_start 1 ∷ [])

-- It waited until the moment 100. The clock was looked at, and then the partition.
abbrev pub expired_call : List ℕ → Call
expired_call one = record { frame = one; accept = at 0 0 ∷ at clock_part 0 ∷ []; finish = at clock_part 3 ∷ at 0 2 ∷ []; how = Expired 0 }

-- it came at that moment, and waits until 200
abbrev pub parked_call : List ℕ → Call
parked_call one = record { frame = one; accept = at 0 4 ∷ at clock_part 5 ∷ []; finish = []; how = Parked }

-- It waited for two partitions until 100, was won, and ran out of memory behind its look at the first.
abbrev pub cut_call : List ℕ → Call
cut_call both = record {
  frame = both;
  accept = at 0 1 ∷ at 1 0 ∷ at clock_part 1 ∷ [];
  finish = at clock_part 4 ∷ at 0 3 ∷ [];
  how = Cut (Some 0);
}

-- three passes with one call each: one expired, one parked, and one cut off
abbrev pub three_waits : List ℕ → List ℕ → Account
three_waits one both = record {
  config = two_parts;
  parts =
      record { followers = 0; log = []; events = Look 0 0 ∷ Look 2 0 ∷ Look 0 0 ∷ Look 2 0 ∷ Look 1 0 ∷ [] }
      ∷ record { followers = 0; log = []; events = Look 2 0 ∷ [] } ∷ [];
  clock = clocks.Look 0 0 ∷ clocks.Look 2 0 ∷ clocks.Tick 100 ∷ clocks.Look 0 0 ∷ clocks.Look 2 0 ∷ clocks.Look 1 0 ∷ [];
  passes =
      (record { number = 0; first = 0; calls = expired_call one ∷ []; end = None } ∷ [])
      ∷ (record { number = 1; first = 0; calls = parked_call one ∷ []; end = None } ∷ [])
      ∷ (record { number = 2; first = 0; calls = cut_call both ∷ []; end = Some NoMemory } ∷ []) ∷ [];
  wins = 2 ∷ [];
}

-- the same, where the clock told 200 at last
abbrev pub told_later : List ℕ → List ℕ → Account
told_later one both = record (three_waits one both) { clock = (three_waits one both).clock ++ clocks.Tick 200 ∷ [] }

-- the same, where the call that was cut off names a look at the second partition too, which nobody left
abbrev pub astray_call : List ℕ → Call
astray_call both = record (cut_call both) { finish = at clock_part 4 ∷ at 0 3 ∷ at 1 1 ∷ [] }

-- a partition that was empty as it was looked at twice, and had one record of one byte after that
abbrev pub filled : Account
filled = record {
  config = two_parts;
  parts =
      record { followers = 0; log = 9 ∷ []; events = Look 0 0 ∷ Look 0 0 ∷ Append 1 0 1 1 ∷ Look 0 0 ∷ [] }
      ∷ record { followers = 0; log = []; events = Look 0 0 ∷ [] } ∷ [];
  clock = clocks.Look 0 0 ∷ [];
  passes = [];
  wins = [];
}

-- it waited for a byte, and looked at the partition at this place
abbrev pub satisfied_call : List ℕ → ℕ → Call
satisfied_call one place = record { frame = one; accept = at 0 0 ∷ at clock_part 0 ∷ []; finish = at 0 place ∷ []; how = Satisfied 0 }

-- It waited for a byte of either partition, was won, and ran out of memory behind its look at the first.
abbrev pub cut_as_satisfied : List ℕ → Call
cut_as_satisfied both = record {
  frame = both;
  accept = at 0 0 ∷ at 1 0 ∷ at clock_part 0 ∷ [];
  finish = at 0 3 ∷ [];
  how = Cut (Some 0);
}

-- the same, where nobody had won it
abbrev pub cut_unwon : List ℕ → Call
cut_unwon both = record (cut_as_satisfied both) { how = Cut None }

-- a fetch that needn't wait, and found the partition as it was at this place
abbrev pub fetch_now : Request
fetch_now = fetch_of 0 (from_start 0 ∷ [])

abbrev pub read_call : List ℕ → ℕ → Call
read_call now place = record { frame = now; accept = at 0 place ∷ []; finish = []; how = AtOnce }

-- its reply, with this high watermark and these records
abbrev pub reply_of : ℕ → List ℕ → Reply
reply_of high records = record {
  correlation = pos 7;
  told = Fetched (pos 4) (pos 0) (record { name = codes "t"; parts = record { index = pos 0; code = pos 0; high = pos high; start = pos 0; records = records } ∷ [] } ∷ []);
}

-- one topic with one partition, which has a follower
abbrev pub followed : Configuration
followed = record { port = 9092; topics = record { name = codes "t"; partitions = 1; followers = 1; min_insync = 1 } ∷ [] }

-- a produce of one batch to it
abbrev pub produce_of : ℤ → List ℕ → Request
produce_of acks batch = record {
  correlation = pos 7;
  client = None;
  ask = Produce (pos 3) None acks (pos 100) (record { name = codes "t"; parts = record { index = pos 0; records = Some batch } ∷ [] } ∷ []);
}

-- it asked for the leader alone, and was put at this place
abbrev pub produce_call : List ℕ → ℕ → Call
produce_call plain place = record { frame = plain; accept = at 0 place ∷ []; finish = []; how = AtOnce }

-- it waited for the follower, and looked at the partition at this place
abbrev pub replicated_call : List ℕ → ℕ → Call
replicated_call all place = record { frame = all; accept = at 0 0 ∷ at clock_part 0 ∷ []; finish = at 0 place ∷ []; how = Satisfied 0 }

-- its reply, with this base offset
abbrev pub produced_reply : ℕ → Reply
produced_reply base = record {
  correlation = pos 7;
  told = Produced (pos 3) (record { name = codes "t"; parts = record { index = pos 0; code = pos 0; base = pos base; start = pos 0 } ∷ [] } ∷ []);
}

abbrev pub produce_transcript : List ℕ → ℕ → Transcript
produce_transcript plain session = record { number = session; first = 0; calls = produce_call plain session ∷ []; end = None }

-- Two passes put a batch of one record into the partition. It was looked at before its follower fetched behind the first
-- batch, and after that.
abbrev pub replicated : List ℕ → List ℕ → Account
replicated plain batch = record {
  config = followed;
  parts = record {
    followers = 1;
    log = stamped 0 batch ++ stamped 1 batch;
    events = Append 0 0 1 (length batch) ∷ Append 1 0 1 (length batch) ∷ Look 0 0 ∷ Follow 2 0 (pos 1) 1 0 ∷ Look 0 0 ∷ [];
  } ∷ [];
  clock = clocks.Look 0 0 ∷ [];
  passes = (produce_transcript plain 0 ∷ []) ∷ (produce_transcript plain 1 ∷ []) ∷ [];
  wins = [];
}

-- a text in which each of the two has the other's reply
abbrev pub swapped_print : List ℕ → List ℕ → List ℕ
swapped_print plain batch =
    flat_map session_text ((produce_transcript plain 0, produced_reply 1 ∷ []) ∷ (produce_transcript plain 1, produced_reply 0 ∷ []) ∷ [])
    ++ summary_of (replicated plain batch)

-- A pass put one batch of one record into the partition. Its follower fetched nothing, and was taken out after 30 seconds.
abbrev pub left_alone : List ℕ → List ℕ → Account
left_alone plain batch = record {
  config = followed;
  parts = record {
    followers = 1;
    log = stamped 0 batch;
    events = Append 0 0 1 (length batch) ∷ Shrink 0 (pos 1) 30000 ∷ [];
  } ∷ [];
  clock = clocks.Tick 30000 ∷ [];
  passes = (produce_transcript plain 0 ∷ []) ∷ [];
  wins = [];
}

-- a call that left these entries as it was accepted
abbrev pub call_at : List ℕ → List Point → Call
call_at one points = record { frame = one; accept = points; finish = []; how = AtOnce }

-- A record was put, and the clock told 29999 and 30000. Another pass looked at it after that. Then the partition had these two
-- entries: the follower was taken out, and it fetched by that pass's second call.
abbrev pub left_and_back : List ℕ → PartEvent → PartEvent → Account
left_and_back one leave back = record {
  config = followed;
  parts = record { followers = 1; log = 9 ∷ []; events = Append 0 0 1 1 ∷ leave ∷ back ∷ [] } ∷ [];
  clock = clocks.Tick 29999 ∷ clocks.Tick 30000 ∷ clocks.Look 1 0 ∷ [];
  passes =
      (record { number = 0; first = 0; calls = call_at one (at 0 0 ∷ []) ∷ []; end = None } ∷ [])
      ∷ (record { number = 1; first = 0; calls = call_at one (at clock_part 2 ∷ []) ∷ call_at one (at 0 2 ∷ []) ∷ []; end = None } ∷ []) ∷ [];
  wins = [];
}

-- the follower was taken out at this moment, or another replica was
abbrev pub leave_at : ℕ → PartEvent
leave_at t = Shrink 0 (pos 1) t

abbrev pub other_leaves : PartEvent
other_leaves = Shrink 0 (pos 2) 30000

-- it fetched from the log end at this moment
abbrev pub back_at : ℕ → PartEvent
back_at t = Follow 1 1 (pos 1) 1 t

-- a trace of one topic, whose one session is closed at once, and whose clock tells 5
abbrev pub closed_lines : List Line
closed_lines = lines.Topic (codes "t") 2 0 1 ∷ lines.Shut 0 ∷ lines.Clock 5 ∷ lines.End ∷ []

abbrev pub closed_transcript : Transcript
closed_transcript = record { number = 0; first = 0; calls = []; end = Some Closed }

-- its run by a command with a pass for the clock, which told 1000 once more
abbrev pub closed_run : Account
closed_run = record {
  config = two_parts;
  parts = record { followers = 0; log = []; events = [] } ∷ record { followers = 0; log = []; events = [] } ∷ [];
  clock = clocks.Tick 5 ∷ clocks.Tick 1000 ∷ [];
  passes = (closed_transcript ∷ []) ∷ [] ∷ [];
  wins = [];
}

-- Two links that one lane served, the second of which it took up first: it read the partition as it was at last.
abbrev pub two_links : List ℕ → Account
two_links one = record filled {
  passes =
      (record { number = 1; first = 0; calls = record { frame = one; accept = at 0 3 ∷ []; finish = []; how = AtOnce } ∷ []; end = Some Closed }
      ∷ record { number = 0; first = 1; calls = []; end = Some (Truncated 3) } ∷ []) ∷ [];
}

-- lines, each with its line feed
abbrev pub lines_of : List (List ℕ) → List ℕ
lines_of lines = flat_map (λ line. line ++ 10 ∷ []) lines
