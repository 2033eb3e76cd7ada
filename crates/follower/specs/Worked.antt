-- A worked session, written out: a wrong word among those that say what following is would break what is shown of it.
use Rattle.std.specs.Prelude.{pos, [], ◌∷◌, codes, Some}
use Rattle.partlog.specs.declared.event.PartEvent.TheVariants.{Look}
use Rattle.audit.specs.Worked.{at, followed}
use Rattle.audit.specs.declared.account.Account.{Account}
use Rattle.audit.specs.declared.account.Call.{Call}
use Rattle.audit.specs.declared.account.CallHow.TheVariants.{AtOnce}
use Rattle.audit.specs.declared.account.SessionEnd.TheVariants.{Closed}
use Rattle.audit.specs.declared.account.Transcript.{Transcript}
use Rattle.follower.specs.Asking.{asked_body}
use Rattle.follower.specs.Copies.{Copy}

-- a new replica of the one partition, with the number 2, where the leader has one follower alone
abbrev pub stranger : Copy
stranger = record { topic = codes "t"; index = pos 0; id = pos 2; log = []; end = 0; high = 0 }

-- it asked once, and its session ended
abbrev pub stranger_call : Call
stranger_call = record { frame = asked_body stranger (pos 0); accept = at 0 0 ∷ []; finish = []; how = AtOnce }

abbrev pub stranger_session : Transcript
stranger_session = record { number = 0; first = 0; calls = stranger_call ∷ []; end = Some Closed }

abbrev pub turned_away : Account
turned_away = record {
  config = followed;
  parts = record { followers = 1; log = []; events = Look 0 0 ∷ [] } ∷ [];
  clock = [];
  passes = (stranger_session ∷ []) ∷ [];
  wins = [];
}
