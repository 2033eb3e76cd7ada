-- The state at the start: zeros, empty lists, no source loud, and every pass idle.
use Rattle.std.specs.Prelude.{false, None, []}
use Rattle.room_core.specs.declared.shape.Shape.{Shape}
use Rattle.room_core.specs.declared.parts.Phase.{Phase}
use Rattle.room_core.specs.declared.parts.Stage.{Stage}
use Rattle.room_core.specs.Readings.{unread}
use Rattle.room_core.specs.State.{State, Caller, Scanner}

abbrev pub idle_caller : Caller
idle_caller = record {
  generation = 0;
  description = λ at. 0;
  stage = Stage.Idle;
  seen = λ i. false;
  readings = unread;
  greatest = λ gauge. 0;
  owed = λ gauge. 0;
  wins = [];
  taken = [];
}

abbrev pub idle_scanner : Scanner
idle_scanner = record {
  heard = None;
  began = λ gauge. 0;
  listing = λ gauge pass. None;
  duties = λ pass. None;
  meeting = None;
  learned = unread;
  readings = unread;
  wins = [];
}

abbrev pub start_of : Shape → State
start_of shape = record {
  shape = shape;
  value = λ gauge. 0;
  asked = λ gauge. 0;
  begun = λ gauge. 0;
  session = λ pass. record { generation = 0; phase = Phase.Idle };
  description = λ pass at. 0;
  marks = λ pass i. 0;
  source = λ gauge. record { stored = 0; loud = false };
  caller = λ pass. idle_caller;
  scanner = λ k. idle_scanner;
}
