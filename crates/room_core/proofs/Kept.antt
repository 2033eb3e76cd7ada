-- What is carried, without the wins, which few events touch.
use Rattle.std.proofs.Common.{◌≢◌, ℕ, ◌≤◌}
use Rattle.room_core.specs.declared.parts.Stage.{Stage}
use Rattle.room_core.specs.Gauges.{IsShape}
use Rattle.room_core.specs.Sound.{TallyIsSound, TimeIsSound}
use Rattle.room_core.specs.Carried.{IsUpheld, ScannerIsKept}
use Rattle.room_core.specs.State.{State}
use Rattle.room_core.proofs.Facts.{ValuesAreSound, DebtsAreSound, ReadingsAreSound, OwnersAreSound, GenerationsAreSound, ListingsAreSound, WinsAreSound}

pub record IsKept (s : State) : Type 0 where
  pub shape : IsShape s.shape
  pub values : ValuesAreSound s
  pub debts : DebtsAreSound s
  pub readings : ReadingsAreSound s
  pub owners : OwnersAreSound s
  pub generations : GenerationsAreSound s
  pub listings : ListingsAreSound s
  pub tally : TallyIsSound s
  pub time : TimeIsSound s
  pub opened : (pass : ℕ) → (s.caller pass).stage ≢ Stage.Idle → 1 ≤ (s.session pass).generation
  pub scanners : (k : ℕ) → ScannerIsKept s.shape k (s.scanner k)

pub kept_of : (s : State) → IsUpheld s → IsKept s
kept_of s c = record {
  shape = c.shape;
  values = c.sound.values;
  debts = c.sound.debts;
  readings = c.sound.readings;
  owners = c.sound.owners;
  generations = c.sound.generations;
  listings = c.sound.listings;
  tally = c.sound.tally;
  time = c.sound.time;
  opened = c.opened;
  scanners = c.scanners;
}

pub carried : (s : State) → IsKept s → WinsAreSound s → IsUpheld s
carried s k w = record {
  shape = k.shape;
  sound = record {
    values = k.values;
    debts = k.debts;
    readings = k.readings;
    owners = k.owners;
    generations = k.generations;
    listings = k.listings;
    tally = k.tally;
    time = k.time;
    wins = w;
  };
  opened = k.opened;
  scanners = k.scanners;
}
