-- A source and a pass that nobody has used make a seat.
use Rattle.std.proofs.Common.{◌≡◌, false, ap}
use Rattle.room_table.specs.Parts.{caller_of}
use Rattle.room_table.specs.Seats.{SourceView}
use Rattle.purgatory.specs.Rooms.{PassView, RoomView}
use Rattle.bench_parts.specs.Seats.{IsFreshPass, IsFreshSource, IsSeat}

pub fresh_seat : (room : RoomView) (source : SourceView) (pass : PassView) → room.table.shape.gauges ≡ 193 → IsFreshSource room source → IsFreshPass room pass
    → IsSeat room source pass false
fresh_seat room source pass gauges s p =
    let shape = pass.seat.table.shape in
    let number = pass.seat.pass in
    record {
      gauges = gauges;
      source_made = s.0;
      pass_made = p.0;
      paid = λ gauge. ap (λ steps. (caller_of shape number steps).owed gauge) p.1;
      stage = ap (λ steps. (caller_of shape number steps).stage) p.1;
    }
