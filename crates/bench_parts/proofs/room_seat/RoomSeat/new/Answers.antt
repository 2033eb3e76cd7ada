use Rattle.bench_parts.proofs.Fresh.{fresh_seat}
use Rattle.bench_parts.proofs.room_seat.RoomSeat.new.Goals as goal

pub invariant_of-result : goal.invariant_of-result
invariant_of-result c = fresh_seat c.args.room.now c.args.source c.args.pass c.requires.gauges c.requires.source c.requires.pass
