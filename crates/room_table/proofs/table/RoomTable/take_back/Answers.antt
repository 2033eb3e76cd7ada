use Rattle.std.proofs.Common.{◌∙◌, sym, ap, arith}
use Rattle.room_table.proofs.Handing.{joins}
use Rattle.room_table.proofs.table.RoomTable.take_back.Goals as goal

pub join_seat-requires : goal.join_seat-requires
join_seat-requires c =
    let is = ap (λ t. t.id) c.self.view_is in (
      c.requires.seats.0 ∙ sym is,
      c.requires.seats.1 ∙ sym is,
      c.requires.none,
      let size = c.self.invariant.2 in
          let some = c.self.invariant.0.some_gauges in omega arith,
      joins c.self.inside.board.shared.key c.args.seat.now.id c.args.seat.now.me.0 c.args.other.id c.args.other.me.0,
    )
