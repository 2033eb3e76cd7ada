use Rattle.std.proofs.Common.{◌∙◌, List, ap, subst, sym}
use Rattle.std.specs.Prelude.{All}
use Rattle.purgatory.specs.Ends.{IsSettled, seats_of, taken_of, won_by_passes}
use Rattle.purgatory.specs.Rooms.{PassView, RoomView}
use Rattle.purgatory.proofs.Stills.{ready_so}
use Rattle.purgatory.proofs.room.Room.still.Goals as goal

pub of-requires : goal.of-requires
of-requires g c =
    let i = c.self.inside in
    let room : RoomView = record { table = i.table; locks = i.locks } in
    let back = sym c.self.view_is in
    let passes = c.args.passes in
    record {
      back = ready_so room passes c.hold_all.new.passes c.in-Still.closing c.hold_all.new.wins c.counted-count.result.won c.counted-count.result.taken c.self.invariant.1
          (c.in-Still.ensures.wins ∙ c.self.invariant.2) (c.requires.all ∙ ap (λ (r : RoomView). r.table.shape.passes) back)
          (subst (λ (r : RoomView). All (IsSettled r) passes) back c.requires.settled) c.in-Still.ensures.seats c.in-Still.ensures.held
          (c.counted-count.ensures.won ∙ ap (λ (l : List PassView). won_by_passes (seats_of l)) c.as_slice.ensures)
          (c.counted-count.ensures.taken ∙ ap (λ (l : List PassView). taken_of (seats_of l)) c.as_slice.ensures);
    }
