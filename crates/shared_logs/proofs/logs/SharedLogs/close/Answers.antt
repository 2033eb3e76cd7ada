use Rattle.std.proofs.Common.{◌≡◌, ◌∙◌, List, ◌++◌, ap, length, map, subst, sym}
use Rattle.std.specs.Prelude.{All}
use Rattle.room_table.specs.Seats.{TableView, caller_now}
use Rattle.purgatory.specs.Ends.{IsUntaken}
use Rattle.purgatory.specs.Going.{OwesNothing}
use Rattle.purgatory.specs.Rooms.{PassView, RoomView}
use Rattle.shared_logs.specs.Apart.{gathered}
use Rattle.shared_logs.specs.Closing.{AreClosed, in_room}
use Rattle.shared_logs.specs.Gone.{AreOfRoom}
use Rattle.shared_logs.specs.Locked.{shared_view}
use Rattle.shared_logs.specs.Shared.{LogPassView, SharedView}
use Rattle.shared_logs.proofs.Closed.{all_closed}
use Rattle.shared_logs.proofs.Ending.{of_shared, passes_so, untaken}
use Rattle.shared_logs.proofs.Gathered.{all_of_clock, all_of_locks, all_settled, gathered_count}
use Rattle.shared_logs.proofs.logs.SharedLogs.close.Goals as goal

pub still-requires-clause-all : goal.still-requires-clause-all
still-requires-clause-all g c =
    let room = c.self.inside.room in
    let parts = c.self.inside.parts.items in
    let clock = c.self.inside.clock in
    let seats = c.in-Ok.seats in
    let hands = c.in-Ok.hands in
    let e = c.in-Ok.ensures in
    let size = ap (λ (l : List LogPassView). length l) e.passes in
    let all = c.requires.all ∙ ap (λ (v : SharedView). v.room.table.shape.passes) (sym c.self.view_is) in
    let count = gathered_count seats hands e.joined in
    sym count.0 ∙ sym size ∙ all

pub still-requires-clause-settled : goal.still-requires-clause-settled
still-requires-clause-settled g c =
    let room = c.self.inside.room in
    let parts = c.self.inside.parts.items in
    let clock = c.self.inside.clock in
    let seats = c.in-Ok.seats in
    let hands = c.in-Ok.hands in
    let e = c.in-Ok.ensures in
    let made : All (λ (pass : LogPassView). pass.made ≡ shared_view room parts clock) (gathered seats hands) =
    subst (λ (v : SharedView). All (λ (pass : LogPassView). pass.made ≡ v) (gathered seats hands)) (sym c.self.view_is) (subst (All (λ (pass : LogPassView). pass.made ≡ c.args.self)) e.passes c.requires.made) in
    let paid : All (λ (pass : LogPassView). OwesNothing (caller_now pass.seat)) (gathered seats hands) = subst (All (λ (pass : LogPassView). OwesNothing (caller_now pass.seat))) e.passes c.requires.paid in
    all_settled room parts clock seats hands e.joined made paid

pub returns-in-Ok-put_together : goal.returns-in-Ok-put_together
returns-in-Ok-put_together g c =
    let room = c.self.inside.room in
    let parts = c.self.inside.parts.items in
    let clock = c.self.inside.clock in
    let seats = c.in-Ok.seats in
    let hands = c.in-Ok.hands in
    let e = c.in-Ok.ensures in
    let back = c.in-Untaken.ensures in (
      ap (λ (r : RoomView). shared_view r parts clock) back.0 ∙ c.self.view_is,
      c.in-Ok-put_together.ensures ∙ ap (λ (l : List LogPassView). l ++ gathered c.in-Untaken.seats hands) e.none ∙ ap (λ (l : List PassView). gathered l hands) back.1 ∙ sym e.passes,
      subst (λ (l : List LogPassView). IsUntaken c.args.self.room (map in_room l)) (sym e.passes)
          (subst (λ (v : SharedView). IsUntaken v.room (map in_room (gathered seats hands))) c.self.view_is (untaken seats hands e.joined room back.2)),
    )

pub close_all-requires-clause-room : goal.close_all-requires-clause-room
close_all-requires-clause-room g c =
    let room = c.self.inside.room in
    let parts = c.self.inside.parts.items in
    let clock = c.self.inside.clock in
    let seats = c.in-Ok.seats in
    let hands = c.in-Ok.hands in
    let e = c.in-Ok.ensures in
    subst (λ (t : TableView). AreOfRoom t parts clock) (sym c.in-Still.ensures.table) (of_shared room parts clock c.self.invariant.0)

pub close_all-requires-clause-hands : goal.close_all-requires-clause-hands
close_all-requires-clause-hands g c =
    let room = c.self.inside.room in
    let parts = c.self.inside.parts.items in
    let clock = c.self.inside.clock in
    let seats = c.in-Ok.seats in
    let hands = c.in-Ok.hands in
    let e = c.in-Ok.ensures in
    let made : All (λ (pass : LogPassView). pass.made ≡ shared_view room parts clock) (gathered seats hands) =
    subst (λ (v : SharedView). All (λ (pass : LogPassView). pass.made ≡ v) (gathered seats hands)) (sym c.self.view_is) (subst (All (λ (pass : LogPassView). pass.made ≡ c.args.self)) e.passes c.requires.made) in
    let paid : All (λ (pass : LogPassView). OwesNothing (caller_now pass.seat)) (gathered seats hands) = subst (All (λ (pass : LogPassView). OwesNothing (caller_now pass.seat))) e.passes c.requires.paid in
    (all_of_locks room parts clock seats hands e.joined made paid, all_of_clock room parts clock seats hands e.joined made paid)

pub close_all-requires-clause-passes : goal.close_all-requires-clause-passes
close_all-requires-clause-passes g c =
    let room = c.self.inside.room in
    let parts = c.self.inside.parts.items in
    let clock = c.self.inside.clock in
    let seats = c.in-Ok.seats in
    let hands = c.in-Ok.hands in
    let e = c.in-Ok.ensures in
    let size = ap (λ (l : List LogPassView). length l) e.passes in
    let all = c.requires.all ∙ ap (λ (v : SharedView). v.room.table.shape.passes) (sym c.self.view_is) in
    let count = gathered_count seats hands e.joined in
    let n = sym count.1 ∙ sym size ∙ all in
    (passes_so room parts (length hands) n c.self.invariant.1.parts_have, c.self.invariant.1.clock_has ∙ sym n)

pub returns-in-Ok-close_all : goal.returns-in-Ok-close_all
returns-in-Ok-close_all g c =
    let room = c.self.inside.room in
    let parts = c.self.inside.parts.items in
    let clock = c.self.inside.clock in
    let seats = c.in-Ok.seats in
    let hands = c.in-Ok.hands in
    let e = c.in-Ok.ensures in
    let made : All (λ (pass : LogPassView). pass.made ≡ shared_view room parts clock) (gathered seats hands) =
    subst (λ (v : SharedView). All (λ (pass : LogPassView). pass.made ≡ v) (gathered seats hands)) (sym c.self.view_is) (subst (All (λ (pass : LogPassView). pass.made ≡ c.args.self)) e.passes c.requires.made) in
    let size = ap (λ (l : List LogPassView). length l) e.passes in
    let all = c.requires.all ∙ ap (λ (v : SharedView). v.room.table.shape.passes) (sym c.self.view_is) in
    let count = gathered_count seats hands e.joined in
    let n = sym count.1 ∙ sym size ∙ all in
    let closed = c.in-Ok-close_all.closed in
    subst (λ (v : SharedView). AreClosed v c.args.passes closed.parts closed.clock closed.wins) c.self.view_is
    (subst (λ (l : List LogPassView). AreClosed (shared_view room parts clock) l closed.parts closed.clock closed.wins) (sym e.passes)
    (all_closed room parts clock seats hands e.joined made c.in-Still.still c.in-Still.ensures closed.parts closed.clock closed.wins c.in-Ok-close_all.ensures (of_shared room parts clock c.self.invariant.0).gauges n))
