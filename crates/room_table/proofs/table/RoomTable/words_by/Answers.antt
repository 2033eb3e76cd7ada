use Rattle.std.proofs.Common.{◌∙◌, sym, ap, subst}
use Rattle.std.specs.Slots.{slots_items}
use Rattle.room_table.specs.Closing.{AreAllBack, closing_view}
use Rattle.room_table.specs.Handed.{AreShown}
use Rattle.room_table.proofs.Ends.{closes}
use Rattle.room_table.proofs.table.RoomTable.words_by.Goals as goal

pub close_with-requires : goal.close_with-requires
close_with-requires c = c.requires.table ∙ sym (ap (λ t. t.id) c.self.view_is)

pub invariant_of-result : goal.invariant_of-result
invariant_of-result c = (c.close_with.ensures.values.0, c.close_with.ensures.counts.1 ∙ c.self.invariant.3)

pub returns : goal.returns
returns c =
    let board = c.self.inside.board.shared in
    let words = slots_items c.close_with.result.words in
    subst
    (λ t. let back = closing_view t c.args.seat.me.0 in AreShown t back.sources back.callers back.scanners words)
    c.self.view_is
    (closes board.key c.self.inside.shape c.args.seat.id board.table_id c.args.seat.me words (slots_items c.close_with.result.slots) c.self.invariant.1
    (subst (λ t. AreAllBack (closing_view t c.args.seat.me.0)) (sym c.self.view_is) c.requires.all)
    c.close_with.ensures.values.2)
