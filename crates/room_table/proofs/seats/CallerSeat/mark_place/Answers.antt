use Rattle.std.proofs.Common.{◌+◌, ap, ◌∙◌}
use Rattle.room_core.specs.declared.word.Word.{Word}
use Rattle.room_table.specs.Layout.{place_of}
use Rattle.room_table.proofs.seats.CallerSeat.mark_place.Goals as goal

pub returns : goal.returns
returns c = ap (λ f. f + 196 + c.args.at) c.self.invariant.first_is ∙ (λ i. place_of (c.self.view_is i).table.shape (Word.Mark (c.self.view_is i).pass c.args.at))
