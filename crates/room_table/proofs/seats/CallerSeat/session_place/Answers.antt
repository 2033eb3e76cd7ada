use Rattle.std.proofs.Common.{◌∙◌}
use Rattle.room_core.specs.declared.word.Word.{Word}
use Rattle.room_table.specs.Layout.{place_of}
use Rattle.room_table.proofs.seats.CallerSeat.session_place.Goals as goal

pub returns : goal.returns
returns c = c.self.invariant.first_is ∙ (λ i. place_of (c.self.view_is i).table.shape (Word.Session (c.self.view_is i).pass))
