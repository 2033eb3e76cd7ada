use Rattle.std.proofs.Common.{ap, ◌∙◌}
use Rattle.room_table.specs.Tells.{Sat}
use Rattle.room_table.proofs.Ends.{first_back}
use Rattle.room_table.proofs.table.RoomTable.closing.Goals as goal

pub invariant_of-result : goal.invariant_of-result
invariant_of-result c = (ap (λ v. v.table.id) c.first.view_is ∙ ap (λ t. t.id) c.requires, ap (λ (m : Sat). m.1) c.first.invariant.has)

pub returns : goal.returns
returns c = first_back c.args.self c.first.inside.seat.table_id c.first.inside.scanner c.first.inside.seat.me c.args.first c.first.invariant.has c.first.view_is c.requires
