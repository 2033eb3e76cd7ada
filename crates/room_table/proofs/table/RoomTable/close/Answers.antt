use Rattle.std.proofs.Common.{◌≡◌, ◌∷◌, [], sym, ap, subst}
use Rattle.std.specs.Prelude.{All}
use Rattle.room_table.specs.Seats.{ScanView}
use Rattle.room_table.proofs.Ends.{all_front}
use Rattle.room_table.proofs.table.RoomTable.close.Goals as goal

pub take_scanners-requires : goal.take_scanners-requires
take_scanners-requires c =
    let P = λ (s : ScanView). s.table ≡ c.args.self in
    subst (λ t. All (λ (s : ScanView). s.table ≡ t) c.pop.new.self) (ap (λ v. v.table) (sym c.closing-closing.ensures))
    (all_front P c.pop.new.self (c.in-Some.last ∷ []) (subst (All P) c.in-Some.ensures.items c.requires.scanners.each))
