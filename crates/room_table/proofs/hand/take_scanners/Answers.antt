use Rattle.std.proofs.Common.{◌≡◌, ◌∷◌, sym, ap, subst, ◌∙◌}
use Rattle.std.specs.Prelude.{All}
use Rattle.room_table.specs.Closing.{with_scanner}
use Rattle.room_table.specs.Seats.{ScanView}
use Rattle.room_table.proofs.Ends.{shifted, in_middle}
use Rattle.room_table.proofs.hand.take_scanners.Goals as goal

pub take_scanner-requires : goal.take_scanner-requires
take_scanner-requires c =
    let x = c.in-Some.scan in
    let taken = c.loop-scan.invariant in
    let all = shifted c.args.scanners c.loop-scan.scanners c.pop.new.self taken.0 x taken.1 c.in-Some.ensures.items in
    in_middle (λ (s : ScanView). s.table ≡ c.args.closing.now.table) c.pop.new.self taken.0 x (subst (All (λ (s : ScanView). s.table ≡ c.args.closing.now.table)) all c.requires)
    ∙ sym (ap (λ v. v.table) taken.2)

pub loop-scan-preserved : goal.loop-scan-preserved
loop-scan-preserved c =
    let x = c.in-Some.scan in
    let taken = c.loop-scan.invariant in (
      x ∷ taken.0,
      shifted c.args.scanners c.loop-scan.scanners c.pop.new.self taken.0 x taken.1 c.in-Some.ensures.items,
      c.take_scanner.ensures ∙ ap (λ v. with_scanner v x) taken.2,
    )
