use Rattle.std.proofs.Common.{◌∙◌, ap}
use Rattle.room_core.specs.Packing.{unpacked}
use Rattle.room_table.specs.declared.part.ScannerStep.{ScannerStep}
use Rattle.room_table.specs.Seats.{ScanView, scanner_did}
use Rattle.purgatory.proofs.scans.Goes.{one_step}
use Rattle.purgatory.proofs.scans.Inspecting.{won}
use Rattle.purgatory.proofs.scans.inspector.Inspector.win.Goals as goal

pub invariant_of-self : goal.invariant_of-self
invariant_of-self g c =
    let i = c.self.inside in
    let w = c.win-has_won.ensures in
    won i.shape i.number i.words.items i.values.items i.wins i.seat c.win-has_won.new.who c.self.invariant c.args.pass c.args.how (unpacked w.0) c.win-has_won.result c.counted-self-inside.result w.3 c.counted-self-inside.ensures w.1

pub returns-clause-went : goal.returns-clause-went
returns-clause-went g c =
    let w = c.win-has_won.ensures in
    let did = ScannerStep.Won c.args.pass c.args.how (unpacked w.0) in
    one_step c.args.self.now c.win-has_won.new.who did (w.1 ∙ ap (λ (v : ScanView). scanner_did v did) c.self.view_is)
