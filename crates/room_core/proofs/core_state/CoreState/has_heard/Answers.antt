use Rattle.std.proofs.Common.{◌≡◌, ◌<◌, length, arith, ◌∙◌, ap, sym, subst, Some}
use Rattle.std.specs.Prelude.{slice_get, ◌↔◌, IsTrue}
use Rattle.std.proofs.lemmas.Option.{slice_get-get_or}
use Rattle.room_core.specs.Scans.{IsHeard}
use Rattle.room_core.specs.ScannerTables.{scanner_at}
use Rattle.room_core.proofs.core_state.CoreState.has_heard.Goals as goal

pub returns : goal.returns
returns c =
    let l : c.args.scanner < length c.args.self.now.scanner.items = omega (arith, c.args.self.now.sized.scanner_size, c.args.self.now.sized.room) in
    let here : slice_get c.args.self.now.scanner.items c.args.scanner ≡ Some c.index.result.now =
    slice_get-get_or c.args.self.now.scanner.items c.args.scanner c.index.result.now l ∙ ap Some (sym c.index.ensures) in
    subst (λ o. IsTrue c.has_heard.result ↔ IsHeard (scanner_at o).heard c.args.gauge) (sym here) c.has_heard.ensures
