use Rattle.std.proofs.Common.{◌≡◌, ◌∙◌, ap, ap₂, subst, sym}
use Rattle.turn_lock.specs.Locks.{AreFresh, lock_id}
use Rattle.outside.specs.shared.port.Desk.{Desk, name_of}
use Rattle.outside.specs.shared.port.Fresh.{fresh_passes}
use Rattle.outside.specs.shared.port.History.{Terms}
use Rattle.outside.specs.shared.port.Keys.{port_view, terms_in}
use Rattle.outside.proofs.shared.port.KeysMade.{fresh_keys}
use Rattle.outside.proofs.shared.port.shared_port.SharedPort.make.Goals as goal

pub port_passes-requires-clause-keys : goal.port_passes-requires-clause-keys
port_passes-requires-clause-keys g c =
    let id = lock_id c.in_ok-lock.lock in
    let terms : Terms = record { before = g.P.Port.faults c.args.port; most = c.args.most } in
    (id, terms, fresh_keys id terms c.in_ok-lock.keys (subst (λ (d : Desk g.row.P.Denot g.row.P-Link.Denot). AreFresh id (name_of d) c.in_ok-lock.keys) c.new-desk.ensures c.in_ok-lock.ensures.passes.1))

pub returns-clause-passes : goal.returns-clause-passes
returns-clause-passes g c =
    let id = lock_id c.in_ok-lock.lock in
    let terms : Terms = record { before = g.P.Port.faults c.args.port; most = c.args.most } in
    let fresh = fresh_keys id terms c.in_ok-lock.keys (subst (λ (d : Desk g.row.P.Denot g.row.P-Link.Denot). AreFresh id (name_of d) c.in_ok-lock.keys) c.new-desk.ensures c.in_ok-lock.ensures.passes.1) in
    let named : (port_view c.in_ok-lock.lock).terms ≡ terms = ap terms_in c.in_ok-lock.ensures.lock.0 ∙ ap (λ (d : Desk g.row.P.Denot g.row.P-Link.Denot). d.terms) c.new-desk.ensures in
    c.in_ok-passes.ensures id terms fresh ∙ ap₂ (fresh_passes id) (sym named) c.in_ok-lock.ensures.passes.0
