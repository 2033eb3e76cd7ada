use Rattle.std.proofs.Common.{ℕ, ◌∙◌, ap}
use Rattle.room_core.specs.declared.event.How.{How}
use Rattle.room_core.specs.declared.parts.Session.{Session}
use Rattle.room_core.specs.Checks.{gauge_of_duty, other_entry, scanner_lets_go, with_prize}
use Rattle.room_core.specs.Put.{put}
use Rattle.room_core.specs.ScannerTables.{scanner_of}
use Rattle.room_core.specs.State.{Scanner}
use Rattle.room_core.proofs.scanner_part.ScannerPart.wins_by.Goals as goal

abbrev dropping : Scanner → ℕ → ℕ → ℕ → Scanner
dropping s gauge pass generation = record s { listing = put s.listing gauge (put (s.listing gauge) pass (other_entry (s.listing gauge pass) generation)) }

abbrev prized : Scanner → Session → ℕ → ℕ → How → Scanner
prized s session pass generation how = record s { wins = with_prize session generation s.wins (record { pass = pass; generation = generation; how = how }) }

pub returns-clause-part : goal.returns-clause-part
returns-clause-part c =
    let was = scanner_of c.args.self.now in
    let p = c.args.pass in
    let n = c.generation-generation.result in
    c.lets_go.ensures.part
    ∙ ap (λ s. scanner_lets_go s p) (c.drops_entry.ensures.part ∙ ap (λ s. dropping s c.duty_gauge-gauge.result p n) (ap (λ w. record was { wins = w }) c.in_ok-keep_prize.ensures.kept))
    ∙ ap (λ g. scanner_lets_go (dropping (prized was c.args.session p n c.args.how) g p n) p) c.duty_gauge-gauge.ensures
    ∙ ap (λ m. scanner_lets_go (dropping (prized was c.args.session p m c.args.how) (gauge_of_duty (was.duties p)) p m) p) c.generation-generation.ensures
