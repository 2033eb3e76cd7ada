use Rattle.std.proofs.Common.{rules, ◌≡◌, ◌<◌, length, get_or, arith, ◌∙◌, ap, sym}
use Rattle.std.specs.Prelude.{slice_get}
use Rattle.std.proofs.lemmas.List.{get_or_default}
use Rattle.room_core.specs.declared.parts.Phase.{Phase}
use Rattle.room_core.specs.declared.parts.Session.{Session}
use Rattle.room_core.specs.Meetings.{scanner_meets}
use Rattle.room_core.specs.ScannerTables.{scanner_of, scanner_at}
use Rattle.room_core.specs.Tables.{state_of}
use Rattle.room_core.proofs.ScanPlaces.{scanner_place, here_at}
use Rattle.room_core.proofs.Views.{part_set, put_as}
use Rattle.room_core.proofs.core_state.CoreState.meet.Goals as goal

abbrev none : Session
none = record { generation = 0; phase = Phase.Idle }

pub returns-clause-yes : goal.returns-clause-yes
returns-clause-yes c =
    let old = c.args.self.now in
    let k = c.args.scanner in
    let l : k < length old.scanner.items = scanner_place old.shape k _ (c.is_scanner.ensures.0 (search (rules, c.if-not-is_scanner.false))) old.sized.room.few_scanners old.sized.scanner_size in
    let m : c.args.pass < length old.session.items = omega (arith, old.words.session_size) in
    let session : c.index-session.result.now ≡ get_or old.session.items c.args.pass none = c.index-session.ensures ∙ get_or_default old.session.items c.args.pass _ none m in
    let here = here_at old.scanner.items k c.index_mut-part.result.now l c.index_mut-part.ensures.value in
    let new : scanner_of c.meets.new.self ≡ scanner_meets (scanner_at (slice_get old.scanner.items k)) c.args.pass (get_or old.session.items c.args.pass none) =
    c.meets.ensures.part ∙ ap (λ x. scanner_meets (scanner_of c.index_mut-part.result.now) c.args.pass x) session
    ∙ ap (λ o. scanner_meets (scanner_at o) c.args.pass (get_or old.session.items c.args.pass none)) (sym here) in
    λ d. record (state_of old) {
      scanner = (part_set scanner_at old.scanner.items k c.meets.new.self l ∙ put_as (λ q. scanner_at (slice_get old.scanner.items q)) k _ _ new) d;
    }
