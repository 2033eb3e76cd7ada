use Rattle.std.proofs.Common.{rules, ◌≡◌, ◌↔◌, IsTrue, ℕ, ◌<◌, Bool, length, get_or, arith, ◌∙◌, ap, sym, subst}
use Rattle.std.specs.Prelude.{slice_get}
use Rattle.std.proofs.lemmas.List.{get_or_default}
use Rattle.room_core.specs.declared.parts.Phase.{Phase}
use Rattle.room_core.specs.declared.parts.Session.{Session}
use Rattle.room_core.specs.declared.event.How.{How}
use Rattle.room_core.specs.declared.shape.Shape.{Shape}
use Rattle.room_core.specs.Checks.{IsOnCheck, IsWon, MayWin, ScannerMayWin, exchanged, scanner_wins}
use Rattle.room_core.specs.Gauges.{IsPass, IsScanner}
use Rattle.room_core.specs.Meetings.{generation_met, words_of}
use Rattle.room_core.specs.ScannerTables.{scanner_of, scanner_at}
use Rattle.room_core.specs.State.{Scanner}
use Rattle.room_core.specs.Tables.{state_of}
use Rattle.room_core.proofs.ScanPlaces.{scanner_place, here_at, all_at}
use Rattle.room_core.proofs.Views.{table_set, part_set, put_as}
use Rattle.room_core.proofs.core_state.CoreState.win_by_scanner.Goals as goal

abbrev none : Session
none = record { generation = 0; phase = Phase.Idle }

abbrev Finds : Shape → ℕ → Scanner → ℕ → How → Type 0
Finds shape k scanner pass how = IsOnCheck scanner pass × MayWin k how × IsWon shape how (words_of scanner) scanner.readings

-- a scanner and a pass that are there may win where the check found so
when_found : (b : Bool) (shape part_shape : Shape) (k pass : ℕ) (how : How) (scanner other : Scanner) → IsScanner shape k → IsPass shape pass → part_shape ≡ shape → other ≡ scanner → (IsTrue b ↔ Finds part_shape k scanner pass how) → IsTrue b ↔ ScannerMayWin shape k other pass how
when_found b shape part_shape k pass how scanner other is p same e found =
    let w = subst (λ (s : Shape). IsTrue b ↔ Finds s k scanner pass how) same found in
    subst (λ (x : Scanner). IsTrue b ↔ ScannerMayWin shape k x pass how) (sym e) (λ t. (is, p, (w.0 t).0, (w.0 t).1, (w.0 t).2), λ x. w.1 (x.2, x.3, x.4))

pub returns-then-not-may_win-clause-allowed : goal.returns-then-not-may_win-clause-allowed
returns-then-not-may_win-clause-allowed c =
    let old = c.args.self.now in
    let k = c.args.scanner in
    let is : IsScanner old.shape k = c.is_scanner.ensures.0 (search (rules, c.if-not-is_scanner.false)) in
    let l : k < length old.scanner.items = scanner_place old.shape k _ is old.sized.room.few_scanners old.sized.scanner_size in
    let part = c.index-part.result.now in
    let shape : part.shape ≡ old.shape = all_at (λ p. p.shape ≡ old.shape) old.scanner.items k part old.sized.scanner_shape l c.index-part.ensures in
    let here = ap scanner_at (here_at old.scanner.items k part l c.index-part.ensures) in
    subst (λ (b : Bool). IsTrue b ↔ ScannerMayWin old.shape k (scanner_at (slice_get old.scanner.items k)) c.args.pass c.args.how) c.if-not-may_win.true
    (when_found c.may_win.result old.shape part.shape k c.args.pass c.args.how (scanner_of part) _ is c.if-pass-self.false shape here c.may_win.ensures)

pub returns-clause-allowed : goal.returns-clause-allowed
returns-clause-allowed c =
    let old = c.args.self.now in
    let k = c.args.scanner in
    let is : IsScanner old.shape k = c.is_scanner.ensures.0 (search (rules, c.if-not-is_scanner.false)) in
    let l : k < length old.scanner.items = scanner_place old.shape k _ is old.sized.room.few_scanners old.sized.scanner_size in
    let part = c.index-part.result.now in
    let shape : part.shape ≡ old.shape = all_at (λ p. p.shape ≡ old.shape) old.scanner.items k part old.sized.scanner_shape l c.index-part.ensures in
    let here = ap scanner_at (here_at old.scanner.items k part l c.index-part.ensures) in
    subst (λ (b : Bool). IsTrue b ↔ ScannerMayWin old.shape k (scanner_at (slice_get old.scanner.items k)) c.args.pass c.args.how) c.if-not-may_win.false
    (when_found c.may_win.result old.shape part.shape k c.args.pass c.args.how (scanner_of part) _ is c.if-pass-self.false shape here c.may_win.ensures)

pub returns-clause-yes : goal.returns-clause-yes
returns-clause-yes c =
    let old = c.args.self.now in
    let k = c.args.scanner in
    let l : k < length old.scanner.items = scanner_place old.shape k _ (c.is_scanner.ensures.0 (search (rules, c.if-not-is_scanner.false))) old.sized.room.few_scanners old.sized.scanner_size in
    let m : c.args.pass < length old.session.items = omega (arith, old.words.session_size, c.if-pass-self.false) in
    let session : c.index-session.result.now ≡ get_or old.session.items c.args.pass none = c.index-session.ensures ∙ get_or_default old.session.items c.args.pass _ none m in
    let now = c.index_mut-part.result.now in
    let here = here_at old.scanner.items k now l c.index_mut-part.ensures.value in
    let hereP = here_at old.scanner.items k c.index-part.result.now l c.index-part.ensures in
    let generation : c.generation-generation.result ≡ generation_met (scanner_at (slice_get old.scanner.items k)).meeting =
    c.generation-generation.ensures ∙ ap (λ o. generation_met (scanner_at o).meeting) (sym hereP) in
    let word : c.exchanged-word.result ≡ exchanged (get_or old.session.items c.args.pass none) (generation_met (scanner_at (slice_get old.scanner.items k)).meeting) c.args.how k =
    c.exchanged-word.ensures ∙ ap (λ (s : Session). exchanged s c.generation-generation.result c.args.how k) session
    ∙ ap (λ n. exchanged (get_or old.session.items c.args.pass none) n c.args.how k) generation in
    let new : scanner_of c.wins_by.new.self ≡ scanner_wins (scanner_at (slice_get old.scanner.items k)) c.args.pass c.args.how (get_or old.session.items c.args.pass none) =
    c.in_ok-wins_by.ensures.part ∙ ap (λ (s : Session). scanner_wins (scanner_of now) c.args.pass c.args.how s) session
    ∙ ap (λ o. scanner_wins (scanner_at o) c.args.pass c.args.how (get_or old.session.items c.args.pass none)) (sym here) in
    λ d. record (state_of old) {
      session = (table_set old.session.items c.args.pass c.exchanged-word.result none m ∙ put_as (λ i. get_or old.session.items i none) c.args.pass _ _ word) d;
      scanner = (part_set scanner_at old.scanner.items k c.wins_by.new.self l ∙ put_as (λ q. scanner_at (slice_get old.scanner.items q)) k _ _ new) d;
    }
