use Rattle.std.proofs.Common.{rules, ◌≡◌, ◌<◌, length, get_or, arith, ◌∙◌, ap, sym, subst}
use Rattle.std.specs.Prelude.{slice_get, IsTrue, false}
use Rattle.std.proofs.lemmas.List.{get_or_default}
use Rattle.room_core.specs.Checks.{CanLeaveScanner, scanner_leaves}
use Rattle.room_core.specs.Gauges.{IsScanner}
use Rattle.room_core.specs.ScannerTables.{scanner_of, scanner_at}
use Rattle.room_core.specs.Tables.{state_of}
use Rattle.room_core.proofs.ScanPlaces.{scanner_place, here_at, all_at, same_at, MayLeave}
use Rattle.room_core.proofs.Views.{part_set, put_as}
use Rattle.room_core.proofs.core_state.CoreState.leave_by_scanner.Goals as goal

pub leaves-requires-clause-few : goal.leaves-requires-clause-few
leaves-requires-clause-few c =
    let old = c.args.self.now in
    let k = c.args.scanner in
    let l : k < length old.scanner.items = scanner_place old.shape k _ (c.is_scanner.ensures.0 (search (rules, c.if-not-is_scanner.false))) old.sized.room.few_scanners old.sized.scanner_size in
    let now = c.index_mut-part.result.now in
    let same = same_at old.scanner.items k c.index-part.result.now now l c.index-part.ensures c.index_mut-part.ensures.value in
    let may : MayLeave now.shape k (scanner_of now) c.args.pass c.args.gauge =
    subst (λ p. MayLeave p.shape k (scanner_of p) c.args.pass c.args.gauge) same (c.may_leave.ensures.0 (search (rules, c.if-not-may_leave.false))) in
    may.0.learned.few

pub returns-clause-allowed : goal.returns-clause-allowed
returns-clause-allowed c =
    let old = c.args.self.now in
    let k = c.args.scanner in
    let is : IsScanner old.shape k = c.is_scanner.ensures.0 (search (rules, c.if-not-is_scanner.false)) in
    let l : k < length old.scanner.items = scanner_place old.shape k _ is old.sized.room.few_scanners old.sized.scanner_size in
    let part = c.index-part.result.now in
    let shape : part.shape ≡ old.shape = all_at (λ p. p.shape ≡ old.shape) old.scanner.items k part old.sized.scanner_shape l c.index-part.ensures in
    let here = here_at old.scanner.items k part l c.index-part.ensures in
    let may : MayLeave old.shape k (scanner_at (slice_get old.scanner.items k)) c.args.pass c.args.gauge =
    subst (λ o. MayLeave old.shape k (scanner_at o) c.args.pass c.args.gauge) (sym here)
    (subst (λ s. MayLeave s k (scanner_of part) c.args.pass c.args.gauge) shape (c.may_leave.ensures.0 (search (rules, c.if-not-may_leave.false)))) in
    (λ t. (is, omega (arith, c.if-pass-self.false), omega (arith, c.if-gauge-self.false), may.0, may.1, may.2), λ t. search rules)

pub returns-clause-yes : goal.returns-clause-yes
returns-clause-yes c =
    let old = c.args.self.now in
    let k = c.args.scanner in
    let l : k < length old.scanner.items = scanner_place old.shape k _ (c.is_scanner.ensures.0 (search (rules, c.if-not-is_scanner.false))) old.sized.room.few_scanners old.sized.scanner_size in
    let m : c.args.gauge < length old.value.items = omega (arith, old.sized.value_size) in
    let value : c.index-value.result.now ≡ get_or old.value.items c.args.gauge 0 = c.index-value.ensures ∙ get_or_default old.value.items c.args.gauge _ 0 m in
    let now = c.index_mut-part.result.now in
    let shape : now.shape ≡ old.shape = all_at (λ p. p.shape ≡ old.shape) old.scanner.items k now old.sized.scanner_shape l c.index_mut-part.ensures.value in
    let here = here_at old.scanner.items k now l c.index_mut-part.ensures.value in
    let new : scanner_of c.leaves.new.self ≡ scanner_leaves old.shape k (scanner_at (slice_get old.scanner.items k)) c.args.pass c.args.gauge (get_or old.value.items c.args.gauge 0) =
    c.leaves.ensures.part ∙ ap (λ s. scanner_leaves s k (scanner_of now) c.args.pass c.args.gauge c.index-value.result.now) shape
    ∙ ap (λ v. scanner_leaves old.shape k (scanner_of now) c.args.pass c.args.gauge v) value
    ∙ ap (λ o. scanner_leaves old.shape k (scanner_at o) c.args.pass c.args.gauge (get_or old.value.items c.args.gauge 0)) (sym here) in
    λ d. record (state_of old) {
      scanner = (part_set scanner_at old.scanner.items k c.leaves.new.self l ∙ put_as (λ q. scanner_at (slice_get old.scanner.items q)) k _ _ new) d;
    }

pub returns-then-not-may_leave-clause-allowed : goal.returns-then-not-may_leave-clause-allowed
returns-then-not-may_leave-clause-allowed c =
    let old = c.args.self.now in
    let k = c.args.scanner in
    let is : IsScanner old.shape k = c.is_scanner.ensures.0 (search (rules, c.if-not-is_scanner.false)) in
    let l : k < length old.scanner.items = scanner_place old.shape k _ is old.sized.room.few_scanners old.sized.scanner_size in
    let part = c.index-part.result.now in
    let shape : part.shape ≡ old.shape = all_at (λ p. p.shape ≡ old.shape) old.scanner.items k part old.sized.scanner_shape l c.index-part.ensures in
    let here = here_at old.scanner.items k part l c.index-part.ensures in
    let no : c.may_leave.result ≡ false = search (rules, c.if-not-may_leave.true) in (
      λ t. search rules,
      λ (can : CanLeaveScanner (state_of old) k c.args.pass c.args.gauge).
          let may : MayLeave old.shape k (scanner_at (slice_get old.scanner.items k)) c.args.pass c.args.gauge = (can.3, can.4, can.5) in
          let here_may : MayLeave part.shape k (scanner_of part) c.args.pass c.args.gauge =
          subst (λ s. MayLeave s k (scanner_of part) c.args.pass c.args.gauge) (sym shape) (subst (λ o. MayLeave old.shape k (scanner_at o) c.args.pass c.args.gauge) here may) in
          subst (λ b. IsTrue b) no (c.may_leave.ensures.1 here_may),
    )
