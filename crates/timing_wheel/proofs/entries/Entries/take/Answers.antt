use Rattle.std.proofs.Common.{◌≡◌, ap, sym, ◌∙◌, None, map, length, get_or, set, is_some, arith, true, length-set}
use Rattle.std.proofs.lemmas.List.{get_or_read, map-set}
use Rattle.timing_wheel.specs.Wait.{bucket_of}
use Rattle.timing_wheel.proofs.Starts.{StartFrom-take}
use Rattle.timing_wheel.proofs.Slots.{bucket_at, bucket_of-none, bucket_listed, listed-take}
use Rattle.timing_wheel.proofs.entries.Entries.take.Goals as goal

pub take-requires-clause-listed : goal.take-requires-clause-listed
take-requires-clause-listed c =
    let timers = c.self.inside.timers.items in
    let same : timers ≡ c.args.self.now = c.self.view_is in
    let long = ap length same in
    let read : c.index.result.now ≡ get_or timers c.args.id None = get_or_read timers c.args.id _ (omega arith) c.index.ensures None in
    let some : is_some (get_or timers c.args.id None) ≡ true = ap is_some (sym read) ∙ sym c.is_some.ensures ∙ c.if-is_some.true in
    let at = ap (λ xs. get_or xs c.args.id None) c.self.invariant.filed ∙ bucket_at timers c.args.id in
    λ e. bucket_listed (get_or timers c.args.id None) some (sym at ∙ e)

pub invariant_of-self : goal.invariant_of-self
invariant_of-self c =
    let timers = c.self.inside.timers.items in
    let same : timers ≡ c.args.self.now = c.self.view_is in
    let long = ap length same in
    let read : c.index.result.now ≡ get_or timers c.args.id None = get_or_read timers c.args.id _ (omega arith) c.index.ensures None in
    let some : is_some (get_or timers c.args.id None) ≡ true = ap is_some (sym read) ∙ sym c.is_some.ensures ∙ c.if-is_some.true in
    let fewer = listed-take timers c.args.id (omega arith) some in
    let counted = c.self.invariant.counted in
    record {
      filed = c.take.ensures ∙ ap (λ xs. set xs c.args.id None) c.self.invariant.filed ∙ ap (set (map bucket_of timers) c.args.id) (sym bucket_of-none) ∙ sym (map-set bucket_of timers c.args.id None);
      counted = omega arith;
      fits = rw length-set c.self.invariant.fits;
      levels = c.self.invariant.levels;
      start = λ level low. StartFrom-take level _ timers c.args.id (c.self.invariant.start level low);
    }
