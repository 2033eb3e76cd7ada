use Rattle.std.proofs.Common.{◌≡◌, ℕ, min, subst, ap, sym, ◌∙◌, None, Some, map, length, get_or, set, arith, Option, List, length-set}
use Rattle.std.proofs.lemmas.List.{map-set}
use Rattle.timing_wheel.specs.declared.timer.Timer.{Timer}
use Rattle.timing_wheel.specs.declared.place.Place.{Place}
use Rattle.timing_wheel.specs.Place.{level_of}
use Rattle.timing_wheel.specs.Turn.{bucket_start}
use Rattle.timing_wheel.specs.Filed.{StartFrom}
use Rattle.timing_wheel.specs.Wait.{bucket_of, number_of}
use Rattle.timing_wheel.proofs.Starts.{StartFrom-put}
use Rattle.timing_wheel.proofs.Slots.{bucket_at, bucket_of-none, bucket_of-some, listed-put, listed-le}
use Rattle.timing_wheel.proofs.entries.Entries.put.Goals as goal

pub put-requires-clause-free : goal.put-requires-clause-free
put-requires-clause-free c =
    let timers = c.self.inside.timers.items in
    let same : timers ≡ c.args.self.now = c.self.view_is in
    ap (λ xs. get_or xs c.args.id None) c.self.invariant.filed ∙ bucket_at timers c.args.id ∙ ap (λ (xs : List (Option Timer)). bucket_of (get_or xs c.args.id None)) same ∙ ap bucket_of c.requires.free ∙ bucket_of-none

pub overflow_add-self : goal.overflow_add-self
overflow_add-self c =
    let timers = c.self.inside.timers.items in
    let same : timers ≡ c.args.self.now = c.self.view_is in
    let long = ap length same in
    let more = listed-put timers c.args.id c.args.timer (omega arith) (rw same c.requires.free) in
    let le = listed-le (set timers c.args.id (Some c.args.timer)) in
    let as_long = length-set timers c.args.id (Some c.args.timer) in
    let counted = c.self.invariant.counted in
    let fits = c.self.invariant.fits in
    omega arith

pub invariant_of-self : goal.invariant_of-self
invariant_of-self c =
    let timers = c.self.inside.timers.items in
    let same : timers ≡ c.args.self.now = c.self.view_is in
    let long = ap length same in
    let more = listed-put timers c.args.id c.args.timer (omega arith) (rw same c.requires.free) in
    let counted = c.self.invariant.counted in
    let number : Some c.number.result ≡ bucket_of (Some c.args.timer) = ap Some (c.number.ensures.same ∙ ap number_of c.spot-spot.ensures.place) ∙ sym (bucket_of-some c.args.timer) in
    let starts = c.self.inside.starts in
    let at : c.spot-spot.result.place.level ≡ level_of c.args.timer = ap (λ (p : Place). p.level) c.spot-spot.ensures.place in
    let least : c.min.result ≡ min (get_or starts (level_of c.args.timer) 0) (bucket_start c.args.timer) =
    c.min.ensures ∙ ap (λ k. min (get_or starts k 0) c.spot-spot.result.start) at ∙ ap (λ k. min (get_or starts (level_of c.args.timer) 0) k) c.spot-spot.ensures.start in
    let moved : set starts c.spot-spot.result.place.level c.min.result ≡ set starts (level_of c.args.timer) (min (get_or starts (level_of c.args.timer) 0) (bucket_start c.args.timer)) =
    ap (λ k. set starts k c.min.result) at ∙ ap (λ k. set starts (level_of c.args.timer) k) least in
    let low = c.spot-spot.ensures.level in
    let levels = c.self.invariant.levels in
    record {
      filed = c.put.ensures ∙ ap (λ xs. set xs c.args.id (Some c.number.result)) c.self.invariant.filed ∙ ap (set (map bucket_of timers) c.args.id) number ∙ sym (map-set bucket_of timers c.args.id (Some c.args.timer));
      counted = omega arith;
      fits = rw length-set c.self.invariant.fits;
      levels = length-set starts c.spot-spot.result.place.level c.min.result ∙ c.self.invariant.levels;
      start = λ level l. subst (λ (xs : List ℕ). StartFrom level (get_or xs level 0) (set timers c.args.id (Some c.args.timer))) (sym moved) (StartFrom-put starts timers c.args.id c.args.timer (omega arith) (omega arith) level (c.self.invariant.start level l));
    }
