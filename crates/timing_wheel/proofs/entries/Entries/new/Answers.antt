use Rattle.std.proofs.Common.{rules, ◌≡◌, ap, sym, ◌∙◌, replicate, None, map, length, arith}
use Rattle.timing_wheel.specs.Timers.{listed}
use Rattle.timing_wheel.specs.Wait.{bucket_of}
use Rattle.timing_wheel.proofs.Starts.{StartFrom-none}
use Rattle.timing_wheel.proofs.Slots.{map_none, listed-none}
use Rattle.timing_wheel.proofs.entries.Entries.new.Goals as goal

pub invariant_of-result : goal.invariant_of-result
invariant_of-result c =
    let timers : c.in_ok-timers.timers.items ≡ replicate c.args.ids None = search rules in
    let long : length c.in_ok-timers.timers.items ≡ c.args.ids = search rules in
    record {
      filed = c.in_ok-buckets.ensures ∙ map_none c.args.ids ∙ ap (map bucket_of) (sym timers);
      counted = sym (ap listed timers ∙ listed-none c.args.ids);
      fits = omega arith;
      levels = search rules;
      start = λ level low. rw timers (StartFrom-none level _ c.args.ids);
    }
