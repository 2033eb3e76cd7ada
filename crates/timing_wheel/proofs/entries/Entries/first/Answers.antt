use Rattle.std.proofs.Common.{◌≡◌, ap, ◌∙◌, get_or, None, ℕ, Option, List}
use Rattle.timing_wheel.specs.declared.timer.Timer.{Timer}
use Rattle.timing_wheel.specs.Wait.{bucket_of}
use Rattle.timing_wheel.proofs.Slots.{bucket_at, IfNone-weaker}
use Rattle.timing_wheel.proofs.entries.Entries.first.Goals as goal

pub returns-clause-none : goal.returns-clause-none
returns-clause-none c =
    let same : c.self.inside.timers.items ≡ c.args.self.now = c.self.view_is in
    let at = λ (id : ℕ). ap (λ xs. get_or xs id None) c.self.invariant.filed ∙ bucket_at c.self.inside.timers.items id ∙ ap (λ (xs : List (Option Timer)). bucket_of (get_or xs id None)) same in
    IfNone-weaker c.first.result (λ h id e. h id (at id ∙ e)) c.first.ensures.none
