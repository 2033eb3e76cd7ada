use Rattle.std.proofs.Common.{◌≡◌, ℕ, ◌+◌, ◌<◌, Bool, true, false, List, Option, get_or, leb, refl, subst, arith}
use Rattle.std.specs.Bool.{OnFalse}
use Rattle.std.proofs.lemmas.Bool.{leb-false}
use Rattle.timing_wheel.specs.declared.timer.Timer.{Timer}
use Rattle.timing_wheel.specs.Filed.{StartFrom}
use Rattle.timing_wheel.proofs.Starts.{StartFrom-earlier}
use Rattle.timing_wheel.proofs.entries.Entries.may_start.Goals as goal

off : (b : Bool) (P : Type 0) → (b ≡ false → P) → OnFalse b P
off true P h = tt
off false P h = h refl

pub returns : goal.returns
returns c =
    let start = get_or c.self.inside.starts c.args.level 0 in
    let P = λ (slots : List (Option Timer)). StartFrom c.args.level (c.args.t + 1) slots in
    off (leb start c.args.t) (P c.args.self.now) (λ e.
    let l = leb-false start c.args.t e in
    subst P c.self.view_is (StartFrom-earlier c.args.level start (c.args.t + 1) c.self.inside.timers.items (c.self.invariant.start c.args.level c.requires) (omega arith)))
