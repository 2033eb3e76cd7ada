-- What a pass is after it asked the clock.
use Rattle.std.specs.Prelude.{◌≡◌, ◌≤◌, ℕ, List, ◌++◌}
use Rattle.turn_lock.specs.StartsWith.{StartsWith}
use Rattle.outside.specs.declared.shared.clock.told_moment.ToldMoment.{ToldMoment}
use Rattle.outside.specs.shared.clock.ClockViews.{PassView}
use Rattle.outside.specs.shared.clock.Moments.{entry_of, greatest}

-- It was told this moment, which is no less than any that was told before, to it or to another. It entered the moment where it is above
-- all those.
pub record WasTold (moment : ℕ) (before after : PassView) : Type 0 where
  pub found : List ToldMoment
  pub goes_on : StartsWith found before.seen
  pub later : before.told ≤ moment
  pub above : greatest found ≤ moment
  pub after_is : after ≡ record {
    made = before.made;
    number = before.number;
    told = moment;
    seen = found ++ entry_of before.number moment found;
    own = before.own ++ entry_of before.number moment found;
  }

-- it saw what was told to others meanwhile: it was told nothing, and entered nothing
pub record HasSeen (before after : PassView) : Type 0 where
  pub goes_on : StartsWith after.seen before.seen
  pub after_is : after ≡ record {
    made = before.made;
    number = before.number;
    told = before.told;
    seen = after.seen;
    own = before.own;
  }
