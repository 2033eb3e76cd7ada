-- A request that was accepted: what was decided of it was carried out, and what came of that stands for the states just after. What its reply
-- takes was read if one is made.
use Rattle.std.specs.Prelude.{◌≡◌, Bool, true, ℕ, List}
use Rattle.audit.specs.declared.account.Point.{Point}
use Rattle.kanswer.specs.Decisions.{Decision}
use Rattle.kanswer.specs.LogReadings.{AreReadings}
use Rattle.kanswer.specs.Numbered.{AreNumbers}
use Rattle.kanswer.specs.Waiting.{results_of}
use Rattle.kwire.specs.Configuration.{Configuration}
use Rattle.kwire.specs.declared.request.Request.{Request}
use Rattle.audit.specs.broker.Entering.{Noted, shown_of}
use Rattle.shared_logs.specs.Shared.{LogPassView}
use Rattle.shared_calls.specs.Came.{CameView}
use Rattle.shared_calls.specs.Carried.{HasCarried}

pub record WasAccepted (is_read : Bool) (config : Configuration) (seq : ℕ) (request : Request) (decisions : List Decision) (old : LogPassView) (before : List Point)
    (new : LogPassView) (after : List Point) (came : CameView) : Type 0 where
  pub noted : List Noted
  pub carried : HasCarried config seq decisions old before new after noted
  pub results : results_of (shown_of noted) ≡ came.accepted
  pub numbers : AreNumbers came.numbers (shown_of noted)
  pub readings : is_read ≡ true → AreReadings request.ask came.accepted came.readings (shown_of noted)
