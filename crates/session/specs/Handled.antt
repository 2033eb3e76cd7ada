-- The frames of calls at the front of an input.
use Rattle.std.specs.Prelude.{◌≡◌, ◌++◌, ℕ, List}
use Rattle.std.specs.List.{AllByRecursion, flat_map}
use Rattle.audit.specs.declared.account.Call.{Call}
use Rattle.kwire.specs.Frames.{IsFrameBody, framed}

-- the frames of the calls stand at the front of the input, one after the other, and these bytes after them
pub record HasFrames (input : List ℕ) (calls : List Call) (rest : List ℕ) : Type 0 where
  pub frames : input ≡ flat_map (λ call. framed call.frame) calls ++ rest
  pub each : AllByRecursion (λ call. IsFrameBody call.frame) calls
