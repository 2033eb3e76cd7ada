-- What makes the frames of a load's requests, one after the other.
use Rattle.std.specs.Prelude.{ℕ, List}

-- the state of the generator, and the frame that was made last
pub record FramesView : Type 0 where
  pub state : ℕ
  pub frame : List ℕ
