use Rattle.kwire.proofs.FramesOnce.{frames_once}
use Rattle.kwire.proofs.promises.frames_are_one.Goals as goal

pub returns : goal.returns
returns c = frames_once
