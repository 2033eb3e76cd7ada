use Rattle.kwire.proofs.FramesOnce.{in_pieces}
use Rattle.kwire.proofs.promises.frames_in_pieces.Goals as goal

pub returns : goal.returns
returns c = in_pieces
