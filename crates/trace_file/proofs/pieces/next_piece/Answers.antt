use Rattle.trace_file.proofs.Cuts.{pieces_of-cut}
use Rattle.trace_file.proofs.pieces.next_piece.Goals as goal

pub returns-in-Some-clause-piece : goal.returns-in-Some-clause-piece
returns-in-Some-clause-piece c = pieces_of-cut c.args.text.now c.in-Some.piece.now c.in-Some.after.now c.in-Some.ensures.front
