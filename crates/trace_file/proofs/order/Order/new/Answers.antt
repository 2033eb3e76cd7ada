use Rattle.std.proofs.Common.{refl, false}
use Rattle.std.proofs.lemmas.List.{get_or-replicate, length-replicate}
use Rattle.trace_file.proofs.order.Order.new.Goals as goal

pub returns : goal.returns
returns c = record {
  ended = refl;
  begun = refl;
  moment = refl;
  room = length-replicate 64 false;
  closed = λ session lt. get_or-replicate 64 session false false lt;
}
