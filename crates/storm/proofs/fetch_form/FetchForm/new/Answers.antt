use Rattle.std.proofs.Common.{◌∙◌, ap, pos}
use Rattle.storm.specs.Formed.{frame_with}
use Rattle.storm.proofs.fetch_form.FetchForm.new.Goals as goal

pub invariant_of-result : goal.invariant_of-result
invariant_of-result c = (0, 0, pos 0, 0, 0, 0, c.in_ok-first_frame.ensures ∙ ap (frame_with 0) c.in_ok-first_ask.ensures.is)
