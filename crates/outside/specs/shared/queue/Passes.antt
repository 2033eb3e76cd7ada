-- The passes of a new queue, and what each call makes of a pass.
use Rattle.std.specs.Prelude.{◌+◌, ◌-◌, [], ◌∷◌, ◌++◌}
use Rattle.outside.specs.declared.shared.queue.numbered.Numbered.{Numbered}
use Rattle.outside.specs.declared.shared.queue.queue_pass.TheConstants.{PARTS}
use Rattle.outside.specs.shared.queue.QueueViews.{PassView, QueueView}

module _ {L : Type 0} where
  -- it has every part, and has put and taken nothing
  abbrev pub first_pass : QueueView → PassView L
  first_pass queue = record { made = queue.id; parts = PARTS; put = []; taken = [] }

  -- it has one part, and has put and taken nothing
  abbrev pub part_pass : QueueView → PassView L
  part_pass queue = record { made = queue.id; parts = 1; put = []; taken = [] }

  -- one part was given away
  abbrev pub lesser : PassView L → PassView L
  lesser pass = record { made = pass.made; parts = pass.parts - 1; put = pass.put; taken = pass.taken }

  -- it put one more
  abbrev pub put_by : PassView L → Numbered L → PassView L
  put_by pass item = record { made = pass.made; parts = pass.parts; put = pass.put ++ item ∷ []; taken = pass.taken }

  -- it took one more
  abbrev pub taken_by : PassView L → Numbered L → PassView L
  taken_by pass item = record { made = pass.made; parts = pass.parts; put = pass.put; taken = pass.taken ++ item ∷ [] }

  -- all that the other has is its own too
  abbrev pub joined : PassView L → PassView L → PassView L
  joined pass other = record { made = pass.made; parts = pass.parts + other.parts; put = pass.put ++ other.put; taken = pass.taken ++ other.taken }
