-- The passes of new logs.
use Rattle.std.specs.Prelude.{ℕ, List, [], map}
use Rattle.std.specs.List.{range_with_len}
use Rattle.audit.specs.broker.Board.{empty_history}
use Rattle.room_table.specs.Handed.{fresh_caller}
use Rattle.shared_logs.specs.Shared.{LogPassView, SharedView, followers_in}

-- a pass that has made no step and seen nothing
abbrev pub fresh_pass : SharedView → ℕ → LogPassView
fresh_pass shared number = record {
  number = number;
  made = shared;
  seat = fresh_caller shared.room.table number;
  parts = map empty_history (followers_in shared);
  clock = [];
  ticked = [];
}

-- by their numbers
abbrev pub fresh_log_passes : SharedView → ℕ → List LogPassView
fresh_log_passes shared passes = map (fresh_pass shared) (range_with_len 0 passes)
