-- The one-thread broker between two lines: nothing that waits is answerable, and no session has anything to do.
use Rattle.std.specs.Prelude.{◌≡◌, false, None}
use Rattle.std.specs.List.{AllByRecursion}
use Rattle.audit.specs.broker.Board.{Board}
use Rattle.audit.specs.broker.Completing.{is_answerable_now}
use Rattle.audit.specs.broker.Acting.{next_to_act}

pub record IsAtRest (board : Board) : Type 0 where
  pub waits : AllByRecursion (λ w. is_answerable_now board w ≡ false) board.waiting
  pub idle : next_to_act board ≡ None
