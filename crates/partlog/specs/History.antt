-- A partition as its log's bytes, its number of followers and its history, one entry for each accepted event.
use Rattle.std.specs.Prelude.{ℕ, List}
use Rattle.partlog.specs.declared.event.PartEvent.{PartEvent}

pub record History : Type 0 where
  pub log : List ℕ
  pub followers : ℕ
  pub events : List PartEvent
