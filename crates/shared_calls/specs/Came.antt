-- What came of accepting a request: for each partition that it named so far what became of it, the numbers of its log just after, and what
-- the reply takes of it then.
use Rattle.std.specs.Prelude.{List}
use Rattle.partlog.specs.declared.numbers.Numbers.{Numbers}
use Rattle.kanswer.specs.declared.accepted.Accepted.{Accepted}
use Rattle.kanswer.specs.declared.accepted.Reading.{Reading}

pub record CameView : Type 0 where
  pub accepted : List Accepted
  pub numbers : List Numbers
  pub readings : List Reading
