use Rattle.kbytes.proofs.Octets.{IsBytes-take, IsBytes-drop}
use Rattle.kbytes.proofs.reader.Reader.next.Goals as goal

pub returns-clause-bytes : goal.returns-clause-bytes
returns-clause-bytes c = IsBytes-take _ _ (IsBytes-take _ _ (IsBytes-drop _ _ c.self.invariant.1))
