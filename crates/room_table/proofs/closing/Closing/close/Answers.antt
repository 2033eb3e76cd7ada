use Rattle.std.proofs.Common.{sym, subst}
use Rattle.room_table.specs.Closing.{AreAllBack}
use Rattle.room_table.specs.Handed.{AreShown}
use Rattle.room_table.proofs.closing.Closing.close.Goals as goal

pub words_by-requires : goal.words_by-requires
words_by-requires c = record { table = c.self.invariant.0; all = subst AreAllBack (sym c.self.view_is) c.requires }

pub returns : goal.returns
returns c = subst (λ v. AreShown v.table v.sources v.callers v.scanners c.words_by.result) c.self.view_is c.words_by.ensures
