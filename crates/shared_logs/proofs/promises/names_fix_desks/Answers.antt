use Rattle.std.proofs.Common.{ℕ, List, [], ◌∷◌, ap}
use Rattle.purgatory.proofs.scans.Laws.{name_number, name_table}
use Rattle.shared_logs.proofs.promises.names_fix_desks.Goals as goal

abbrev head_or : ℕ → List ℕ → ℕ
head_or n [] = n
head_or n (x ∷ xs) = x

abbrev rest : List ℕ → List ℕ
rest [] = []
rest (x ∷ xs) = xs

pub returns-clause-part : goal.returns-clause-part
returns-clause-part c = λ a b e. name_number a.sources.high.table b.sources.high.table a.part b.part (ap rest e)

pub returns-clause-followers : goal.returns-clause-followers
returns-clause-followers c = λ a b e. ap (head_or 0) e

pub returns-clause-room : goal.returns-clause-room
returns-clause-room c = λ a b e. name_table a.sources.high.table b.sources.high.table a.part b.part (ap rest e)

pub returns-clause-gauge : goal.returns-clause-gauge
returns-clause-gauge c = λ a b e. name_number a.source.table b.source.table a.source.gauge b.source.gauge e

pub returns-clause-clock_room : goal.returns-clause-clock_room
returns-clause-clock_room c = λ a b e. name_table a.source.table b.source.table a.source.gauge b.source.gauge e
