use Rattle.link_lanes.proofs.books.Closed.{served, ticks}
use Rattle.link_lanes.proofs.books.promises.books_are_served.Goals as goal

pub returns-clause-served : goal.returns-clause-served
returns-clause-served c = served

pub returns-clause-ticks : goal.returns-clause-ticks
returns-clause-ticks c = λ broker books account given moment retired h told. ticks broker books account given retired h moment told
