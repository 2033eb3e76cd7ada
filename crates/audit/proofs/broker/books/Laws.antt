-- What the crates above may cite.

-- ---- a book

-- that of a pass that has done nothing, and how it goes on between calls
pub use Rattle.audit.proofs.broker.books.Opening.{opened}
pub use Rattle.audit.proofs.broker.books.Underways.{begun, ended, others_came, taken_out}
-- what comes between two turns of a pass is others'
pub use Rattle.audit.proofs.broker.books.Coming.{clock_came, clock_histories, events_of_others, others_behind, others_grown, others_within, part_came, part_histories}
-- and changes nothing that it knows, between its calls or amid one
pub use Rattle.audit.proofs.broker.books.Passing.{others_amid_accepting, others_amid_delayed, others_amid_finishing, others_between, ticked}
pub use Rattle.audit.proofs.broker.books.Growing.{as_many, owner_seen, owner_stands}
-- ---- amid a call

-- its number, and with its end told otherwise
pub use Rattle.audit.proofs.broker.books.Underways.{is_seq, others_underway, underway_as}
-- it is written down, accepted decision by decision, answered at once or delayed, or cut off
pub use Rattle.audit.proofs.broker.books.Acceptings.{accepting_as, accepting_cut, accepting_delayed, accepting_on, accepting_refused, answered_book, called_accepting, others_accepting}
-- it waits, is won, looks at the clock and the partitions, and is satisfied or expires, or is cut off
pub use Rattle.audit.proofs.broker.books.Finishings.{delayed_as, delayed_cut, delayed_parked, others_delayed, waits_delayed}
pub use Rattle.audit.proofs.broker.books.Finishings.{finishing_as, finishing_cut, finishing_expired, finishing_late, finishing_on, finishing_satisfied, finishing_won, others_finishing, shown_completed}
-- each entry in the turn of its partition
pub use Rattle.audit.proofs.broker.books.Turning.{accepting_turn, finishing_turn}
-- its reply
pub use Rattle.audit.proofs.broker.books.Replying.{answered_reply, expired_reply, satisfied_reply}
-- how many calls each winner completed
pub use Rattle.audit.proofs.broker.books.Winning.{won_all, won_amid, won_begun, won_ended}
-- ---- all books

-- one goes with final histories that others alone left behind what it saw, and every entry is of a pass that there is
pub use Rattle.audit.proofs.broker.books.Passing.{all_entries_known, all_known, goes_with}
pub use Rattle.audit.proofs.broker.books.Closing.{books_lawful, calls_with}
