use Rattle.std.proofs.Common.{◌≡◌, ◌++◌, length, map}
use Rattle.std.specs.Prelude.{All}
use Rattle.std.specs.Vec.Iter.{into_iter_items, into_iter_len}
use Rattle.partlog.specs.History.{History}
use Rattle.turn_lock.specs.declared.lock.TurnLock.{TurnLock}
use Rattle.turn_lock.specs.Locks.{lock_passes}
use Rattle.shared_logs.specs.declared.entries.LogEntry.{LogEntry}
use Rattle.shared_logs.specs.Desks.{PartView}
use Rattle.room_table.specs.Seats.{TableView}
use Rattle.purgatory.specs.Making.{AreFrom}
use Rattle.shared_logs.specs.Apart.{IsOfLocks}
use Rattle.shared_logs.specs.Gone.{AreOut, AreSourcesOf, HaveGone, IsNamed, followers_named}
use Rattle.shared_logs.proofs.closing.close_parts.Given as goal

abbrev pub invariant-loop-lock : goal.invariant-loop-lock
invariant-loop-lock l = record {
  len : into_iter_len l.lock-iterator ≡ length (into_iter_items l.lock-iterator);
  gone : HaveGone l.logs l.fn.hands l.hands;
  count : length l.hands ≡ length l.fn.hands;
  hands : All (IsOfLocks (into_iter_items l.lock-iterator)) l.hands;
  passes : All (λ (lock : TurnLock PartView LogEntry). lock_passes lock ≡ length l.fn.hands) (into_iter_items l.lock-iterator);
  out : AreOut (length l.fn.hands) l.logs;
  followers : map (λ (h : History). h.followers) l.logs ++ followers_named (into_iter_items l.lock-iterator) ≡ followers_named l.fn.locks.items;
  sources : (table : TableView) → AreFrom (IsNamed table) 0 l.fn.locks.items → AreFrom (IsNamed table) (length l.logs) (into_iter_items l.lock-iterator) × AreSourcesOf table l.logs l.sources;
}
