use Rattle.std.proofs.Common.{ℕ, ◌≡◌, ◌↔◌, ◌⊎◌, get_or}
use Rattle.lone_broker.specs.index.Index.{IsWatching}
use Rattle.lone_broker.proofs.index.Firsts.{NamesFirst}
use Rattle.lone_broker.proofs.index.walk.list_all.Given as goal

abbrev pub invariant-loop-i : goal.invariant-loop-i
invariant-loop-i l = record {
  listed : (gauge id : ℕ) → IsWatching l.shelves gauge id (get_or l.live id 0)
      ↔ (IsWatching l.initial.shelves gauge id (get_or l.live id 0) ⊎ (NamesFirst l.i l.needs gauge × (id ≡ l.session)));
  within : (gauge id generation : ℕ) → IsWatching l.shelves gauge id generation
      → IsWatching l.initial.shelves gauge id generation ⊎ ((id ≡ l.session) × (generation ≡ get_or l.live l.session 0));
}
