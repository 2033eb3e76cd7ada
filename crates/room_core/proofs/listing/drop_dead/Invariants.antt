use Rattle.std.proofs.Common.{◌≡◌, All, length}
use Rattle.room_core.proofs.DeadEntries.{Dropped}
use Rattle.room_core.proofs.listing.drop_dead.Given as goal

abbrev pub invariant-loop-gauge : goal.invariant-loop-gauge
invariant-loop-gauge l =
    (length l.listing.items ≡ length l.fn.listing.items) ×
    (l.gauge-end ≡ length l.fn.listing.items) ×
    (l.pass ≡ l.fn.pass) ×
    All (λ row. length row.items ≡ l.fn.shape.passes) l.listing.items ×
    Dropped l.session l.pass l.gauge l.fn.listing.items l.listing.items
