-- How far the offsets of a log reach, and how many bytes its batches have.
use Rattle.std.proofs.Common.{◌≤◌, arith}
use Rattle.partlog.specs.Gauges.{bytes_in, numbers_of}
use Rattle.partlog.specs.History.{History}
use Rattle.partlog.specs.Kept.{IsKept}
use Rattle.partlog.specs.State.{state_of}
use Rattle.partlog.proofs.Laws.{high-within, log_end-le-bytes}
use Rattle.kanswer.proofs.Laws.{log_bytes}

pub high_bounded : (h : History) → IsKept h.log h.events → (numbers_of (state_of h)).high ≤ 67108864
high_bounded h kept = omega (arith, high-within h.followers h.events, log_end-le-bytes h.events kept.dense, kept.whole, kept.bounded)

pub batches_bounded : (h : History) → IsKept h.log h.events → bytes_in (state_of h).batches ≤ 67108864
batches_bounded h kept = omega (arith, log_bytes h kept, kept.bounded)
