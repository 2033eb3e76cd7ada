-- How many bytes of records a reading has, within what the reply may still take.
use Rattle.std.proofs.Common.{ℕ, ◌+◌, ◌≤◌, ℤ, List, length, arith}
use Rattle.kanswer.proofs.Laws.{log_bytes}
use Rattle.kanswer.specs.declared.accepted.Accepted.TheVariants.{Seen}
use Rattle.kanswer.specs.declared.accepted.Budget.{Budget}
use Rattle.kwire.specs.declared.request.FetchPart.{FetchPart}
use Rattle.partlog.specs.declared.numbers.Numbers.{Numbers}
use Rattle.partlog.specs.Gauges.{bytes_in}
use Rattle.partlog.specs.State.{state_of}
use Rattle.audit.specs.broker.Board.{history_at}
use Rattle.kanswer.proofs.Laws.{seen_room}
use Rattle.kanswer.specs.BytesRead.{most_left}
use Rattle.shared_logs.specs.Asked.{HasRead}
use Rattle.shared_logs.specs.Seen.{HasSeen}
use Rattle.shared_logs.specs.Shared.{LogPassView}

pub read_room : (pass : LogPassView) (part place start : ℕ) (replica : ℤ) (asked : FetchPart) (numbers : Numbers) (records : List ℕ) (before after : Budget) → HasSeen pass
    → HasRead replica asked (Seen part start) (state_of (history_at pass.parts place)) numbers records before after → length records + most_left after ≤ most_left before
read_room pass part place start replica asked numbers records before after seen h =
    let log = history_at pass.parts place in
    let kept = seen.kept place in
    let few : bytes_in (state_of log).batches ≤ 67108864 = omega (arith, log_bytes log kept, kept.bounded) in
    seen_room replica asked start (state_of log) before after records few h.read.1 h.lowered
