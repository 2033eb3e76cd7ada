use Rattle.lone_broker.proofs.Seats.{last_shown}
use Rattle.lone_broker.proofs.desk.Desk.last_frame.Goals as goal

pub returns-in-Some-last : goal.returns-in-Some-last
returns-in-Some-last c =
    last_shown c.args.self.now _ c.in-Some.transcript c.as_slice.result.now c.in-Some-last.call.now c.as_slice-in-Some-last.result.now c.self.view_is c.in-Some.is c.as_slice.ensures c.in-Some-last.ensures.value c.as_slice-in-Some-last.ensures
