use Rattle.std.proofs.Common.{Ok, Err}
use Rattle.shared_broker.proofs.KeptPass.{won_cut, won_last, won_stands, won_told}
use Rattle.shared_broker.proofs.broker.Broker.complete_won.Goals as goal

pub complete_call-requires-clause-waits : goal.complete_call-requires-clause-waits
complete_call-requires-clause-waits g c =
    let a = c.args in
    let w = c.requires.won in
    won_last a.self.now.config a.first a.won.now.parked.now a.won.now.done w.0 a.logs.now a.going.now w.1 c.in-Some.going c.in-Some.is c.as_mut_slice.result.now c.as_mut_slice.ensures.value c.len.result c.len.ensures c.in-Some-last_mut.call.now c.in-Some-last_mut.ensures.item.1

pub returns-in-Ok-clause-collected : goal.returns-in-Ok-clause-collected
returns-in-Ok-clause-collected g c before w =
    let a = c.args in
    won_told a.self.now.config a.first a.won.now.parked.now a.won.now.done before a.logs.now a.going.now w c.in-Some.going c.in-Some.is c.as_mut_slice.result.now c.as_mut_slice.ensures.value c.len.result c.len.ensures c.in-Some-last_mut.call.now c.in-Some-last_mut.ensures.item.1
    a.won.now.is_sent c.complete_call.new.logs c.complete_call.new.call c.in-Ok.frame c.in-Ok.ensures.finished

pub returns-in-Ok-clause-stands : goal.returns-in-Ok-clause-stands
returns-in-Ok-clause-stands g c before w =
    let a = c.args in
    won_stands a.self.now.config a.first a.won.now.parked.now a.won.now.done before a.logs.now a.going.now w c.in-Some.going c.in-Some.is c.as_mut_slice.result.now c.as_mut_slice.ensures.value c.len.result c.len.ensures c.in-Some-last_mut.call.now c.in-Some-last_mut.ensures.item.1
    a.won.now.is_sent c.complete_call.new.logs c.complete_call.new.call (Ok c.in-Ok.frame) c.in-Ok.ensures.finished c.complete_call.ensures.seen

pub returns-in-Err-clause-collected : goal.returns-in-Err-clause-collected
returns-in-Err-clause-collected g c before w =
    let a = c.args in
    won_cut a.self.now.config a.first a.won.now.parked.now a.won.now.done before a.logs.now a.going.now w c.in-Some.going c.in-Some.is c.as_mut_slice.result.now c.as_mut_slice.ensures.value c.len.result c.len.ensures c.in-Some-last_mut.call.now c.in-Some-last_mut.ensures.item.1
    a.won.now.is_sent c.complete_call.new.logs c.complete_call.new.call c.in-Err.field-0 c.in-Err.ensures.finished

pub returns-in-Err-clause-stands : goal.returns-in-Err-clause-stands
returns-in-Err-clause-stands g c before w =
    let a = c.args in
    won_stands a.self.now.config a.first a.won.now.parked.now a.won.now.done before a.logs.now a.going.now w c.in-Some.going c.in-Some.is c.as_mut_slice.result.now c.as_mut_slice.ensures.value c.len.result c.len.ensures c.in-Some-last_mut.call.now c.in-Some-last_mut.ensures.item.1
    a.won.now.is_sent c.complete_call.new.logs c.complete_call.new.call (Err c.in-Err.field-0) c.in-Err.ensures.finished c.complete_call.ensures.seen
