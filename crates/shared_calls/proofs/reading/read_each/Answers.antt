use Rattle.std.proofs.Common.{◌≡◌, ◌≤◌, ◌∙◌, ◌<◌, ◌+◌, ◌-◌, All, List, [], ◌++◌, ap, arith, drop, length, length-drop, subst, sym, take}
use Rattle.std.proofs.lemmas.List.{length-take-le}
use Rattle.std.proofs.lemmas.List.Elements.{All-nil}
use Rattle.std.specs.List.{flat_map}
use Rattle.kanswer.specs.declared.accepted.Accepted.{Accepted}
use Rattle.kanswer.specs.declared.accepted.Reading.{Reading}
use Rattle.kanswer.specs.LogReadings.{HasCarriable}
use Rattle.kwire.specs.declared.request.FetchPart.{FetchPart}
use Rattle.kwire.specs.declared.request.FetchTopic.{FetchTopic}
use Rattle.kanswer.specs.BytesRead.{bytes_read}
use Rattle.kanswer.specs.PartitionGauges.{fetched_gauge}
use Rattle.shared_calls.specs.Fresh.{IsFresh}
use Rattle.shared_calls.specs.Readings.{WereRead}
use Rattle.shared_calls.proofs.Asked.{front_below, rest_below}
use Rattle.shared_calls.proofs.Looks.{stopped_among}
use Rattle.shared_calls.proofs.Readings.{read_none, read_on}
use Rattle.shared_calls.proofs.Telling.{on_err}
use Rattle.shared_calls.proofs.Topics.{parts_of, take_add, topic_parts, topic_size}
use Rattle.shared_calls.proofs.reading.read_each.Goals as goal

pub loop-topic-init : goal.loop-topic-init
loop-topic-init g c =
    let call = c.args.call.now.looking in
    let a = c.args.pass.now in
    let p = c.args.points.now in
    let budget = c.args.budget in
    let replica = c.args.call.now.replica in
    let fresh = IsFresh (fetched_gauge replica) call.needs.now call.values.now in
    let empty = c.new-readings.ensures in
    record {
      made = c.requires.made;
      rest = omega (arith, c.requires.size);
      read = subst (WereRead call.by.now.seq fresh replica [] a p [] budget a p budget) (sym empty) (read_none call.by.now.seq fresh replica a p budget);
      offsets = subst (All HasCarriable) (sym empty) (All-nil HasCarriable);
      size = ap (λ (rs : List Reading). length rs) empty;
      room = omega (arith, ap bytes_read empty);
    }

pub read_topic-requires-clause-there : goal.read_topic-requires-clause-there
read_topic-requires-clause-there g c =
    let l = c.loop-topic in
    let n = length c.args.call.now.looking.by.now.logs.now.parts in
    front_below n (l.from + c.len.result - l.from) (drop l.from c.args.accepted.now) (rest_below n l.from c.args.accepted.now c.requires.there)

pub returns-in_err-read_topic-clause-stopped : goal.returns-in_err-read_topic-clause-stopped
returns-in_err-read_topic-clause-stopped g c =
    let call = c.args.call.now.looking in
    let a = c.args.pass.now in
    let p = c.args.points.now in
    let xs = c.args.accepted.now in
    let l = c.loop-topic in
    let new = c.read_topic.new in
    let replica = c.args.call.now.replica in
    let fresh = IsFresh (fetched_gauge replica) call.needs.now call.values.now in
    let read = l.invariant.read in
    let stopped = stopped_among call.by.now.seq fresh a l.pass new.pass p l.points new.points xs l.from (l.from + c.len.result - l.from) read.states read.looked c.in_err-read_topic.ensures.stopped in
    on_err c.from_residual.result stopped

pub loop-topic-preserved : goal.loop-topic-preserved
loop-topic-preserved g c =
    let call = c.args.call.now.looking in
    let a = c.args.pass.now in
    let p = c.args.points.now in
    let xs = c.args.accepted.now in
    let topics = c.args.topics.now in
    let budget = c.args.budget in
    let l = c.loop-topic in
    let i = l.topic-index in
    let n = c.len.result in
    let new = c.read_topic.new in
    let t = c.topic-item.result in
    let d = c.in_ok-read_topic.ensures in
    let replica = c.args.call.now.replica in
    let fresh = IsFresh (fetched_gauge replica) call.needs.now call.values.now in
    let lt : i < length topics = c.loop-topic-test.true in
    let parts = ap (λ (topic : FetchTopic). topic.parts) c.topic.view_is in
    let items = c.as_slice-asked.result.now in
    let same : items ≡ t.parts = c.as_slice-asked.ensures ∙ parts in
    let more = d.read.0 in
    let both = read_on call.by.now.seq fresh replica a l.pass new.pass p l.points new.points (take l.from xs) (take (l.from + n - l.from) (drop l.from xs)) l.readings more (flat_map parts_of (take i topics)) items budget l.budget new.budget
    l.invariant.read d.read.2 in
    let front : take l.from xs ++ take (l.from + n - l.from) (drop l.from xs) ≡ take (l.from + n) xs =
    ap (λ k. take l.from xs ++ take k (drop l.from xs)) (omega arith) ∙ sym (take_add l.from n xs) in
    let named : flat_map parts_of (take i topics) ++ items ≡ flat_map parts_of (take (i + 1) topics) =
    ap (λ (ps : List FetchPart). flat_map parts_of (take i topics) ++ ps) same ∙ sym (topic_parts topics i t lt c.topic-item.is) in
    let by_front = subst (λ (ys : List Accepted). WereRead call.by.now.seq fresh replica (flat_map parts_of (take i topics) ++ items) a p ys budget new.pass new.points new.budget (l.readings ++ more)) front both in
    let by_named = subst (λ (ps : List FetchPart). WereRead call.by.now.seq fresh replica ps a p (take (l.from + n) xs) budget new.pass new.points new.budget (l.readings ++ more)) named by_front in
    let rest = l.invariant.rest in
    let topic = topic_size topics i t lt c.topic-item.is in
    let long = ap length parts in
    let within : l.from + n - l.from ≤ length (drop l.from xs) = omega (arith, topic, c.len.ensures, long, rest, length-drop l.from xs) in
    record {
      made = d.made;
      rest = omega (arith, topic, c.len.ensures, long, rest);
      read = subst (WereRead call.by.now.seq fresh replica (flat_map parts_of (take (i + 1) topics)) a p (take (l.from + n) xs) budget new.pass new.points new.budget) (sym d.read.1) by_named;
      offsets = d.offsets l.invariant.offsets;
      size = omega (arith, d.size, l.invariant.size, length-take-le (l.from + n - l.from) (drop l.from xs) within);
      room = omega (arith, d.room, l.invariant.room);
    }
