use Rattle.std.proofs.Common.{◌≡◌, ◌++◌, length, take}
use Rattle.kanswer.specs.Results.{parts_asked}
use Rattle.audit.specs.broker.Completing.{look_all}
use Rattle.lone_broker.proofs.completing.look_at_parts.Given as goal

abbrev pub invariant-loop-became : goal.invariant-loop-became
invariant-loop-became l = record {
  size : length l.parts ≡ length l.fn.parts;
  parts : l.parts ≡ (look_all l.who.by l.who.seq (parts_asked (take l.became-index l.accepted)) l.fn.parts).1;
  points : l.finish ≡ l.fn.finish ++ (look_all l.who.by l.who.seq (parts_asked (take l.became-index l.accepted)) l.fn.parts).0;
}
