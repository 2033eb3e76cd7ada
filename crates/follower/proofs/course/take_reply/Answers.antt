use Rattle.std.proofs.Common.{drop, refl}
use Rattle.std.specs.Int.{w32}
use Rattle.std.proofs.lemmas.Int.{to_z_pos}
use Rattle.follower.proofs.Going.{refused_front}
use Rattle.follower.proofs.course.take_reply.Goals as goal

pub returns-in-Err : goal.returns-in-Err
returns-in-Err c = record {
  taken = tt;
  refused = refused_front c.end_by.result c.in-Err.fault c.args.round c.args.replica.now c.args.intake.now.inbox c.body.result.now (drop c.args.end c.args.intake.now.inbox) c.end_by.ensures
      c.body.ensures.parts c.body.ensures.small (λ memory. rw (to_z_pos w32 c.args.round c.requires.few) at ((c.in-Err.ensures.refused c.in-Err.fault memory).0 refl));
  same = c.in-Err.ensures.unchanged;
}
