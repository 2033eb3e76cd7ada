use Rattle.audit.proofs.Laws.{on_ok}
use Rattle.lone_broker.proofs.Answering.{answers}
use Rattle.lone_broker.proofs.engine.Engine.complete.Goals as goal

pub returns-clause-answers : goal.returns-clause-answers
returns-clause-answers c =
    on_ok c.finish.result c.finish.ensures.finished (λ finishes.
    answers c.args.self.now c.finish.new.self c.args.session c.args.how c.in_ok-reply.reply c.as_slice.result.now c.args.out.now c.put_reply_line.new.out c.requires.due c.in_ok-reply.ensures c.as_slice.ensures c.in_ok-put_reply_line.ensures.ok finishes)
