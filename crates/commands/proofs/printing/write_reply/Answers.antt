use Rattle.std.proofs.Common.{◌++◌, ◌∷◌, [], subst, sym}
use Rattle.std.proofs.lemmas.Result.{on_err_weaker}
use Rattle.hex.specs.Hex.{encode_lower}
use Rattle.commands.specs.Streams.{HasWrittenFront, line_head}
use Rattle.commands.proofs.Writes.{front_first, front_then, line_cut, on_any_err}
use Rattle.commands.proofs.printing.write_reply.Goals as goal

pub returns-in_err-write_head-clause-front : goal.returns-in_err-write_head-clause-front
returns-in_err-write_head-clause-front g c =
    let old = g.K.Sink.written c.args.sink.now in
    let new = g.K.Sink.written c.write_head.new.sink in
    let frame = (c.args.head.now ++ c.args.tail.now) in
    on_any_err c.from_residual.result _
    (subst (HasWrittenFront old new) (sym (line_cut c.args.session frame)) (front_first old new (line_head c.args.session) (encode_lower frame ++ 10 ∷ []) c.in_err-write_head.ensures.front))

pub returns-in_err-write_both-clause-front : goal.returns-in_err-write_both-clause-front
returns-in_err-write_both-clause-front g c =
    let old = g.K.Sink.written c.args.sink.now in
    let headed = g.K.Sink.written c.write_head.new.sink in
    let new = g.K.Sink.written c.write_both.new.sink in
    let frame = (c.args.head.now ++ c.args.tail.now) in
    let digits = encode_lower frame in
    on_any_err c.from_residual-in_err-write_both.result _
    (subst (HasWrittenFront old new) (sym (line_cut c.args.session frame))
    (front_then old headed new (line_head c.args.session) (digits ++ 10 ∷ []) c.in_ok-write_head.ensures.written (front_first headed new digits (10 ∷ []) c.in_err-write_both.ensures.front)))

pub returns-clause-front : goal.returns-clause-front
returns-clause-front g c =
    let old = g.K.Sink.written c.args.sink.now in
    let headed = g.K.Sink.written c.write_head.new.sink in
    let told = g.K.Sink.written c.write_both.new.sink in
    let new = g.K.Sink.written c.write_all.new.sink in
    let frame = (c.args.head.now ++ c.args.tail.now) in
    let digits = encode_lower frame in
    on_err_weaker c.write_all.result
    (λ front. subst (HasWrittenFront old new) (sym (line_cut c.args.session frame))
    (front_then old headed new (line_head c.args.session) (digits ++ 10 ∷ []) c.in_ok-write_head.ensures.written
    (front_then headed told new digits (10 ∷ []) c.in_ok-write_both.ensures.written (subst (HasWrittenFront told new) c.as_slice.ensures front))))
    c.write_all.ensures.front
