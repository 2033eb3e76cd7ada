use Rattle.std.proofs.Common.{subst, sym}
use Rattle.std.proofs.lemmas.Result.{on_err_weaker, on_ok_weaker}
use Rattle.std.proofs.KnownBytes.{Appends-trans}
use Rattle.std.specs.Io.KnownBytes.{Appends}
use Rattle.hex.specs.Hex.{encode_lower, lower_digits}
use Rattle.trace_file.proofs.Laws.{encode_with-append}
use Rattle.commands.specs.Streams.{HasWrittenFront}
use Rattle.commands.proofs.Writes.{front_first, front_then, on_any_err}
use Rattle.commands.proofs.printing.write_both.Goals as goal

pub returns-in_err-write_digits-clause-front : goal.returns-in_err-write_digits-clause-front
returns-in_err-write_digits-clause-front g c =
    let old = g.K.Sink.written c.args.sink.now in
    let new = g.K.Sink.written c.write_digits.new.sink in
    let head = c.args.head.now in
    let tail = c.args.tail.now in
    on_any_err c.from_residual.result _
    (subst (HasWrittenFront old new) (sym (encode_with-append lower_digits head tail)) (front_first old new (encode_lower head) (encode_lower tail) c.in_err-write_digits.ensures.front))

pub returns-clause-written : goal.returns-clause-written
returns-clause-written g c =
    let old = g.K.Sink.written c.args.sink.now in
    let between = g.K.Sink.written c.write_digits.new.sink in
    let new = g.K.Sink.written c.write_digits-2.new.sink in
    let head = c.args.head.now in
    let tail = c.args.tail.now in
    on_ok_weaker c.write_digits-2.result
    (λ written. subst (Appends old new) (sym (encode_with-append lower_digits head tail)) (Appends-trans old between new (encode_lower head) (encode_lower tail) c.in_ok-write_digits.ensures.written written))
    c.write_digits-2.ensures.written

pub returns-clause-front : goal.returns-clause-front
returns-clause-front g c =
    let old = g.K.Sink.written c.args.sink.now in
    let between = g.K.Sink.written c.write_digits.new.sink in
    let new = g.K.Sink.written c.write_digits-2.new.sink in
    let head = c.args.head.now in
    let tail = c.args.tail.now in
    on_err_weaker c.write_digits-2.result
    (λ front. subst (HasWrittenFront old new) (sym (encode_with-append lower_digits head tail))
    (front_then old between new (encode_lower head) (encode_lower tail) c.in_ok-write_digits.ensures.written front))
    c.write_digits-2.ensures.front
