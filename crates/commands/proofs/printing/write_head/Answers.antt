use Rattle.std.proofs.Common.{◌++◌, ◌∷◌, ◌∙◌, [], codes, subst}
use Rattle.std.proofs.lemmas.Result.{on_err_weaker}
use Rattle.std.specs.Fmt.{decimal}
use Rattle.std.specs.Io.KnownBytes.{Appends}
use Rattle.commands.specs.Streams.{HasWrittenFront}
use Rattle.commands.proofs.Writes.{front_first, front_then, on_any_err}
use Rattle.commands.proofs.printing.write_head.Goals as goal

pub returns-in_err-write_all-clause-front : goal.returns-in_err-write_all-clause-front
returns-in_err-write_all-clause-front g c =
    let old = g.K.Sink.written c.args.sink.now in
    let new = g.K.Sink.written c.write_all.new.sink in
    on_any_err c.from_residual.result _
    (front_first old new (codes "reply ") (decimal c.args.session ++ 32 ∷ []) (subst (HasWrittenFront old new) c.as_slice.ensures c.in_err-write_all.ensures.front))

pub returns-in_err-write_all-2-clause-front : goal.returns-in_err-write_all-2-clause-front
returns-in_err-write_all-2-clause-front g c =
    let old = g.K.Sink.written c.args.sink.now in
    let named = g.K.Sink.written c.write_all.new.sink in
    let new = g.K.Sink.written c.write_all-2.new.sink in
    let number = decimal c.args.session in
    on_any_err c.from_residual-in_err-write_all-2.result _
    (front_then old named new (codes "reply ") (number ++ 32 ∷ []) (subst (Appends old named) c.as_slice.ensures c.in_ok-write_all.ensures.written)
    (front_first named new number (32 ∷ []) (subst (HasWrittenFront named new) (c.as_bytes.ensures.value ∙ c.format.ensures.text) c.in_err-write_all-2.ensures.front)))

pub returns-clause-front : goal.returns-clause-front
returns-clause-front g c =
    let old = g.K.Sink.written c.args.sink.now in
    let named = g.K.Sink.written c.write_all.new.sink in
    let numbered = g.K.Sink.written c.write_all-2.new.sink in
    let new = g.K.Sink.written c.write_all-3.new.sink in
    let number = decimal c.args.session in
    on_err_weaker c.write_all-3.result
    (λ front. front_then old named new (codes "reply ") (number ++ 32 ∷ []) (subst (Appends old named) c.as_slice.ensures c.in_ok-write_all.ensures.written)
    (front_then named numbered new number (32 ∷ []) (subst (Appends named numbered) (c.as_bytes.ensures.value ∙ c.format.ensures.text) c.in_ok-write_all-2.ensures.written)
    (subst (HasWrittenFront numbered new) c.as_slice-2.ensures front)))
    c.write_all-3.ensures.front
