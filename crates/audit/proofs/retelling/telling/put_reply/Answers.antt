use Rattle.std.proofs.Common.{ℕ, List, [], ◌∷◌, ◌++◌, ap, sym, ◌∙◌, append-nil}
use Rattle.std.specs.Prelude.{codes}
use Rattle.std.specs.Fmt.{decimal}
use Rattle.trace_file.specs.PrintedLine.{line_of, reply_line}
use Rattle.hex.specs.Hex.{encode_lower}
use Rattle.audit.proofs.Laws.{on_ok}
use Rattle.audit.proofs.retelling.Tellings.{replies_one}
use Rattle.audit.proofs.retelling.telling.put_reply.Goals as goal

pub returns : goal.returns
returns c =
    let before = c.args.out.now in
    let session = c.args.session in
    let reply = c.in_ok-reply.reply in
    on_ok c.put_reply_line.result c.put_reply_line.ensures.ok (λ e.
    replies_one c.args.teller.now.account.now session c.args.call.now reply before c.put_reply_line.new.out (sym c.is_answered.ensures ∙ c.if-not-is_answered.false) c.in_ok-reply.ensures.reply
    (e ∙ ap (λ (bytes : List ℕ). before ++ line_of (codes "reply" ∷ decimal session ∷ encode_lower bytes ∷ [])) (c.as_slice.ensures ∙ c.in_ok-frame.ensures)
    ∙ ap (λ (l : List ℕ). before ++ l) (sym (append-nil (reply_line session reply)))))
