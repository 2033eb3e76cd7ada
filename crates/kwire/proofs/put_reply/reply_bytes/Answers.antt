use Rattle.std.proofs.Common.{◌∙◌, ℤ, pos, [], ◌∷◌, ap, rules}
use Rattle.std.specs.Int.{w32}
use mir.Val.{SFits}
use Rattle.std.proofs.lemmas.Int.{to_z-of_z}
use Rattle.kbytes.specs.Field.{Int32, fields}
use Rattle.kwire.proofs.ReplyFrames.{frame_short}
use Rattle.kwire.proofs.put_reply.reply_bytes.Goals as goal

pub end_frame-requires-clause-most : goal.end_frame-requires-clause-most
end_frame-requires-clause-most c =
    let reply = c.args.reply.now in
    let fits : SFits w32 reply.correlation = search rules in
    let begun = c.in_ok-frame.ensures ∙ ap (λ (z : ℤ). fields (Int32 (pos 0) ∷ Int32 z ∷ [])) (to_z-of_z w32 reply.correlation fits) in
    frame_short reply c.in_ok-frame.frame c.put_told.new.out begun c.in_ok-put_told.ensures c.requires
