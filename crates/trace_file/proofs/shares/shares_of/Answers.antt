use Rattle.std.proofs.Common.{List, ℕ, ◌++◌, Bor, sym, ap, ◌∙◌, append_assoc, length}
use Rattle.std.proofs.lemmas.List.{length_push}
use Rattle.trace_file.specs.Shares.{pieces_in}
use Rattle.trace_file.specs.Trace.{pieces_of}
use Rattle.trace_file.proofs.Sharing.{pieces_push, one_more}
use Rattle.trace_file.proofs.shares.shares_of.Goals as goal

pub loop-rest-preserved : goal.loop-rest-preserved
loop-rest-preserved c =
    let i = c.loop-rest.invariant in
    let shares = c.loop-rest.shares.items in
    let share = c.cut_after.result.0 in
    let after = c.cut_after.result.1.now in
    let size = c.div_ceil-size.result in
    let more = c.in_ok-push.ensures.items in
    let longer = ap (λ (l : List (Bor (List ℕ))). length l) more ∙ length_push shares share in
    record {
      pieces = ap (λ (l : List (Bor (List ℕ))). pieces_in l ++ pieces_of after) more ∙ ap (λ (ps : List (List ℕ)). ps ++ pieces_of after) (pieces_push shares share)
          ∙ append_assoc (pieces_in shares) (pieces_of share.now) (pieces_of after) ∙ ap (λ (ps : List (List ℕ)). pieces_in shares ++ ps) (sym c.cut_after.ensures.pieces) ∙ i.pieces;
      few = rw longer (one_more (length shares) size (length after) (length c.loop-rest.rest.now) (length c.args.text.now) i.few c.cut_after.ensures.shorter);
    }
