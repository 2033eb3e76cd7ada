use Rattle.std.proofs.Common.{◌+◌, [], ◌∷◌, ◌++◌, arith, ◌∙◌, ap, sym}
use Rattle.std.proofs.lemmas.List.FromFn.{map-range_with_len_more}
use Rattle.partlog.specs.declared.in_sync.standing.Standing.{Standing}
use Rattle.partlog.specs.in_sync.Standings.{standing_of, standings_of}
use Rattle.partlog.proofs.in_sync.replicas.unfetched.Goals as goal

pub loop-preserved : goal.loop-preserved
loop-preserved c =
    c.in_ok-push.ensures.items
    ∙ ap (λ l. l ++ c.new.result ∷ []) c.loop.invariant
    ∙ ap (λ (s : Standing). (standings_of c.loop.counter []).followers ++ s ∷ []) c.new.ensures
    ∙ sym (map-range_with_len_more (standing_of (c.loop.counter + 1) []) 1 c.loop.counter (c.loop.counter + 1) (omega arith))
