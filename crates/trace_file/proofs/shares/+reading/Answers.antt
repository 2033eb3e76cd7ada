use Rattle.std.proofs.Common.{List, ◌∷◌, [], ◌++◌, Bor, ℕ, sym, subst}
use Rattle.std.specs.List.{AllZip}
use Rattle.std.proofs.lemmas.Result.{IfOk-at_ok}
use Rattle.trace_file.specs.Shares.{IsShareRead}
use Rattle.trace_file.proofs.Sharing.{one_more_read}
use Rattle.trace_file.proofs.shares.+reading.Goals as goal

pub returns : goal.returns
returns g t c =
    let front = c.pop.new.self.items in
    let before = IfOk-at_ok (λ reads. AllZip IsShareRead front reads.items) c.in_ok-reads.was c.join-read.ensures.second in
    subst (λ (shares : List (Bor (List ℕ))). AllZip IsShareRead shares c.push-2.new.self.items) (sym c.in-Some.ensures.items)
    (subst (AllZip IsShareRead (front ++ c.in-Some.last ∷ [])) (sym c.in_ok-push-2.ensures.items)
    (one_more_read front c.in_ok-reads.reads.items c.in-Some.last c.join-read.result.0 before c.join-read.ensures.first))
