use Rattle.std.proofs.Common.{◌≢◌, ℕ, zero, suc, List, sym, subst, arith}
use Rattle.std.specs.Prelude.{AllPairs}
use Rattle.kwire.specs.IsRequest.{IsRequest}
use Rattle.audit.specs.IsLawful.{IsLawful}
use Rattle.audit.specs.Printable.{IsPrintable}
use Rattle.audit.specs.Printed.{transcripts_of}
use Rattle.audit.specs.Worked.{three_waits, fetch_one, fetch_both}
use Rattle.audit.specs.retelling.Tellable.{IsTellable}
use Rattle.tests_of_libraries.specs.declared.accounts.TheConstants.{FETCH_ONE, FETCH_BOTH}
use Rattle.tests_of_libraries.proofs.accounts.tellable.Goals as goal

numbered_apart : (one both : List ℕ) → AllPairs (λ a b. a.number ≢ b.number) (transcripts_of (three_waits one both))
numbered_apart one both zero zero d lt within = absurd (omega (arith, lt))
numbered_apart one both zero (suc zero) d lt within = λ e. absurd (omega (arith, e))
numbered_apart one both zero (suc (suc zero)) d lt within = λ e. absurd (omega (arith, e))
numbered_apart one both zero (suc (suc (suc j))) d lt within = absurd (omega (arith, within))
numbered_apart one both (suc zero) zero d lt within = absurd (omega (arith, lt))
numbered_apart one both (suc zero) (suc zero) d lt within = absurd (omega (arith, lt))
numbered_apart one both (suc zero) (suc (suc zero)) d lt within = λ e. absurd (omega (arith, e))
numbered_apart one both (suc zero) (suc (suc (suc j))) d lt within = absurd (omega (arith, within))
numbered_apart one both (suc (suc i)) j d lt within = absurd (omega (arith, lt, within))

told : (one both : List ℕ) → IsLawful (three_waits one both) → IsTellable (three_waits one both)
told one both lawful = record {
  printable = record {
    lawful = lawful;
    told = (λ e. absurd cc, ((λ e. absurd cc), ((λ e. absurd cc), tt)));
    once = numbered_apart one both;
  };
  numbered = (omega arith, (omega arith, (omega arith, tt)));
}

-- the two bodies spell out the two requests
pub returns-clause-told : goal.returns-clause-told
returns-clause-told c =
    let one : IsRequest FETCH_ONE fetch_one = c.worked_requests.ensures.one in
    let both : IsRequest FETCH_BOTH fetch_both = c.worked_requests.ensures.both in
    subst IsTellable (sym c.in_ok-account.ensures) (told FETCH_ONE FETCH_BOTH (c.worked_account.ensures.lawful FETCH_ONE FETCH_BOTH one both))

pub returns-clause-printed : goal.returns-clause-printed
returns-clause-printed c =
    let one : IsRequest FETCH_ONE fetch_one = c.worked_requests.ensures.one in
    let both : IsRequest FETCH_BOTH fetch_both = c.worked_requests.ensures.both in
    subst IsPrintable (sym c.in_ok-account.ensures) (told FETCH_ONE FETCH_BOTH (c.worked_account.ensures.lawful FETCH_ONE FETCH_BOTH one both)).printable
