use Rattle.kwire.proofs.RequestLaws.{same_request, same_refusal, not_both, request_or_refusal}
use Rattle.kwire.proofs.promises.requests_are_one.Goals as goal

pub returns-clause-request : goal.returns-clause-request
returns-clause-request c = same_request

pub returns-clause-refusal : goal.returns-clause-refusal
returns-clause-refusal c = same_refusal

pub returns-clause-not_both : goal.returns-clause-not_both
returns-clause-not_both c = not_both

pub returns-clause-either : goal.returns-clause-either
returns-clause-either c = request_or_refusal
