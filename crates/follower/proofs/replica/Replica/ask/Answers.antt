use Rattle.follower.proofs.Requests.{asked_whole}
use Rattle.follower.proofs.replica.Replica.ask.Goals as goal

pub request_bytes-requires-clause-whole : goal.request_bytes-requires-clause-whole
request_bytes-requires-clause-whole c = rw c.in_ok-request.ensures.request (asked_whole c.args.self.now _ c.in_ok-request.ensures.fits)
