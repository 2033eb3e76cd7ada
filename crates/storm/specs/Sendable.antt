-- A request of a load that can be sent as a frame.
use Rattle.std.specs.Prelude.{ℕ, ◌<◌, ◌^◌, length}
use Rattle.kbytes.specs.Field.{fields}
use Rattle.kwire.specs.declared.request.Ask.{Ask}
use Rattle.kwire.specs.IsRequest.{IsWhole, request_fields}
use Rattle.storm.specs.Requests.{request_with}

pub record IsSendable (i : ℕ) (ask : Ask) : Type 0 where
  pub whole : IsWhole (fields (request_fields (request_with i ask))) (request_with i ask)
  pub short : length (fields (request_fields (request_with i ask))) < 2 ^ 31
