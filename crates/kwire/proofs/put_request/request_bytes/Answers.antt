use Rattle.std.proofs.Common.{◌∙◌, arith}
use Rattle.kbytes.specs.Field.{fields}
use Rattle.kwire.specs.IsRequest.{request_fields}
use Rattle.kwire.proofs.BegunFrames.{frame_length, frame_of_body}
use Rattle.kwire.proofs.FewNamed.{spelled_fits}
use Rattle.kwire.proofs.Spelled.{all_short}
use Rattle.kwire.proofs.put_request.request_bytes.Goals as goal

pub put_request-requires : goal.put_request-requires
put_request-requires c = all_short (request_fields c.args.request.now) (spelled_fits (fields (request_fields c.args.request.now)) c.args.request.now c.requires.whole.whole)

pub end_frame-requires-clause-least : goal.end_frame-requires-clause-least
end_frame-requires-clause-least c =
    omega (arith, frame_length c.in_ok-frame.frame c.put_request.new.out (fields (request_fields c.args.request.now)) c.in_ok-frame.ensures c.in_ok-put_request.ensures)

pub end_frame-requires-clause-most : goal.end_frame-requires-clause-most
end_frame-requires-clause-most c =
    omega (arith, c.requires.short, frame_length c.in_ok-frame.frame c.put_request.new.out (fields (request_fields c.args.request.now)) c.in_ok-frame.ensures c.in_ok-put_request.ensures)

pub returns-clause-spelled : goal.returns-clause-spelled
returns-clause-spelled c =
    c.end_frame.ensures ∙ frame_of_body c.in_ok-frame.frame c.put_request.new.out (fields (request_fields c.args.request.now)) c.in_ok-frame.ensures c.in_ok-put_request.ensures
