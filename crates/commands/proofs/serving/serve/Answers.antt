use Rattle.std.proofs.Common.{◌≡◌, Err, ap}
use Rattle.commands.specs.Codes.{exit_code_of}
use Rattle.commands.proofs.Services.{service_stopped_by}
use Rattle.commands.proofs.serving.serve.Goals as goal

pub returns-in-Err-clause-complete : goal.returns-in-Err-clause-complete
returns-in-Err-clause-complete g c = λ has quiet still calm.
    let stop = c.in-Err.stop in
    let code : c.stopped.result.code ≡ exit_code_of stop = ap (λ e. e.code) c.stopped.ensures in
    let came = c.in-Err.ensures in
    rw code (service_stopped_by (g.S.Source.left c.args.source.now) stop came.only (λ e. came.read_fault (ap Err e)) came.bad_line has quiet)

pub finish-requires : goal.finish-requires
finish-requires g c =
    let run = c.in-Ok-serve_links.ensures in
    c.served_accounts_are_printable.ensures _ _ _ run.lawful run.served
