use Rattle.std.proofs.Common.{◌≡◌, Err, Some, ap, inl, inr, subst}
use Rattle.commands.specs.Codes.{account_in, exit_code_of, stop_in}
use Rattle.commands.specs.Commands.{IsCommand, said}
use Rattle.commands.specs.declared.command.Command.TheVariants.{Replay, Serve, Storm, Workers}
use Rattle.commands.proofs.Replays.{stopped_by}
use Rattle.commands.proofs.Services.{served_as}
use Rattle.commands.proofs.Stormings.{stormed_as}
use Rattle.commands.proofs.runs.run.Goals as goal

pub returns-in-Err-clause-complete : goal.returns-in-Err-clause-complete
returns-in-Err-clause-complete g c = λ reads has quiet still.
    let stop = c.in-Err.stop in
    let code : c.stopped-in-Err.result.code ≡ exit_code_of stop = ap (λ e. e.code) c.stopped-in-Err.ensures in
    let came = c.in-Err.ensures in
    rw code (stopped_by (g.S.Source.left c.args.source.now) stop (λ e. came.words (ap Err e)) (λ e. came.read_fault (ap Err e)) (λ e. came.write_fault (ap Err e)) came.bad_line has quiet still)

pub returns-in-Err-replay_on_workers-clause-complete : goal.returns-in-Err-replay_on_workers-clause-complete
returns-in-Err-replay_on_workers-clause-complete g c = λ reads has quiet still.
    let stop = stop_in c.in-Err-replay_on_workers.why in
    let code : c.unfinished.result.code ≡ exit_code_of stop = ap (λ e. e.code) c.unfinished.ensures in
    let came = c.in-Err-replay_on_workers.ensures in
    rw code (stopped_by (g.S.Source.left c.args.source.now) stop came.words came.read_fault came.write_fault came.bad_line has quiet still)

pub returns-in_default-clause-complete : goal.returns-in_default-clause-complete
returns-in_default-clause-complete g c = λ reads has quiet still.
    absurd (elim reads [ inl one ↦ c.in_default.ensures.none Replay one | inr many ↦ c.in_default.ensures.none (Workers many.0) many.1 ])

pub returns-in_default-clause-serves : goal.returns-in_default-clause-serves
returns-in_default-clause-serves g c = λ is has quiet still calm. absurd (c.in_default.ensures.none (Serve is.0) is.1)

pub returns-in_default-clause-stormed : goal.returns-in_default-clause-stormed
returns-in_default-clause-stormed g c = λ load is. absurd (c.in_default.ensures.none (Storm load) is)

pub returns-in_default-clause-played : goal.returns-in_default-clause-played
returns-in_default-clause-played g c = λ is still. absurd (c.in_default.ensures.none (Storm is.0) is.1)

pub returns-in-Ok-play_storm-clause-stormed : goal.returns-in-Ok-play_storm-clause-stormed
returns-in-Ok-play_storm-clause-stormed g c = λ load is.
    let words = said c.args.words.now in
    let said_first : IsCommand words (Storm c.in-Storm.load) = subst (IsCommand words) c.in-Storm.is c.in-Some.ensures.some in
    rw c.done-in-Ok-play_storm.ensures
    (stormed_as words c.in-Storm.load load 0 (Some c.in-Ok-play_storm.account) (g.K.Sink.written c.args.sink.now) (g.K.Sink.written c.play_storm.new.sink) said_first is c.in-Ok-play_storm.ensures.done)

pub returns-in-Err-play_storm-clause-stormed : goal.returns-in-Err-play_storm-clause-stormed
returns-in-Err-play_storm-clause-stormed g c = λ load is.
    let words = said c.args.words.now in
    let said_first : IsCommand words (Storm c.in-Storm.load) = subst (IsCommand words) c.in-Storm.is c.in-Some.ensures.some in
    let why = c.in-Err-play_storm.why in
    rw c.unfinished-in-Err-play_storm.ensures
    (stormed_as words c.in-Storm.load load (exit_code_of (stop_in why)) (account_in why) (g.K.Sink.written c.args.sink.now) (g.K.Sink.written c.play_storm.new.sink) said_first is c.in-Err-play_storm.ensures.unfinished)

pub returns-in-Serve-clause-served : goal.returns-in-Serve-clause-served
returns-in-Serve-clause-served g c = λ service is.
    let words = said c.args.words.now in
    let said_first : IsCommand words (Serve c.in-Serve.service) = subst (IsCommand words) c.in-Serve.is c.in-Some.ensures.some in
    served_as words c.in-Serve.service service said_first is c.serve.ensures.served
