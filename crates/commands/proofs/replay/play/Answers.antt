use Rattle.std.proofs.Common.{◌≡◌, ◌+◌, ℕ, List, [], ◌++◌, length, take, append-nil, refl, sym, ap, subst, ◌∙◌}
use Rattle.std.proofs.KnownBytes.{Appends-nil, Appends-trans}
use Rattle.std.proofs.lemmas.Result.{err_from_is_err_and}
use Rattle.std.specs.Io.KnownBytes.{Appends}
use Rattle.audit.specs.broker.Board.{opening}
use Rattle.audit.specs.Printed.{summary_of}
use Rattle.trace_file.specs.Contents.{configuration_of}
use Rattle.commands.specs.LinesFront.{IsLinesFront}
use Rattle.commands.proofs.Replays.{trace_playable, played_from, play_of, printable_play, replayed, front_of_lines, front_of_text}
use Rattle.commands.proofs.Writes.{front_behind}
use Rattle.commands.proofs.replay.play.Goals as goal
use Rattle.trace_file.specs.declared.line.TheConstants.{REPLAY_PORT}

pub play_lines-requires : goal.play_lines-requires
play_lines-requires g c = trace_playable c.requires.0 c.args.lines c.requires.1

pub print_replay-requires : goal.print_replay-requires
print_replay-requires g c =
    let lines = c.args.lines in
    let account = c.in_ok-account.account in
    let here = c.in_ok-play_lines.ensures.played (opening c.in_ok-config.config) c.in_ok-lone.ensures.stands in
    let played = played_from lines c.in_ok-config.config here.0 (c.in_ok-config.ensures ∙ ap (configuration_of REPLAY_PORT) c.as_slice.ensures) here.1 in
    printable_play c.requires.0 lines account (here.0.text ++ summary_of account) c.requires.1 (play_of lines here.0 account played (c.in_ok-account.ensures.account here.0.board here.2))

pub returns-in_err-config-clause-front : goal.returns-in_err-config-clause-front
returns-in_err-config-clause-front g c text trace =
    let p = err_from_is_err_and c.from_residual.result c.from_residual.ensures.1 in
    let lines = c.args.lines in
    let start = opening (configuration_of REPLAY_PORT lines) in
    rw p.1 ([], front_of_text text lines [] trace (front_of_lines start lines [] lines (record { board = start; text = [] }) refl refl), Appends-nil (g.K.Sink.written c.args.sink.now))

pub returns-in_err-lone-clause-front : goal.returns-in_err-lone-clause-front
returns-in_err-lone-clause-front g c text trace =
    let p = err_from_is_err_and c.from_residual-in_err-lone.result c.from_residual-in_err-lone.ensures.1 in
    let lines = c.args.lines in
    let start = opening (configuration_of REPLAY_PORT lines) in
    rw p.1 ([], front_of_text text lines [] trace (front_of_lines start lines [] lines (record { board = start; text = [] }) refl refl), Appends-nil (g.K.Sink.written c.args.sink.now))

pub returns-in_err-play_lines-clause-front : goal.returns-in_err-play_lines-clause-front
returns-in_err-play_lines-clause-front g c text trace =
    let p = err_from_is_err_and c.from_residual-in_err-play_lines.result c.from_residual-in_err-play_lines.ensures.1 in
    let lines = c.args.lines in
    let config = c.in_ok-config.config in
    let front = c.in_err-play_lines.ensures.front (opening config) c.in_ok-lone.ensures.stands in
    rw p.1 (
      front.0,
      front_of_text text lines front.0 trace (subst (λ k. IsLinesFront (opening k) lines front.0) (c.in_ok-config.ensures ∙ ap (configuration_of REPLAY_PORT) c.as_slice.ensures) front.1),
      front.2,
    )

pub returns-in_err-account-clause-front : goal.returns-in_err-account-clause-front
returns-in_err-account-clause-front g c text trace =
    let p = err_from_is_err_and c.from_residual-in_err-account.result c.from_residual-in_err-account.ensures.1 in
    let lines = c.args.lines in
    let start = opening (configuration_of REPLAY_PORT lines) in
    let here = c.in_ok-play_lines.ensures.played (opening c.in_ok-config.config) c.in_ok-lone.ensures.stands in
    let played = played_from lines c.in_ok-config.config here.0 (c.in_ok-config.ensures ∙ ap (configuration_of REPLAY_PORT) c.as_slice.ensures) here.1 in
    rw p.1 (here.0.text, front_of_text text lines here.0.text trace (front_of_lines start lines lines [] here.0 (sym (append-nil lines)) played), here.3)

pub returns-in_err-print_replay-clause-front : goal.returns-in_err-print_replay-clause-front
returns-in_err-print_replay-clause-front g c text trace =
    let p = err_from_is_err_and c.from_residual-in_err-print_replay.result c.from_residual-in_err-print_replay.ensures.1 in
    let lines = c.args.lines in
    let start = opening (configuration_of REPLAY_PORT lines) in
    let here = c.in_ok-play_lines.ensures.played (opening c.in_ok-config.config) c.in_ok-lone.ensures.stands in
    let played = played_from lines c.in_ok-config.config here.0 (c.in_ok-config.ensures ∙ ap (configuration_of REPLAY_PORT) c.as_slice.ensures) here.1 in
    rw p.1 (here.0.text, front_of_text text lines here.0.text trace (front_of_lines start lines lines [] here.0 (sym (append-nil lines)) played), here.3)

pub returns-in_err-write_all-clause-front : goal.returns-in_err-write_all-clause-front
returns-in_err-write_all-clause-front g c text trace =
    let p = err_from_is_err_and c.from_residual-in_err-write_all.result c.from_residual-in_err-write_all.ensures.1 in
    let lines = c.args.lines in
    let account = c.in_ok-account.account in
    let here = c.in_ok-play_lines.ensures.played (opening c.in_ok-config.config) c.in_ok-lone.ensures.stands in
    let played = played_from lines c.in_ok-config.config here.0 (c.in_ok-config.ensures ∙ ap (configuration_of REPLAY_PORT) c.as_slice.ensures) here.1 in
    let front = c.in_err-write_all.ensures.front in
    let part : c.as_slice-2.result.now ≡ summary_of account = c.as_slice-2.ensures ∙ c.in_ok-print_replay.ensures.ok ∙ ap (λ (xs : List ℕ). xs ++ summary_of account) c.new-summary.ensures in
    let before = g.K.Sink.written c.args.sink.now in
    let between = g.K.Sink.written c.play_lines.new.sink in
    let after = g.K.Sink.written c.write_all.new.sink in
    let written : Appends between after (take front.0 (summary_of account)) = subst (λ (xs : List ℕ). Appends between after (take front.0 xs)) part front.2 in
    rw p.1 (
      take (length here.0.text + front.0) (here.0.text ++ summary_of account),
      record {
        lines = lines;
        read = text;
        trace = trace;
        told = refl;
        account = account;
        text = here.0.text ++ summary_of account;
        played = play_of lines here.0 account played (c.in_ok-account.ensures.account here.0.board here.2);
        count = length here.0.text + front.0;
        front = refl;
      },
      front_behind before between after here.0.text (summary_of account) front.0 here.3 written,
    )

pub returns-clause-replay : goal.returns-clause-replay
returns-clause-replay g c =
    let lines = c.args.lines in
    let account = c.in_ok-account.account in
    let here = c.in_ok-play_lines.ensures.played (opening c.in_ok-config.config) c.in_ok-lone.ensures.stands in
    let played = played_from lines c.in_ok-config.config here.0 (c.in_ok-config.ensures ∙ ap (configuration_of REPLAY_PORT) c.as_slice.ensures) here.1 in
    let part : c.as_slice-2.result.now ≡ summary_of account = c.as_slice-2.ensures ∙ c.in_ok-print_replay.ensures.ok ∙ ap (λ (xs : List ℕ). xs ++ summary_of account) c.new-summary.ensures in
    let before = g.K.Sink.written c.args.sink.now in
    let between = g.K.Sink.written c.play_lines.new.sink in
    let after = g.K.Sink.written c.write_all.new.sink in (
      here.0.text ++ summary_of account,
      replayed c.requires.0 lines account (here.0.text ++ summary_of account) c.requires.1 (play_of lines here.0 account played (c.in_ok-account.ensures.account here.0.board here.2)),
      Appends-trans before between after here.0.text (summary_of account) here.3 (subst (λ (xs : List ℕ). Appends between after xs) part c.in_ok-write_all.ensures.written),
    )
