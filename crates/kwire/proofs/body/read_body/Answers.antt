use Rattle.std.proofs.Common.{◌≢◌, ◌∙◌, eqb, length, refl, ap, inl, inr}
use Rattle.std.specs.Option.{option_copied}
use Rattle.kbytes.specs.Cursor.{rest_of}
use Rattle.kwire.specs.declared.frame.WireFault.TheVariants.{BadRequest}
use Rattle.kwire.specs.IsRequest.{ask_fields}
use Rattle.kwire.specs.Views.{ask_of}
use Rattle.kwire.specs.Reading.{IsNoBody}
use Rattle.kwire.proofs.BodyLaws.{client_then, client_refused, ask_refused, fault_is, err_with, nothing_left, something_left}
use Rattle.kwire.proofs.body.read_body.Goals as goal

pub returns-in_err-client-clause-refused : goal.returns-in_err-client-clause-refused
returns-in_err-client-clause-refused c =
    err_with c.from_residual.result _ (λ why. why ≢ _ → IsNoBody c.args.api c.args.head.version c.args.head.correlation c.args.reader why) c.from_residual.ensures.1
    (λ other. inl (client_refused c.args.api c.args.head.version c.args.reader c.in_err-client.field-0.0 c.in_err-client.ensures.exact.0))

pub returns-in_err-ask-clause-refused : goal.returns-in_err-ask-clause-refused
returns-in_err-ask-clause-refused c =
    let d = c.nullable_string.new.self in
    let client = option_copied c.in_ok-client.client in
    err_with c.from_residual-in_err-ask.result c.in_err-ask.field-0.0 (λ why. why ≢ _ → IsNoBody c.args.api c.args.head.version c.args.head.correlation c.args.reader why) c.from_residual-in_err-ask.ensures.1
    (λ other. inl (ask_refused c.args.api c.args.head.version c.args.reader d client c.in_err-ask.field-0.0 c.in_ok-client.ensures.exact (fault_is _ c.in_err-ask.field-0.0 c.in_err-ask.ensures.exact other)))

pub returns-then-not-is_empty-clause-refused : goal.returns-then-not-is_empty-clause-refused
returns-then-not-is_empty-clause-refused c = λ other.
    let d = c.nullable_string.new.self in
    let e = c.read_ask.new.reader in
    let client = option_copied c.in_ok-client.client in
    inr (inl (record {
      all = _;
      place = e;
      read = client_then c.args.api c.args.head.version c.args.reader d e client (ask_fields (ask_of c.in_ok-ask.ask)) c.in_ok-client.ensures.exact c.in_ok-ask.ensures.exact;
      more = something_left (rest_of e) (c.if-not-is_empty.ensures ∙ ap (λ t. eqb (length t) 0) c.rest.ensures);
      told = ap BadRequest c.at.ensures.at;
    }))

pub returns-in_err-refuse_repeats-clause-refused : goal.returns-in_err-refuse_repeats-clause-refused
returns-in_err-refuse_repeats-clause-refused c =
    let d = c.nullable_string.new.self in
    let e = c.read_ask.new.reader in
    let client = option_copied c.in_ok-client.client in
    err_with c.from_residual-in_err-refuse_repeats.result c.in_err-refuse_repeats.field-0.0 (λ why. why ≢ _ → IsNoBody c.args.api c.args.head.version c.args.head.correlation c.args.reader why) c.from_residual-in_err-refuse_repeats.ensures.1
    (λ other.
    let twice = c.in_err-refuse_repeats.ensures.twice other in
    inr (inr (record {
      request = record { correlation = c.args.head.correlation; client = client; ask = ask_of c.in_ok-ask.ask };
      same = refl;
      read = record {
        place = e;
        read = client_then c.args.api c.args.head.version c.args.reader d e client (ask_fields (ask_of c.in_ok-ask.ask)) c.in_ok-client.ensures.exact c.in_ok-ask.ensures.exact;
        over = nothing_left (rest_of e) (c.if-not-is_empty.ensures ∙ ap (λ t. eqb (length t) 0) c.rest.ensures);
        asked = c.in_ok-ask.ensures.asked;
        version_is = c.in_ok-ask.ensures.version;
        fitting = c.in_ok-ask.ensures.fitting;
      };
      mention = twice.0;
      repeat = twice.1;
      told = twice.2;
    })))

pub returns-clause-read : goal.returns-clause-read
returns-clause-read c =
    let d = c.nullable_string.new.self in
    let e = c.read_ask.new.reader in
    let client = option_copied c.in_ok-client.client in
    record {
      place = e;
      read = client_then c.args.api c.args.head.version c.args.reader d e client (ask_fields (ask_of c.in_ok-ask.ask)) c.in_ok-client.ensures.exact c.in_ok-ask.ensures.exact;
      over = nothing_left (rest_of e) (c.if-not-is_empty.ensures ∙ ap (λ t. eqb (length t) 0) c.rest.ensures);
      asked = c.in_ok-ask.ensures.asked;
      version_is = c.in_ok-ask.ensures.version;
      fitting = c.in_ok-ask.ensures.fitting;
    }
