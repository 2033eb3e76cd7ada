use Rattle.std.proofs.Common.{codes, sym, ◌∙◌}
use Rattle.std.specs.Cmp.Lexicographic.{same_text}
use Rattle.commands.proofs.Spellings.{seven_items, service_parts, service_said}
use Rattle.commands.proofs.command.service_in.Goals as goal

pub returns-in_err-number_after-in-len7-clause-none : goal.returns-in_err-number_after-in-len7-clause-none
returns-in_err-number_after-in-len7-clause-none c =
    let seven = seven_items c.args.words.now c.word-item.result c.first-item.result c.port-item.result c.second-item.result c.lanes-item.result c.third-item.result c.connections-item.result
    c.in-len7.len_at_least c.in-len7.len_below c.word-item.is c.first-item.is c.port-item.is c.second-item.is c.lanes-item.is c.third-item.is c.connections-item.is in
    rw c.from_residual.ensures (λ service is.
    let parts = service_parts service seven is.0 in
    c.in_err-number_after-in-len7.ensures.none service.port is.1.port.0 is.1.port.1 parts.0.0 parts.0.1)

pub returns-in_err-number_after-in-len7-2-clause-none : goal.returns-in_err-number_after-in-len7-2-clause-none
returns-in_err-number_after-in-len7-2-clause-none c =
    let seven = seven_items c.args.words.now c.word-item.result c.first-item.result c.port-item.result c.second-item.result c.lanes-item.result c.third-item.result c.connections-item.result
    c.in-len7.len_at_least c.in-len7.len_below c.word-item.is c.first-item.is c.port-item.is c.second-item.is c.lanes-item.is c.third-item.is c.connections-item.is in
    rw c.from_residual-in_err-number_after-in-len7-2.ensures (λ service is.
    let parts = service_parts service seven is.0 in
    c.in_err-number_after-in-len7-2.ensures.none service.lanes is.1.lanes.0 is.1.lanes.1 parts.1.0 parts.1.1)

pub returns-in_err-number_after-in-len7-3-clause-none : goal.returns-in_err-number_after-in-len7-3-clause-none
returns-in_err-number_after-in-len7-3-clause-none c =
    let seven = seven_items c.args.words.now c.word-item.result c.first-item.result c.port-item.result c.second-item.result c.lanes-item.result c.third-item.result c.connections-item.result
    c.in-len7.len_at_least c.in-len7.len_below c.word-item.is c.first-item.is c.port-item.is c.second-item.is c.lanes-item.is c.third-item.is c.connections-item.is in
    rw c.from_residual-in_err-number_after-in-len7-3.ensures (λ service is.
    let parts = service_parts service seven is.0 in
    c.in_err-number_after-in-len7-3.ensures.none service.connections is.1.connections.0 is.1.connections.1 parts.2.0 parts.2.1)

pub returns-in_ok-number_after-in-len7-3-clause-some : goal.returns-in_ok-number_after-in-len7-3-clause-some
returns-in_ok-number_after-in-len7-3-clause-some c =
    let seven = seven_items c.args.words.now c.word-item.result c.first-item.result c.port-item.result c.second-item.result c.lanes-item.result c.third-item.result c.connections-item.result
    c.in-len7.len_at_least c.in-len7.len_below c.word-item.is c.first-item.is c.port-item.is c.second-item.is c.lanes-item.is c.third-item.is c.connections-item.is in
    let port = c.in_ok-number_after-in-len7 in
    let lanes = c.in_ok-number_after-in-len7-2 in
    let connections = c.in_ok-number_after-in-len7-3 in (
      service_said (record { port = port.field-0; lanes = lanes.field-0; connections = connections.field-0 }) seven (sym c.as_str.ensures.value ∙ same_text c.as_str.result.now (codes "serve") (sym c.if-eq.true ∙ c.eq.ensures))
          port.ensures.some lanes.ensures.some connections.ensures.some,
      record { port = port.ensures.in_range; lanes = lanes.ensures.in_range; connections = connections.ensures.in_range },
    )
