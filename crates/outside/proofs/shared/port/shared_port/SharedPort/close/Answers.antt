use Rattle.std.proofs.Common.{◌∙◌, ◌<◌, ap, subst, sym}
use Rattle.std.specs.Prelude.{All}
use Rattle.outside.specs.declared.shared.port.port_entry.PortEntry.{PortEntry}
use Rattle.outside.specs.shared.port.Entries.{entered_by}
use Rattle.outside.specs.shared.port.History.{IsHistory, PortFacts, Terms}
use Rattle.outside.specs.shared.port.Keys.{terms_in}
use Rattle.outside.specs.shared.port.PortViews.{IsPassOf, PassView, PortView}
use Rattle.outside.proofs.shared.port.Closing.{all_own, all_seen, keys_length, keys_ready, same_count}
use Rattle.outside.proofs.shared.port.shared_port.SharedPort.close.Goals as goal

pub close-requires-clause-all : goal.close-requires-clause-all
close-requires-clause-all g c = keys_length c.args.passes c.in_ok-keys.keys c.in_ok-keys.ensures ∙ c.requires.all ∙ sym (ap (λ (v : PortView). v.passes) c.self.view_is)

pub close-requires-clause-each : goal.close-requires-clause-each
close-requires-clause-each g c =
    let made = subst (λ (v : PortView). All (λ (pass : PassView g.row.P-Link.Denot). IsPassOf v pass) c.args.passes) (sym c.self.view_is) c.requires.each in
    keys_ready c.self.inside.lock c.args.passes c.in_ok-keys.keys made c.in_ok-keys.ensures

pub returns : goal.returns
returns g c =
    let P : Type 0 = g.row.P.Denot in
    let L : Type 0 = g.row.P-Link.Denot in
    let desk = c.close.result in
    let log = desk.entries in
    let port = c.into_port.result in
    let facts : PortFacts L = record { faults = g.P.Port.faults port; opened_with = g.P.Port.opened_with port; given = g.P.Port.given port; is_ended = g.P.Port.is_ended port; retired_count = g.P.Port.retired_count port; retired = g.P.Port.retired port } in
    let are = c.in_ok-keys.ensures in
    let passes = c.args.passes in
    let keys = c.in_ok-keys.keys in
    let view = c.self.view_is in
    record {
      closed = record {
        entries = log;
        history = subst (λ (terms : Terms). IsHistory terms facts log) (ap terms_in c.close.ensures.name ∙ ap (λ (v : PortView). v.terms) view) c.into_port.ensures;
        seen = all_seen {P = P} log passes keys are c.close.ensures.each;
        own = all_own {P = P} log passes keys are c.close.ensures.each;
        whose = subst (λ (v : PortView). All (λ (entry : PortEntry L). entered_by entry < v.passes) log) view c.close.ensures.whose;
        once = λ number below. same_count {P = P} number passes keys are ∙ c.close.ensures.once number (subst (λ (v : PortView). number < v.passes) (sym view) below);
      };
    }
