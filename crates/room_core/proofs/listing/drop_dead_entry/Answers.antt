use Rattle.std.proofs.Common.{◌≡◌, get_or, ◌∙◌, ap, None}
use Rattle.std.proofs.lemmas.List.{get_or_default}
use Rattle.room_core.specs.Meetings.{live_entry}
use Rattle.room_core.proofs.Views.{table_set, put_as}
use Rattle.room_core.proofs.listing.drop_dead_entry.Goals as goal

pub returns-clause-kept : goal.returns-clause-kept
returns-clause-kept c =
    let xs = c.args.row.now.items in
    let l = c.requires in
    let was : c.index.result.now ≡ get_or xs c.args.pass None = c.index.ensures ∙ get_or_default xs c.args.pass _ None l in
    let new : c.still_listed-entry.result ≡ live_entry c.args.session (get_or xs c.args.pass None) = c.still_listed-entry.ensures ∙ ap (live_entry c.args.session) was in
    table_set xs c.args.pass c.still_listed-entry.result None l ∙ put_as (λ i. get_or xs i None) c.args.pass _ _ new
