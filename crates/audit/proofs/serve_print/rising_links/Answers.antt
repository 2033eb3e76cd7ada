use Rattle.std.proofs.Common.{Bor, List, rules, ap, ◌∙◌}
use Rattle.std.specs.List.{flat_map}
use Rattle.std.proofs.lemmas.List.Sorted.{IsNonDecreasingBy-from_sort_by_key}
use Rattle.audit.specs.declared.account.Transcript.{Transcript}
use Rattle.audit.proofs.RisingLinks.{rise}
use Rattle.audit.proofs.serve_print.rising_links.Goals as goal

pub returns : goal.returns
returns c =
    let all = c.in_ok-links.ensures ∙ ap (λ (passes : List (List Transcript)). flat_map (λ transcripts. transcripts) passes) c.as_slice.ensures in
    rise c.args.account.now _ _ all c.requires.once c.sort_unstable_by_key.ensures.permutation
    (IsNonDecreasingBy-from_sort_by_key (λ (link : Bor Transcript). link.now.number) _ c.sort_unstable_by_key.ensures.sorted (λ a r q k. search rules))
