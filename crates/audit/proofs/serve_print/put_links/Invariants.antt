use Rattle.std.proofs.Common.{◌≡◌, ◌++◌, take}
use Rattle.std.specs.List.{flat_map}
use Rattle.audit.specs.Links.{lent}
use Rattle.audit.specs.Printed.{link_line}
use Rattle.audit.proofs.serve_print.put_links.Given as goal

abbrev pub invariant-loop-link : goal.invariant-loop-link
invariant-loop-link l = l.out ≡ l.initial.out ++ flat_map link_line (lent (take l.link-index l.links))
