use Rattle.std.proofs.Common.{◌≡◌, map}
use Rattle.audit.specs.Histories.{part_account}
use Rattle.audit.proofs.parts.part_accounts.Given as goal

abbrev pub invariant-loop-part : goal.invariant-loop-part
invariant-loop-part l = l.accounts ≡ map part_account l.yielded
