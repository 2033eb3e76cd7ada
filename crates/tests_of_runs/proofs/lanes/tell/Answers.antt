use Rattle.tests_of_runs.proofs.lanes.tell.Goals as goal

pub print_serve-requires : goal.print_serve-requires
print_serve-requires g c = let run = c.in_ok-run.ensures in c.served_accounts_are_printable.ensures c.in_ok-run.run'.account _ _ run.lawful run.served
