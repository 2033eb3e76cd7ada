use Rattle.tell_account.proofs.lanes.serve_lines.Goals as goal

pub print_serve-requires : goal.print_serve-requires
print_serve-requires g c =
    let run = c.in_ok-run.ensures in c.served_accounts_are_printable.ensures c.in_ok-run.run'.account _ _ run.lawful run.served
