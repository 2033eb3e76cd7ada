use Rattle.trace_file.proofs.words.four_words.Goals as goal

pub returns-in_err-first-clause-none : goal.returns-in_err-first-clause-none
returns-in_err-first-clause-none c = rw c.from_residual.ensures (c.in_err-first.ensures.none 2)
