use Rattle.std.proofs.Common.{◌≡◌, ◌<◌, length, get_or, refl, subst}
use Rattle.std.proofs.lemmas.List.{get_or_default}
use Rattle.partlog.specs.History.{History}
use Rattle.audit.proofs.Laws.{on_ok}
use Rattle.audit.specs.retelling.WasShown.{HasPast}
use Rattle.audit.proofs.retelling.Reread.{if_ok_both, seen_records, seen_left}
use Rattle.audit.proofs.retelling.rereading.read_seen.Goals as goal

pub returns-in-Seen-clause-left : goal.returns-in-Seen-clause-left
returns-in-Seen-clause-left c =
    let reader = c.args.reader.now in
    let pasts = reader.pasts.now in
    let part = c.in-Seen.part in
    let lt : part < length pasts = subst (HasPast (length pasts)) c.in-Seen.is c.requires in
    let h : History = get_or pasts part c.index-reader-part.result in
    let at : h ≡ get_or pasts part h = get_or_default pasts part c.index-reader-part.result h lt in
    on_ok c.read_at.result c.read_at.ensures.lowered (seen_left pasts reader.replica reader.replica c.args.asked.now c.args.became.now part c.in-Seen.start c.args.place h c.args.budget.now c.read_at.new.budget refl c.in-Seen.is c.requires at)

pub returns-in-Seen-clause-read : goal.returns-in-Seen-clause-read
returns-in-Seen-clause-read c =
    let reader = c.args.reader.now in
    let pasts = reader.pasts.now in
    let part = c.in-Seen.part in
    let lt : part < length pasts = subst (HasPast (length pasts)) c.in-Seen.is c.requires in
    let h : History = get_or pasts part c.index-reader-part.result in
    let at : h ≡ get_or pasts part h = get_or_default pasts part c.index-reader-part.result h lt in
    if_ok_both c.read_at.result c.read_at.ensures.numbers c.read_at.ensures.records (λ reading numbers records.
    seen_records pasts reader.replica reader.replica c.args.asked.now c.args.became.now part c.in-Seen.start c.args.place h c.args.budget.now reading refl c.in-Seen.is c.requires at numbers records)
