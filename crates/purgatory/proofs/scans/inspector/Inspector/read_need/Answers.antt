use Rattle.std.proofs.Common.{◌≡◌, ◌∙◌, ◌+◌, ◌*◌, ap, arith, subst}
use Rattle.std.proofs.lemmas.List.{get_or_default}
use Rattle.room_core.specs.Checks.{IsRead}
use Rattle.room_core.specs.Meetings.{words_of}
use Rattle.room_table.specs.Seats.{ScanView, scanner_now}
use Rattle.purgatory.specs.scans.Inspected.{IsInspector}
use Rattle.purgatory.proofs.scans.Goes.{one_step}
use Rattle.purgatory.proofs.scans.Looking.{is_read, read_one}
use Rattle.purgatory.proofs.scans.Tables.{mirror_is}
use Rattle.purgatory.proofs.scans.inspector.Inspector.read_need.Goals as goal

pub returns-clause-went : goal.returns-clause-went
returns-clause-went c = one_step c.args.self.now c.read.new.self _ c.read.ensures.1

pub returns-clause-more : goal.returns-clause-more
returns-clause-more c = read_one (scanner_now c.args.self.now) (scanner_now c.read.new.self) _ _ c.requires.met.0 c.requires.met.1 (ap scanner_now c.read.ensures.1)

pub returns-clause-read : goal.returns-clause-read
returns-clause-read c so =
    let i = c.self.inside in
    let s = scanner_now c.args.self.now in
    let inv = subst (λ (v : ScanView). IsInspector i.shape i.number i.words.items i.values.items i.wins v) c.self.view_is c.self.invariant in
    let at = 3 + 3 * c.args.need in
    let few = c.requires.learned.few in
    let need = c.requires.need in
    let size = inv.words_size in
    let word : c.index-gauge.result.now ≡ words_of s at =
    c.index-gauge.ensures ∙ get_or_default i.words.items at _ 0 (omega (arith, size, few, need)) ∙ mirror_is s.learned i.words.items inv.learned at (c.requires.learned.words at (omega (arith, need))) in
    subst (λ g. IsRead (scanner_now c.read.new.self).readings c.args.last g) word
    (is_read s (scanner_now c.read.new.self) _ _ c.requires.met.0 c.args.last c.requires.met.1 (ap scanner_now c.read.ensures.1))
