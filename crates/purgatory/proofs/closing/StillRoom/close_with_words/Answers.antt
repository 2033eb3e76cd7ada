use Rattle.std.proofs.Common.{◌≡◌, ◌∙◌, List, [], ◌∷◌, ◌++◌, Some, ap, append_assoc, refl, subst, sym}
use Rattle.std.specs.Prelude.{All, false}
use Rattle.std.proofs.lemmas.List.Elements.{All-cons, All-pop}
use Rattle.room_table.specs.Closing.{ClosingView}
use Rattle.room_table.specs.Handed.{AreShown}
use Rattle.room_table.specs.Seats.{CallerView, ScanView, SourceView, TableView, source_now}
use Rattle.purgatory.specs.Closed.{IsClosed}
use Rattle.purgatory.specs.Ends.{StillView}
use Rattle.purgatory.proofs.Closes.{closed_so}
use Rattle.purgatory.proofs.closing.StillRoom.close_with_words.Goals as goal

pub loop-source-preserved : goal.loop-source-preserved
loop-source-preserved c =
    let i = c.loop-source.invariant in
    let seat = c.source.inside.seat in
    let items = c.in-Some.ensures.items in
    let e = c.take_source.ensures in
    let P : SourceView → Type 0 = λ source. source.table ≡ c.self.inside.closing.table in
    let Q : SourceView → Type 0 = λ source. (source_now source).loud ≡ false in
    record {
      table = ap (λ (x : ClosingView). x.table) e ∙ i.table;
      scanners = ap (λ (x : ClosingView). x.scanners) e ∙ i.scanners;
      callers = ap (λ (x : ClosingView). x.callers) e ∙ i.callers;
      sources =
          ap (λ (x : ClosingView). c.pop.new.self ++ x.sources) e
          ∙ ap (λ (v : SourceView). c.pop.new.self ++ (v ∷ c.loop-source.closing.sources)) c.source.view_is
          ∙ sym (append_assoc c.pop.new.self (c.in-Some.source ∷ []) c.loop-source.closing.sources)
          ∙ ap (λ l. l ++ c.loop-source.closing.sources) (sym items) ∙ i.sources;
      made = (All-pop P c.loop-source.sources c.pop.new.self (Some c.in-Some.source) items i.made).0;
      quiet = subst (λ (x : ClosingView). All Q x.sources) (sym e) (All-cons Q seat c.loop-source.closing.sources c.source.invariant.quiet i.quiet);
    }

pub returns : goal.returns
returns c =
    let i = c.loop-source.invariant in
    let closing = c.loop-source.closing in
    let kept = c.self.inside.closing in
    let none : c.loop-source.sources ≡ [] = c.in_default.ensures.none.0 refl in
    let sources : closing.sources ≡ c.args.sources = sym (ap (λ (l : List SourceView). l ++ closing.sources) none) ∙ i.sources in
    let words = c.close-words.result in
    let shown =
    subst (λ (l : List SourceView). AreShown kept.table l kept.callers kept.scanners words) sources
    (subst (λ (l : List ScanView). AreShown kept.table closing.sources kept.callers l words) i.scanners
    (subst (λ (l : List CallerView). AreShown kept.table closing.sources l closing.scanners words) i.callers
    (subst (λ (t : TableView). AreShown t closing.sources closing.callers closing.scanners words) i.table c.close-words.ensures))) in
    let quiet = subst (All (λ (source : SourceView). (source_now source).loud ≡ false)) sources i.quiet in
    subst (λ (v : StillView). (closed : IsClosed v c.args.sources c.self.inside.wins) × (closed.words ≡ words)) c.self.view_is
    (closed_so kept c.self.inside.wins c.self.invariant c.args.sources quiet words shown)
