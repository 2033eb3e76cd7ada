-- What each call's step requires, for a seat and a table as the call knows them.
use Rattle.std.proofs.Common.{◌≡◌, ℕ, ◌+◌, ◌<◌, max, sym, ap, ◌∙◌, subst, arith}
use Rattle.std.specs.Prelude.{◌==◌}
use mathlib.Core.Option.{none}
use prog.Atomic.{either}
use Rattle.atomic_table.specs.Seated.{TableId}
use Rattle.atomic_table.specs.Table.{step, Allows}
use Rattle.room_core.specs.declared.event.How.{How}
use Rattle.room_core.specs.declared.parts.Phase.{Phase}
use Rattle.room_core.specs.declared.parts.Phase.TheVariants.{Open, Won}
use Rattle.room_core.specs.declared.shape.Shape.{Shape}
use Rattle.room_core.specs.declared.word.Word.{Word}
use Rattle.room_core.specs.Checks.{OwnerMayLeave, OwnerMayWin, ScannerMayLeave, ScannerMayWin}
use Rattle.room_core.specs.Gauges.{IsGauge, IsPass, IsScanner}
use Rattle.room_core.specs.Meetings.{MayLearn, MayMark, generation_met}
use Rattle.room_core.specs.Numbers.{description_words}
use Rattle.room_core.specs.Packing.{packed}
use Rattle.room_core.specs.Passes.{MayDescribe, MayOpen, MaySeeMark, MayPeek, MayIdle}
use Rattle.room_core.specs.Scans.{MayStore, MayAsk, MayHear, MayBegin, number_heard}
use Rattle.room_table.specs.Layout.{place_of}
use Rattle.room_table.specs.Parts.{scanner_of}
use Rattle.room_table.specs.Seats.{TableView, SourceView, CallerView, ScanView, source_now, caller_now, scanner_now}
use Rattle.room_table.specs.Shown.{IsShown}
use Rattle.room_table.specs.Tells.{Sat, source_steps, caller_steps, scanner_steps, caller_in, scanner_in, stored, hushed, asked, relieved, described, recalled, opened, saw_mark, caller_read, caller_left, caller_won, peeked_own, idled, heard, began, met_word, learned_word, marked_word, scanner_read, scanner_left, scanner_won}
use Rattle.room_table.proofs.Callers as callers
use Rattle.room_table.proofs.Scanners as scanners
use Rattle.room_table.proofs.Seatings.{SourceStands, CallerStands, ScannerStands, word_small, source_same, source_here, source_may, caller_same, caller_here, caller_may, scanner_same, scanner_here, scanner_may}
use Rattle.room_table.proofs.Sources as sources

pub store_ready : (key room : Shape) (board owner : TableId) (slots id gauge : ℕ) (m : Sat) (table : TableView) (seat : SourceView) (value : ℕ) (at : ℕ)
    → SourceStands key room board owner gauge m table seat → at ≡ place_of room (Word.Value gauge) → MayStore table.shape seat.gauge (source_now seat) value
    → (owner ≡ board) × (at < board.words) × Allows (IsShown key) slots id m at (λ _. value) (λ _. stored (step slots at value 0 none) m value)
store_ready key room board owner slots id gauge m table seat value at stands place allowed_now =
    let may = source_may stands (λ s j x. MayStore s j x value) allowed_now in (
      source_same stands,
      word_small room board.words at (Word.Value gauge) stands.words place may.0,
      subst (λ (z : Sat × ℕ × Shape). Allows (IsShown z.2) slots id z.0 z.1 (λ _. value) (λ _. stored (step slots z.1 value 0 none) z.0 value)) (λ i. (sym (source_here stands) i, sym place i, sym stands.rule i))
          (sources.stores room slots id gauge (source_steps m.0) value may),
    )

pub hush_ready : (key room : Shape) (board owner : TableId) (slots id gauge : ℕ) (m : Sat) (table : TableView) (seat : SourceView) (at : ℕ)
    → SourceStands key room board owner gauge m table seat → at ≡ place_of room (Word.Asked gauge) → IsGauge table.shape seat.gauge
    → (owner ≡ board) × (at < board.words) × Allows (IsShown key) slots id m at (λ n. n) (hushed (step slots at 0 0 none) m)
hush_ready key room board owner slots id gauge m table seat at stands place allowed_now =
    let may = source_may stands (λ s j x. IsGauge s j) allowed_now in (
      source_same stands,
      word_small room board.words at (Word.Asked gauge) stands.words place may,
      subst (λ (z : Sat × ℕ × Shape). Allows (IsShown z.2) slots id z.0 z.1 (λ n. n) (hushed (step slots z.1 0 0 none) z.0)) (λ i. (sym (source_here stands) i, sym place i, sym stands.rule i))
          (sources.hushes room slots id gauge (source_steps m.0) may),
    )

pub ask_ready : (key room : Shape) (board owner : TableId) (slots id pass : ℕ) (m : Sat) (table : TableView) (seat : CallerView) (gauge value : ℕ) (at : ℕ)
    → CallerStands key room board owner pass m table seat → at ≡ place_of room (Word.Asked gauge) → MayAsk table.shape seat.pass (caller_now seat) gauge value
    → (owner ≡ board) × (at < board.words) × Allows (IsShown key) slots id m at (λ n. max n value) (asked (step slots at value 0 none) m)
ask_ready key room board owner slots id pass m table seat gauge value at stands place allowed_now =
    let may = caller_may stands (λ s j x. MayAsk s j x gauge value) allowed_now in (
      caller_same stands,
      word_small room board.words at (Word.Asked gauge) stands.words place may.1,
      subst (λ (z : Sat × ℕ × Shape). Allows (IsShown z.2) slots id z.0 z.1 (λ n. max n value) (asked (step slots z.1 value 0 none) z.0)) (λ i. (sym (caller_here stands) i, sym place i, sym stands.rule i))
          (callers.asks room slots id pass (caller_steps m.0) gauge value may),
    )

pub relieve_ready : (key room : Shape) (board owner : TableId) (slots id pass : ℕ) (m : Sat) (table : TableView) (seat : CallerView) (gauge : ℕ) (at : ℕ)
    → CallerStands key room board owner pass m table seat → at ≡ place_of room (Word.Begun gauge) → (IsPass table.shape seat.pass × IsGauge table.shape gauge)
    → (owner ≡ board) × (at < board.words) × Allows (IsShown key) slots id m at (λ n. n) (relieved (step slots at 0 0 none) m)
relieve_ready key room board owner slots id pass m table seat gauge at stands place allowed_now =
    let may = caller_may stands (λ s j x. (IsPass s j × IsGauge s gauge)) allowed_now in (
      caller_same stands,
      word_small room board.words at (Word.Begun gauge) stands.words place may.1,
      subst (λ (z : Sat × ℕ × Shape). Allows (IsShown z.2) slots id z.0 z.1 (λ n. n) (relieved (step slots z.1 0 0 none) z.0)) (λ i. (sym (caller_here stands) i, sym place i, sym stands.rule i))
          (callers.relieves room slots id pass (caller_steps m.0) gauge may),
    )

pub describe_ready : (key room : Shape) (board owner : TableId) (slots id pass : ℕ) (m : Sat) (table : TableView) (seat : CallerView) (to word : ℕ) (at : ℕ)
    → CallerStands key room board owner pass m table seat → at ≡ place_of room (Word.Description pass to) → MayDescribe table.shape seat.pass (caller_now seat) to
    → (owner ≡ board) × (at < board.words) × Allows (IsShown key) slots id m at (λ _. word) (λ _. described (step slots at word 0 none) m word)
describe_ready key room board owner slots id pass m table seat to word at stands place allowed_now =
    let may = caller_may stands (λ s j x. MayDescribe s j x to) allowed_now in (
      caller_same stands,
      word_small room board.words at (Word.Description pass to) stands.words place (may.0, may.1),
      subst (λ (z : Sat × ℕ × Shape). Allows (IsShown z.2) slots id z.0 z.1 (λ _. word) (λ _. described (step slots z.1 word 0 none) z.0 word)) (λ i. (sym (caller_here stands) i, sym place i, sym stands.rule i))
          (callers.describes room slots id pass (caller_steps m.0) to word may),
    )

pub recall_ready : (key room : Shape) (board owner : TableId) (slots id pass : ℕ) (m : Sat) (table : TableView) (seat : CallerView) (to : ℕ) (at : ℕ)
    → CallerStands key room board owner pass m table seat → at ≡ place_of room (Word.Description pass to) → IsPass table.shape seat.pass × (to < description_words)
    → (owner ≡ board) × (at < board.words) × Allows (IsShown key) slots id m at (λ n. n) (recalled (step slots at 0 0 none) m)
recall_ready key room board owner slots id pass m table seat to at stands place there =
    let may = caller_may stands (λ s j x. IsPass s j × (to < description_words)) there in (
      caller_same stands,
      word_small room board.words at (Word.Description pass to) stands.words place may,
      subst (λ (z : Sat × ℕ × Shape). Allows (IsShown z.2) slots id z.0 z.1 (λ n. n) (recalled (step slots z.1 0 0 none) z.0)) (λ i. (sym (caller_here stands) i, sym place i, sym stands.rule i))
          (callers.recalls room slots id pass (caller_steps m.0) to may),
    )

pub mark_ready : (key room : Shape) (board owner : TableId) (slots id pass : ℕ) (m : Sat) (table : TableView) (seat : CallerView) (to : ℕ) (at : ℕ)
    → CallerStands key room board owner pass m table seat → at ≡ place_of room (Word.Mark pass to) → MaySeeMark table.shape seat.pass (caller_now seat) to
    → (owner ≡ board) × (at < board.words) × Allows (IsShown key) slots id m at (λ n. n) (saw_mark (step slots at 0 0 none) m)
mark_ready key room board owner slots id pass m table seat to at stands place allowed_now =
    let may = caller_may stands (λ s j x. MaySeeMark s j x to) allowed_now in (
      caller_same stands,
      word_small room board.words at (Word.Mark pass to) stands.words place (may.0, omega (arith, may.1)),
      subst (λ (z : Sat × ℕ × Shape). Allows (IsShown z.2) slots id z.0 z.1 (λ n. n) (saw_mark (step slots z.1 0 0 none) z.0)) (λ i. (sym (caller_here stands) i, sym place i, sym stands.rule i))
          (callers.sees_mark room slots id pass (caller_steps m.0) to may),
    )

pub caller_read_ready : (key room : Shape) (board owner : TableId) (slots id pass : ℕ) (m : Sat) (table : TableView) (seat : CallerView) (gauge : ℕ) (at : ℕ)
    → CallerStands key room board owner pass m table seat → at ≡ place_of room (Word.Value gauge) → (IsPass table.shape seat.pass × IsGauge table.shape gauge)
    → (owner ≡ board) × (at < board.words) × Allows (IsShown key) slots id m at (λ n. n) (caller_read (step slots at 0 0 none) m)
caller_read_ready key room board owner slots id pass m table seat gauge at stands place allowed_now =
    let may = caller_may stands (λ s j x. (IsPass s j × IsGauge s gauge)) allowed_now in (
      caller_same stands,
      word_small room board.words at (Word.Value gauge) stands.words place may.1,
      subst (λ (z : Sat × ℕ × Shape). Allows (IsShown z.2) slots id z.0 z.1 (λ n. n) (caller_read (step slots z.1 0 0 none) z.0)) (λ i. (sym (caller_here stands) i, sym place i, sym stands.rule i))
          (callers.reads room slots id pass (caller_steps m.0) gauge may),
    )

pub caller_leave_ready : (key room : Shape) (board owner : TableId) (slots id pass : ℕ) (m : Sat) (table : TableView) (seat : CallerView) (gauge : ℕ) (at : ℕ)
    → CallerStands key room board owner pass m table seat → at ≡ place_of room (Word.Value gauge) → OwnerMayLeave table.shape seat.pass (caller_now seat) gauge
    → (owner ≡ board) × (at < board.words) × Allows (IsShown key) slots id m at (λ n. n) (caller_left (step slots at 0 0 none) m)
caller_leave_ready key room board owner slots id pass m table seat gauge at stands place allowed_now =
    let may = caller_may stands (λ s j x. OwnerMayLeave s j x gauge) allowed_now in (
      caller_same stands,
      word_small room board.words at (Word.Value gauge) stands.words place may.1,
      subst (λ (z : Sat × ℕ × Shape). Allows (IsShown z.2) slots id z.0 z.1 (λ n. n) (caller_left (step slots z.1 0 0 none) z.0)) (λ i. (sym (caller_here stands) i, sym place i, sym stands.rule i))
          (callers.leaves room slots id pass (caller_steps m.0) gauge may),
    )

pub peek_ready : (key room : Shape) (board owner : TableId) (slots id pass : ℕ) (m : Sat) (table : TableView) (seat : CallerView) (at : ℕ)
    → CallerStands key room board owner pass m table seat → at ≡ place_of room (Word.Session pass) → MayPeek table.shape seat.pass (caller_now seat)
    → (owner ≡ board) × (at < board.words) × Allows (IsShown key) slots id m at (λ n. n) (peeked_own (step slots at 0 0 none) m)
peek_ready key room board owner slots id pass m table seat at stands place allowed_now =
    let may = caller_may stands (λ s j x. MayPeek s j x) allowed_now in (
      caller_same stands,
      word_small room board.words at (Word.Session pass) stands.words place may.0,
      subst (λ (z : Sat × ℕ × Shape). Allows (IsShown z.2) slots id z.0 z.1 (λ n. n) (peeked_own (step slots z.1 0 0 none) z.0)) (λ i. (sym (caller_here stands) i, sym place i, sym stands.rule i))
          (callers.peeks room slots id pass (caller_steps m.0) may),
    )

pub hear_ready : (key room : Shape) (board owner : TableId) (slots id k : ℕ) (m : Sat) (table : TableView) (seat : ScanView) (gauge : ℕ) (at : ℕ)
    → ScannerStands key room board owner k m table seat → at ≡ place_of room (Word.Asked gauge) → MayHear table.shape seat.scanner (scanner_now seat) gauge
    → (owner ≡ board) × (at < board.words) × Allows (IsShown key) slots id m at (λ n. n) (heard (step slots at 0 0 none) m)
hear_ready key room board owner slots id k m table seat gauge at stands place allowed_now =
    let may = scanner_may stands (λ s j x. MayHear s j x gauge) allowed_now in (
      scanner_same stands,
      word_small room board.words at (Word.Asked gauge) stands.words place may.1.there,
      subst (λ (z : Sat × ℕ × Shape). Allows (IsShown z.2) slots id z.0 z.1 (λ n. n) (heard (step slots z.1 0 0 none) z.0)) (λ i. (sym (scanner_here stands) i, sym place i, sym stands.rule i))
          (scanners.hears room slots id k (scanner_steps m.0) gauge may),
    )

pub meet_ready : (key room : Shape) (board owner : TableId) (slots id k : ℕ) (m : Sat) (table : TableView) (seat : ScanView) (pass : ℕ) (at : ℕ)
    → ScannerStands key room board owner k m table seat → at ≡ place_of room (Word.Session pass) → (IsScanner table.shape seat.scanner × IsPass table.shape pass)
    → (owner ≡ board) × (at < board.words) × Allows (IsShown key) slots id m at (λ n. n) (met_word (step slots at 0 0 none) m)
meet_ready key room board owner slots id k m table seat pass at stands place allowed_now =
    let may = scanner_may stands (λ s j x. (IsScanner s j × IsPass s pass)) allowed_now in (
      scanner_same stands,
      word_small room board.words at (Word.Session pass) stands.words place may.1,
      subst (λ (z : Sat × ℕ × Shape). Allows (IsShown z.2) slots id z.0 z.1 (λ n. n) (met_word (step slots z.1 0 0 none) z.0)) (λ i. (sym (scanner_here stands) i, sym place i, sym stands.rule i))
          (scanners.meets room slots id k (scanner_steps m.0) pass may),
    )

pub learn_ready : (key room : Shape) (board owner : TableId) (slots id k : ℕ) (m : Sat) (table : TableView) (seat : ScanView) (pass to : ℕ) (at : ℕ)
    → ScannerStands key room board owner k m table seat → at ≡ place_of room (Word.Description pass to) → MayLearn table.shape seat.scanner (scanner_now seat) pass to
    → (owner ≡ board) × (at < board.words) × Allows (IsShown key) slots id m at (λ n. n) (learned_word (step slots at 0 0 none) m)
learn_ready key room board owner slots id k m table seat pass to at stands place allowed_now =
    let may = scanner_may stands (λ s j x. MayLearn s j x pass to) allowed_now in (
      scanner_same stands,
      word_small room board.words at (Word.Description pass to) stands.words place (may.1, may.2),
      subst (λ (z : Sat × ℕ × Shape). Allows (IsShown z.2) slots id z.0 z.1 (λ n. n) (learned_word (step slots z.1 0 0 none) z.0)) (λ i. (sym (scanner_here stands) i, sym place i, sym stands.rule i))
          (scanners.learns room slots id k (scanner_steps m.0) pass to may),
    )

pub scanner_read_ready : (key room : Shape) (board owner : TableId) (slots id k : ℕ) (m : Sat) (table : TableView) (seat : ScanView) (gauge : ℕ) (at : ℕ)
    → ScannerStands key room board owner k m table seat → at ≡ place_of room (Word.Value gauge) → (IsScanner table.shape seat.scanner × IsGauge table.shape gauge)
    → (owner ≡ board) × (at < board.words) × Allows (IsShown key) slots id m at (λ n. n) (scanner_read (step slots at 0 0 none) m)
scanner_read_ready key room board owner slots id k m table seat gauge at stands place allowed_now =
    let may = scanner_may stands (λ s j x. (IsScanner s j × IsGauge s gauge)) allowed_now in (
      scanner_same stands,
      word_small room board.words at (Word.Value gauge) stands.words place may.1,
      subst (λ (z : Sat × ℕ × Shape). Allows (IsShown z.2) slots id z.0 z.1 (λ n. n) (scanner_read (step slots z.1 0 0 none) z.0)) (λ i. (sym (scanner_here stands) i, sym place i, sym stands.rule i))
          (scanners.reads room slots id k (scanner_steps m.0) gauge may),
    )

pub scanner_leave_ready : (key room : Shape) (board owner : TableId) (slots id k : ℕ) (m : Sat) (table : TableView) (seat : ScanView) (pass gauge : ℕ) (at : ℕ)
    → ScannerStands key room board owner k m table seat → at ≡ place_of room (Word.Value gauge) → ScannerMayLeave table.shape seat.scanner (scanner_now seat) pass gauge
    → (owner ≡ board) × (at < board.words) × Allows (IsShown key) slots id m at (λ n. n) (scanner_left (step slots at 0 0 none) m)
scanner_leave_ready key room board owner slots id k m table seat pass gauge at stands place allowed_now =
    let may = scanner_may stands (λ s j x. ScannerMayLeave s j x pass gauge) allowed_now in (
      scanner_same stands,
      word_small room board.words at (Word.Value gauge) stands.words place may.2,
      subst (λ (z : Sat × ℕ × Shape). Allows (IsShown z.2) slots id z.0 z.1 (λ n. n) (scanner_left (step slots z.1 0 0 none) z.0)) (λ i. (sym (scanner_here stands) i, sym place i, sym stands.rule i))
          (scanners.leaves room slots id k (scanner_steps m.0) pass gauge may),
    )

pub open_ready : (key room : Shape) (board owner : TableId) (slots id pass : ℕ) (m : Sat) (table : TableView) (seat : CallerView) (at : ℕ) (word : ℕ) (g : ℕ)
    → CallerStands key room board owner pass m table seat → at ≡ place_of room (Word.Session pass) → (caller_in m.0).generation ≡ g → word ≡ packed (record { generation = g + 1; phase = Open }) → MayOpen table.shape seat.pass (caller_now seat)
    → (owner ≡ board) × (at < board.words) × Allows (IsShown key) slots id m at (λ _. word) (λ _. opened (step slots at word 0 none) m word)
open_ready key room board owner slots id pass m table seat at word g stands place gen word_is allowed_now =
    let may = caller_may stands (λ s j x. MayOpen s j x) allowed_now in (
      caller_same stands,
      word_small room board.words at (Word.Session pass) stands.words place may.0,
      subst (λ (z : Sat × ℕ × Shape × ℕ). Allows (IsShown z.2) slots id z.0 z.1 (λ _. z.3) (λ _. opened (step slots z.1 z.3 0 none) z.0 z.3)) (λ i. (sym (caller_here stands) i, sym place i, sym stands.rule i, sym (word_is ∙ ap (λ h. packed (record { generation = h + 1; phase = Open })) (sym gen ∙ ap (λ (z : Sat). (caller_in z.0).generation) (caller_here stands))) i))
          (callers.opens room slots id pass (caller_steps m.0) may),
    )

pub idle_ready : (key room : Shape) (board owner : TableId) (slots id pass : ℕ) (m : Sat) (table : TableView) (seat : CallerView) (at : ℕ) (word : ℕ) (g : ℕ)
    → CallerStands key room board owner pass m table seat → at ≡ place_of room (Word.Session pass) → (caller_in m.0).generation ≡ g → word ≡ packed (record { generation = g; phase = Phase.Idle }) → MayIdle table.shape seat.pass (caller_now seat)
    → (owner ≡ board) × (at < board.words) × Allows (IsShown key) slots id m at (λ _. word) (λ _. idled (step slots at word 0 none) m word)
idle_ready key room board owner slots id pass m table seat at word g stands place gen word_is allowed_now =
    let may = caller_may stands (λ s j x. MayIdle s j x) allowed_now in (
      caller_same stands,
      word_small room board.words at (Word.Session pass) stands.words place may.0,
      subst (λ (z : Sat × ℕ × Shape × ℕ). Allows (IsShown z.2) slots id z.0 z.1 (λ _. z.3) (λ _. idled (step slots z.1 z.3 0 none) z.0 z.3)) (λ i. (sym (caller_here stands) i, sym place i, sym stands.rule i, sym (word_is ∙ ap (λ h. packed (record { generation = h; phase = Phase.Idle })) (sym gen ∙ ap (λ (z : Sat). (caller_in z.0).generation) (caller_here stands))) i))
          (callers.idles room slots id pass (caller_steps m.0) may),
    )

pub caller_win_ready : (key room : Shape) (board owner : TableId) (slots id pass : ℕ) (m : Sat) (table : TableView) (seat : CallerView) (how : How) (at : ℕ) (old new : ℕ) (g : ℕ)
    → CallerStands key room board owner pass m table seat → at ≡ place_of room (Word.Session pass) → (caller_in m.0).generation ≡ g → old ≡ packed (record { generation = g; phase = Open }) → new ≡ packed (record { generation = g; phase = Won how (17 + pass) }) → OwnerMayWin table.shape seat.pass (caller_now seat) how
    → (owner ≡ board) × (at < board.words) × Allows (IsShown key) slots id m at (λ n. either (n == old) new n) (caller_won (step slots at old new none) m)
caller_win_ready key room board owner slots id pass m table seat how at old new g stands place gen old_is new_is allowed_now =
    let may = caller_may stands (λ s j x. OwnerMayWin s j x how) allowed_now in (
      caller_same stands,
      word_small room board.words at (Word.Session pass) stands.words place may.0,
      subst (λ (z : Sat × ℕ × Shape × ℕ × ℕ). Allows (IsShown z.2) slots id z.0 z.1 (λ n. either (n == z.3) z.4 n) (caller_won (step slots z.1 z.3 z.4 none) z.0)) (λ i. (sym (caller_here stands) i, sym place i, sym stands.rule i, sym (old_is ∙ ap (λ h. packed (record { generation = h; phase = Open })) (sym gen ∙ ap (λ (z : Sat). (caller_in z.0).generation) (caller_here stands))) i, sym (new_is ∙ ap (λ h. packed (record { generation = h; phase = Won how (17 + pass) })) (sym gen ∙ ap (λ (z : Sat). (caller_in z.0).generation) (caller_here stands))) i))
          (callers.wins room slots id pass (caller_steps m.0) how may),
    )

pub begin_ready : (key room : Shape) (board owner : TableId) (slots id k : ℕ) (m : Sat) (table : TableView) (seat : ScanView) (gauge : ℕ) (at : ℕ) (number : ℕ)
    → ScannerStands key room board owner k m table seat → at ≡ place_of room (Word.Begun gauge) → number_heard (scanner_in m.0).heard ≡ number → MayBegin table.shape seat.scanner (scanner_now seat) gauge
    → (owner ≡ board) × (at < board.words) × Allows (IsShown key) slots id m at (λ n. max n number) (began (step slots at number 0 none) m)
begin_ready key room board owner slots id k m table seat gauge at number stands place number_is allowed_now =
    let may = scanner_may stands (λ s j x. MayBegin s j x gauge) allowed_now in (
      scanner_same stands,
      word_small room board.words at (Word.Begun gauge) stands.words place may.1,
      subst (λ (z : Sat × ℕ × Shape × ℕ). Allows (IsShown z.2) slots id z.0 z.1 (λ n. max n z.3) (began (step slots z.1 z.3 0 none) z.0)) (λ i. (sym (scanner_here stands) i, sym place i, sym stands.rule i, (sym (ap (λ (z : Sat). number_heard (scanner_in z.0).heard) (scanner_here stands)) ∙ number_is) i))
          (scanners.begins room slots id k (scanner_steps m.0) gauge may),
    )

pub list_ready : (key room : Shape) (board owner : TableId) (slots id k : ℕ) (m : Sat) (table : TableView) (seat : ScanView) (pass to : ℕ) (at : ℕ) (generation : ℕ)
    → ScannerStands key room board owner k m table seat → at ≡ place_of room (Word.Mark pass to) → generation ≡ generation_met (scanner_now seat).meeting → MayMark table.shape seat.scanner (scanner_now seat) pass to
    → (owner ≡ board) × (at < board.words) × Allows (IsShown key) slots id m at (λ _. generation) (λ _. marked_word (step slots at generation 0 none) m generation)
list_ready key room board owner slots id k m table seat pass to at generation stands place generation_is allowed_now =
    let may = scanner_may stands (λ s j x. MayMark s j x pass to) allowed_now in (
      scanner_same stands,
      word_small room board.words at (Word.Mark pass to) stands.words place (may.1, scanners.mark_few room k (scanner_of room k (scanner_steps m.0)) pass to may),
      subst (λ (z : Sat × ℕ × Shape × ℕ). Allows (IsShown z.2) slots id z.0 z.1 (λ _. z.3) (λ _. marked_word (step slots z.1 z.3 0 none) z.0 z.3)) (λ i. (sym (scanner_here stands) i, sym place i, sym stands.rule i, sym (scanner_may stands (λ s j x. generation ≡ generation_met x.meeting) generation_is) i))
          (scanners.marks room slots id k (scanner_steps m.0) pass to may),
    )

pub scanner_win_ready : (key room : Shape) (board owner : TableId) (slots id k : ℕ) (m : Sat) (table : TableView) (seat : ScanView) (pass : ℕ) (how : How) (at : ℕ) (old new : ℕ) (g : ℕ)
    → ScannerStands key room board owner k m table seat → at ≡ place_of room (Word.Session pass) → generation_met (scanner_in m.0).meeting ≡ g → old ≡ packed (record { generation = g; phase = Open }) → new ≡ packed (record { generation = g; phase = Won how k }) → ScannerMayWin table.shape seat.scanner (scanner_now seat) pass how
    → (owner ≡ board) × (at < board.words) × Allows (IsShown key) slots id m at (λ n. either (n == old) new n) (scanner_won (step slots at old new none) m)
scanner_win_ready key room board owner slots id k m table seat pass how at old new g stands place gen old_is new_is allowed_now =
    let may = scanner_may stands (λ s j x. ScannerMayWin s j x pass how) allowed_now in (
      scanner_same stands,
      word_small room board.words at (Word.Session pass) stands.words place may.1,
      subst (λ (z : Sat × ℕ × Shape × ℕ × ℕ). Allows (IsShown z.2) slots id z.0 z.1 (λ n. either (n == z.3) z.4 n) (scanner_won (step slots z.1 z.3 z.4 none) z.0)) (λ i. (sym (scanner_here stands) i, sym place i, sym stands.rule i, sym (old_is ∙ ap (λ h. packed (record { generation = h; phase = Open })) (sym gen ∙ ap (λ (z : Sat). generation_met (scanner_in z.0).meeting) (scanner_here stands))) i, sym (new_is ∙ ap (λ h. packed (record { generation = h; phase = Won how k })) (sym gen ∙ ap (λ (z : Sat). generation_met (scanner_in z.0).meeting) (scanner_here stands))) i))
          (scanners.wins room slots id k (scanner_steps m.0) pass how may),
    )
