-- What the crates above may cite.
use Rattle.std.proofs.Common.{⊎_elim, ◌≡◌, ◌∙◌, ◌⊎◌, ℕ, zero, suc, ◌+◌, ◌*◌, List, [], ◌∷◌, ap, refl, subst, sym}
use Rattle.room_core.specs.Numbers.{clock_mark}
use Rattle.room_table.specs.declared.part.ScannerStep.{ScannerStep}
use Rattle.room_table.specs.Seats.{ScanView, TableView, scanner_did, scanner_now}
use Rattle.purgatory.specs.scans.Desks.{desk_name}
use Rattle.purgatory.specs.scans.Going.{GoesOn}
use Rattle.purgatory.specs.scans.Listing.{FoundElse, HasListedDeadline, HasListedNeed, IsListedDeadline, IsListedNeed, IsNoNeed, need_learned, open_at}
use Rattle.purgatory.specs.scans.Scanned.{HasScanned, scan_begun}
use Rattle.purgatory.proofs.scans.Goes.{goes_by, goes_far, stays}

abbrev head_or : ℕ → List ℕ → ℕ
head_or n [] = n
head_or n (x ∷ xs) = x

abbrev rest : List ℕ → List ℕ
rest [] = []
rest (x ∷ xs) = xs

-- a list of numbers, read as a table
abbrev number_at : ℕ → List ℕ → ℕ
number_at zero xs = head_or 0 xs
number_at (suc n) xs = number_at n (rest xs)

-- a desk's name fixes its scanner and its table
pub name_number : (t u : TableView) (k l : ℕ) → desk_name t k ≡ desk_name u l → k ≡ l
name_number t u k l e = ap (head_or 0) e

abbrev table_in : List ℕ → TableView
table_in xs = record {
  shape = record { gauges = number_at 1 xs; passes = number_at 2 xs; scanners = number_at 3 xs };
  id = record {
    words = number_at 4 xs;
    slots = number_at 5 xs;
    views_name = number_at 6 xs;
    atom = number_at 7 xs;
    block = number_at 8 xs;
    offset = number_at 9 xs;
    slot_names = rest (rest (rest (rest (rest (rest (rest (rest (rest (rest xs)))))))));
  };
}

pub name_table : (t u : TableView) (k l : ℕ) → desk_name t k ≡ desk_name u l → t ≡ u
name_table t u k l e = ap table_in e

-- whatever a call listed or scanned, the seat goes on

need_goes : (old before : ScanView) (pass generation at needs gauge : ℕ) → GoesOn old before → GoesOn old (need_learned before pass generation at needs gauge)
need_goes old before pass generation at needs gauge came =
    let met = scanner_did before (ScannerStep.Met pass (open_at generation)) in
    let count = scanner_did met (ScannerStep.Learned 2 needs) in
    goes_by old count (need_learned before pass generation at needs gauge) (ScannerStep.Learned (3 + 3 * at) gauge)
    (goes_by old met count (ScannerStep.Learned 2 needs) (goes_by old before met (ScannerStep.Met pass (open_at generation)) came refl) refl) refl

else_goes : (pass generation : ℕ) (old new : ScanView) → FoundElse pass generation old new → GoesOn old new
else_goes pass generation old new e = goes_by old e.before new (ScannerStep.Met pass e.found) e.came e.steps

pub listed_goes : (pass generation at : ℕ) (old new : ScanView) → HasListedNeed pass generation at old new → GoesOn old new
listed_goes pass generation at old new h =
    ⊎_elim
    (λ (l : IsListedNeed pass generation at old new).
    goes_by old (need_learned l.before pass generation at l.needs l.gauge) new (ScannerStep.Listed pass at) (need_goes old l.before pass generation at l.needs l.gauge l.came) l.steps)
    (λ (o : FoundElse pass generation old new ⊎ IsNoNeed pass generation at old new).
    ⊎_elim
    (λ (e : FoundElse pass generation old new). else_goes pass generation old new e)
    (λ (n : IsNoNeed pass generation at old new).
    goes_far old (need_learned n.before pass generation at n.needs n.gauge) new (need_goes old n.before pass generation at n.needs n.gauge n.came)
    (subst (GoesOn (need_learned n.before pass generation at n.needs n.gauge)) (sym n.steps) (stays (need_learned n.before pass generation at n.needs n.gauge))))
    o)
    h

pub listed_deadline_goes : (pass generation : ℕ) (old new : ScanView) → HasListedDeadline pass generation old new → GoesOn old new
listed_deadline_goes pass generation old new h =
    ⊎_elim
    (λ (l : IsListedDeadline pass generation old new).
    let met = scanner_did l.before (ScannerStep.Met pass (open_at generation)) in
    let learned = scanner_did met (ScannerStep.Learned 1 l.deadline) in
    goes_by old learned new (ScannerStep.Listed pass clock_mark)
    (goes_by old met learned (ScannerStep.Learned 1 l.deadline) (goes_by old l.before met (ScannerStep.Met pass (open_at generation)) l.came refl) refl) l.steps)
    (λ (e : FoundElse pass generation old new). else_goes pass generation old new e)
    h

pub scanned_goes : (gauge : ℕ) (old new : ScanView) → HasScanned gauge old new → GoesOn old new
scanned_goes gauge old new h =
    let heard = scanner_did old (ScannerStep.Heard gauge h.heard) in
    goes_far old (scan_begun old gauge h.heard) new
    (goes_by old heard (scan_begun old gauge h.heard) (ScannerStep.Began gauge ((scanner_now old).began gauge)) (goes_by old old heard (ScannerStep.Heard gauge h.heard) (stays old) refl) refl)
    h.went

-- a seat that goes on keeps its desk's name
pub name_goes : (old new : ScanView) → GoesOn old new → desk_name new.table new.scanner ≡ desk_name old.table old.scanner
name_goes old new g = ap (λ (t : TableView). desk_name t new.scanner) g.table ∙ ap (desk_name old.table) g.scanner

pub goes_twice : (a b c : ScanView) → GoesOn a b → GoesOn b c → GoesOn a c
goes_twice = goes_far
