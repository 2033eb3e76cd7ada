-- Seats that go on.
use Rattle.std.proofs.Common.{◌≡◌, ◌∙◌, ℕ, ap, refl, subst, sym, [], ◌∷◌, ◌++◌, append_assoc}
use Rattle.room_core.specs.declared.parts.Session.{Session}
use Rattle.room_table.specs.declared.part.ScannerStep.{ScannerStep}
use Rattle.room_table.specs.Seats.{ScanView, scanner_did}
use Rattle.purgatory.specs.scans.Going.{GoesOn, HasMet}

pub stays : (a : ScanView) → GoesOn a a
stays a = record { table = refl; scanner = refl; newer = []; steps = refl }

-- by a step more
pub goes_by : (a b c : ScanView) (step : ScannerStep) → GoesOn a b → c ≡ scanner_did b step → GoesOn a c
goes_by a b c step g e = record {
  table = ap (λ (v : ScanView). v.table) e ∙ g.table;
  scanner = ap (λ (v : ScanView). v.scanner) e ∙ g.scanner;
  newer = step ∷ g.newer;
  steps = ap (λ (v : ScanView). v.steps) e ∙ ap (λ steps. step ∷ steps) g.steps;
}

pub one_step : (a b : ScanView) (step : ScannerStep) → b ≡ scanner_did a step → GoesOn a b
one_step a b step e = goes_by a a b step (stays a) e

pub goes_far : (a b c : ScanView) → GoesOn a b → GoesOn b c → GoesOn a c
goes_far a b c g h = record {
  table = h.table ∙ g.table;
  scanner = h.scanner ∙ g.scanner;
  newer = h.newer ++ g.newer;
  steps = h.steps ∙ ap (λ steps. h.newer ++ steps) g.steps ∙ sym (append_assoc h.newer g.newer a.steps);
}

-- a pass that was met earlier
pub met_then : (pass : ℕ) (a b c : ScanView) → HasMet pass a b → GoesOn b c → HasMet pass a c
met_then pass a b c m g = record { before = m.before; found = m.found; came = m.came; went = goes_far _ b c m.went g }

pub met_after : (pass : ℕ) (a b c : ScanView) → GoesOn a b → HasMet pass b c → HasMet pass a c
met_after pass a b c g m = record { before = m.before; found = m.found; came = goes_far a b _ g m.came; went = m.went }

pub met_now : (pass : ℕ) (a b c : ScanView) (found : Session) → GoesOn a b → c ≡ scanner_did b (ScannerStep.Met pass found) → HasMet pass a c
met_now pass a b c found g e = record { before = b; found = found; came = g; went = subst (λ (v : ScanView). GoesOn (scanner_did b (ScannerStep.Met pass found)) v) (sym e) (stays (scanner_did b (ScannerStep.Met pass found))) }
