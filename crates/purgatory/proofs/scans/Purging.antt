-- A shard that is purged: every pass is met, and what isn't live goes.
use Rattle.std.proofs.Common.{⊎_elim, ◌≡◌, ◌∙◌, ℕ, ◌+◌, ◌<◌, ◌≤◌, List, Option, None, true, length, set, ap, sym, arith}
use Rattle.std.specs.Prelude.{slice_index}
use Rattle.std.proofs.lemmas.Bool.{cases_lt}
use Rattle.std.proofs.lemmas.List.{get_or-set_other, get_or-set_same}
use Rattle.room_core.specs.declared.parts.Duty.{Duty}
use Rattle.room_core.specs.declared.parts.Session.{Session}
use Rattle.room_core.specs.declared.shape.Shape.{Shape}
use Rattle.room_core.specs.Meetings.{is_live, live_duty, scanner_meets}
use Rattle.room_core.specs.Scans.{HasNoDuty}
use Rattle.room_core.specs.State.{Scanner}
use Rattle.room_core.proofs.Laws.{at_put, no_duty_lives}
use Rattle.purgatory.specs.scans.ShardKeeps.{AreEntries}
use Rattle.purgatory.specs.scans.Shelf.{open_generation}
use Rattle.purgatory.proofs.scans.Entries.{entries_by, entries_met}
use Rattle.purgatory.proofs.scans.Sessions.{is_live_at, live_at}

pub meets_no_duty : (s : Scanner) (pass : ℕ) (w : Session) → HasNoDuty s → HasNoDuty (scanner_meets s pass w)
meets_no_duty s pass w none = at_put s.duties pass (live_duty w (s.duties pass)) (λ p (o : Option Duty). o ≡ None) (no_duty_lives w (s.duties pass) (none pass)) (λ p n. none p)

-- of the passes that were met the live ones are left
pub entries_purged : (shape : Shape) (k : ℕ) (listed : ℕ → ℕ → ℕ → Type 0) (s : Scanner) (live : List ℕ) (pass : ℕ) (w : Session)
    → pass < length live → ((key p g : ℕ) → listed key p g → 1 ≤ g)
    → AreEntries shape k (λ key p g. listed key p g × (p < pass → g ≡ slice_index live p)) s
    → AreEntries shape k (λ key p g. listed key p g × (p < pass + 1 → g ≡ slice_index (set live pass (open_generation w)) p)) (scanner_meets s pass w)
entries_purged shape k listed s live pass w there some a =
    let latest = open_generation w in
    let after = set live pass latest in
    let here : slice_index after pass ≡ latest = get_or-set_same live pass latest 0 there in
    entries_by shape k
    (λ key p g. (listed key p g × (p < pass → g ≡ slice_index live p)) × (p ≡ pass → is_live w g ≡ true))
    (λ key p g. listed key p g × (p < pass + 1 → g ≡ slice_index after p))
    (scanner_meets s pass w)
    (λ key p g. (
      λ h. (
        (h.0, λ l. h.1 (omega (arith, l)) ∙ get_or-set_other live pass p latest 0 (λ e. omega (arith, e, l))),
        λ e. is_live_at w g (some key p g h.0) (h.1 (omega (arith, e)) ∙ ap (slice_index after) e ∙ here),
      ),
      λ h. (
        h.0.0,
        λ l.
            ⊎_elim
            (λ (less : p < pass). h.0.1 less ∙ sym (get_or-set_other live pass p latest 0 (λ e. omega (arith, e, less))))
            (λ (more : pass ≤ p). let e : p ≡ pass = omega (arith, l, more) in live_at w g (h.1 e) ∙ sym here ∙ ap (slice_index after) (sym e))
            (cases_lt p pass),
      ),
    ))
    (entries_met shape k (λ key p g. listed key p g × (p < pass → g ≡ slice_index live p)) s pass w a)
