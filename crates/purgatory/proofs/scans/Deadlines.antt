-- An operation that is listed under its deadline.
use Rattle.std.proofs.Common.{inl, inr, ◌≡◌, ◌≢◌, ◌∙◌, ℕ, ◌≤◌, Option, Some, ap, refl, subst, sym}
use Rattle.room_core.specs.declared.parts.Meeting.{Meeting}
use Rattle.room_core.specs.declared.parts.Session.{Session}
use Rattle.room_core.specs.declared.shape.Shape.{Shape}
use Rattle.room_core.specs.Description.{marked_gauge}
use Rattle.room_core.specs.Gauges.{IsPass, clock_of}
use Rattle.room_core.specs.Meetings.{IsMet, MayMark, generation_met, scanner_learns, scanner_marks}
use Rattle.room_core.specs.Numbers.{clock_mark, clock_scanner}
use Rattle.room_core.specs.Put.{put}
use Rattle.room_core.specs.Readings.{read_only}
use Rattle.room_core.specs.State.{Scanner}
use Rattle.room_core.proofs.Laws.{put_here}
use Rattle.room_table.specs.declared.part.ScannerStep.{ScannerStep}
use Rattle.room_table.specs.Seats.{ScanView, scanner_did, scanner_now}
use Rattle.purgatory.specs.scans.Listing.{HasListedDeadline}
use Rattle.purgatory.specs.scans.Shelf.{open_generation}
use Rattle.purgatory.proofs.scans.Goes.{stays}
use Rattle.purgatory.proofs.scans.Sessions.{is_open_at, not_live}
use Rattle.purgatory.proofs.scans.Tables.{some_here}
use Rattle.purgatory.proofs.scans.Watching.{meeting_is}

-- it met the pass open at a generation
pub meets_open : (old met : ScanView) (pass generation : ℕ) (found : Session) → 1 ≤ generation → met ≡ scanner_did old (ScannerStep.Met pass found) → open_generation found ≡ generation
    → IsMet (scanner_now met).meeting pass
meets_open old met pass generation found some first same =
    subst (λ (m : Option Meeting). IsMet m pass) (sym (meeting_is old met pass generation found some first same)) refl

-- and learned the deadline
module _ (old met learned : ScanView) (pass generation deadline : ℕ) (found : Session) (some : 1 ≤ generation) (first : met ≡ scanner_did old (ScannerStep.Met pass found))
    (same : open_generation found ≡ generation) (second : learned ≡ scanner_did met (ScannerStep.Learned 1 deadline)) where
  abbrev after : ScanView
  after = scanner_did (scanner_did old (ScannerStep.Met pass found)) (ScannerStep.Learned 1 deadline)

  pub after_is : learned ≡ after
  after_is = second ∙ ap (λ (v : ScanView). scanner_did v (ScannerStep.Learned 1 deadline)) first

  pub marks_clock : IsPass old.table.shape pass → old.scanner ≡ clock_scanner → MayMark learned.table.shape learned.scanner (scanner_now learned) pass clock_mark
  marks_clock there clock =
      subst (λ (v : ScanView). MayMark v.table.shape v.scanner (scanner_now v) pass clock_mark) (sym after_is) (
        inr clock,
        there,
        subst (λ (v : ScanView). IsMet (scanner_now v).meeting pass) first (meets_open old met pass generation found some first same),
        inr (record { clock = refl; deadline = some_here (scanner_now (scanner_did old (ScannerStep.Met pass found))).learned 1 deadline; own = clock }),
      )

  pub marks_generation : generation ≡ generation_met (scanner_now learned).meeting
  marks_generation =
      sym (ap (λ (v : ScanView). generation_met (scanner_now v).meeting) second ∙ ap generation_met (meeting_is old met pass generation found some first same))

  pub lists_deadline : (new : ScanView) → new ≡ scanner_did learned (ScannerStep.Listed pass clock_mark) → HasListedDeadline pass generation old new
  lists_deadline new third = inl (record {
    before = old;
    deadline = deadline;
    came = stays old;
    steps = third
        ∙ ap (λ (v : ScanView). scanner_did v (ScannerStep.Listed pass clock_mark)) after_is
        ∙ ap (λ (w : Session). scanner_did (scanner_did (scanner_did old (ScannerStep.Met pass w)) (ScannerStep.Learned 1 deadline)) (ScannerStep.Listed pass clock_mark)) (is_open_at found generation some same);
  })

-- it met the pass, which isn't open at the generation
pub found_else : (old new : ScanView) (pass generation : ℕ) (found : Session) → new ≡ scanner_did old (ScannerStep.Met pass found) → open_generation found ≢ generation
    → HasListedDeadline pass generation old new
found_else old new pass generation found step other =
    inr (record { before = old; found = found; came = stays old; steps = step; other = not_live found generation other })

-- the listing then
pub marked_is : (s : Scanner) (shape : Shape) (pass deadline : ℕ)
    → (scanner_marks shape (scanner_learns s 1 deadline) pass clock_mark).listing
    ≡ put s.listing (clock_of shape) (put (s.listing (clock_of shape)) pass (Some (record { generation = generation_met s.meeting; deadline = deadline })))
unfolding marked_gauge
marked_is s shape pass deadline =
    ap (λ n. put s.listing (clock_of shape) (put (s.listing (clock_of shape)) pass (Some (record { generation = generation_met s.meeting; deadline = n }))))
    (ap (λ (o : Option ℕ). read_only (λ at. o) 1) (put_here s.learned 1 (Some deadline)))
