-- Every event, and every run, keeps what is carried.
use Rattle.std.proofs.Common.{⊎_elim, ◌≡◌, List, [], ◌∷◌, sym, subst}
use Rattle.room_core.specs.declared.event.CoreEvent.{CoreEvent}
use Rattle.room_core.specs.declared.event.CoreEvent.TheVariants.{Store, Ask, Hush, Hear, Begin, Relieve, Describe, Open, Meet, Learn, Mark, Marked, Read, Leave, Win, Peek, Idle, Part}
use Rattle.room_core.specs.declared.event.Party.TheVariants.{Pass, Scanner}
use Rattle.room_core.specs.declared.shape.Shape.{Shape}
use Rattle.room_core.specs.Gauges.{IsShape}
use Rattle.room_core.specs.Carried.{IsCarried, IsUpheld}
use Rattle.room_core.specs.Within.{IsWithin}
use Rattle.room_core.specs.Run.{IsStep, IsRun}
use Rattle.room_core.specs.Start.{start_of}
use Rattle.room_core.specs.State.{State}
use Rattle.room_core.specs.Step.{IsAllowed, changed}
use Rattle.room_core.proofs.Bounds.{stays_within}
use Rattle.room_core.proofs.Asking.{keeps as ask}
use Rattle.room_core.proofs.Beginning.{keeps as begin}
use Rattle.room_core.proofs.Describing.{keeps as describe}
use Rattle.room_core.proofs.Hearing.{keeps as hear}
use Rattle.room_core.proofs.Hushing.{keeps as hush}
use Rattle.room_core.proofs.Idling.{keeps as idle}
use Rattle.room_core.proofs.Learning.{keeps as learn}
use Rattle.room_core.proofs.Marking.{keeps as mark}
use Rattle.room_core.proofs.Meetings.{keeps as meet}
use Rattle.room_core.proofs.Opening.{keeps as opens}
use Rattle.room_core.proofs.PassLeaving.{keeps as pass_leaves}
use Rattle.room_core.proofs.PassReading.{keeps as pass_reads}
use Rattle.room_core.proofs.PassWinning.{keeps as pass_wins}
use Rattle.room_core.proofs.Peeking.{keeps as peek}
use Rattle.room_core.proofs.Relieving.{keeps as relieve}
use Rattle.room_core.proofs.ScannerLeaving.{keeps as scanner_leaves}
use Rattle.room_core.proofs.ScannerReading.{keeps as scanner_reads}
use Rattle.room_core.proofs.ScannerWinning.{keeps as scanner_wins}
use Rattle.room_core.proofs.SeeingMarks.{keeps as see_mark}
use Rattle.room_core.proofs.Starting.{starts, starts_within}
use Rattle.room_core.proofs.Storing.{keeps as store}

upholds : (s : State) (event : CoreEvent) → IsUpheld s → IsAllowed s event → IsUpheld (changed s event)
upholds s (Store gauge value) c can = store s gauge value c can
upholds s (Ask pass gauge value) c can = ask s pass gauge value c can
upholds s (Hush gauge) c can = hush s gauge c can
upholds s (Hear scanner gauge) c can = hear s scanner gauge c can
upholds s (Begin scanner gauge) c can = begin s scanner gauge c can
upholds s (Relieve pass gauge) c can = relieve s pass gauge c can
upholds s (Describe pass at word) c can = describe s pass at word c can
upholds s (Open pass) c can = opens s pass c can
upholds s (Meet scanner pass) c can = meet s scanner pass c can
upholds s (Learn scanner pass at) c can = learn s scanner pass at c can
upholds s (Mark scanner pass at) c can = mark s scanner pass at c can
upholds s (Marked pass at) c can = see_mark s pass at c can
upholds s (Read (Pass pass) gauge) c can = pass_reads s pass gauge c can
upholds s (Read (Scanner scanner) gauge) c can = scanner_reads s scanner gauge c can
upholds s (Leave (Pass own) pass gauge) c can = pass_leaves s pass gauge c can.1
upholds s (Leave (Scanner scanner) pass gauge) c can = scanner_leaves s scanner pass gauge c can
upholds s (Win (Pass own) pass how) c can = pass_wins s pass how c can.1
upholds s (Win (Scanner scanner) pass how) c can = scanner_wins s scanner pass how c can
upholds s (Peek pass) c can = peek s pass c can
upholds s (Idle pass) c can = idle s pass c can
upholds s Part c can = c

upheld : (s : State) → IsCarried s → IsUpheld s
upheld s c = record { shape = c.shape; sound = c.sound; opened = c.opened; scanners = c.scanners }

both : (s : State) → IsUpheld s → IsWithin s → IsCarried s
both s u w = record { shape = u.shape; sound = u.sound; opened = u.opened; scanners = u.scanners; within = w }

pub keeps : (s : State) (event : CoreEvent) → IsCarried s → IsAllowed s event → IsCarried (changed s event)
keeps s event c can = both (changed s event) (upholds s event (upheld s c) can) (stays_within s event (upheld s c) c.within can)

pub begins : (shape : Shape) → IsShape shape → IsCarried (start_of shape)
begins shape h = both (start_of shape) (starts shape h) (starts_within shape)

pub step_keeps : (s : State) (event : CoreEvent) (next : State) → IsCarried s → IsStep s event next → IsCarried next
step_keeps s event next c =
    ⊎_elim
    (λ (y : IsAllowed s event × (next ≡ changed s event)). subst IsCarried (sym y.1) (keeps s event c y.0))
    (λ (n : (IsAllowed s event → ⊥) × (next ≡ s)). subst IsCarried (sym n.1) c)

pub run_keeps : (s : State) (events : List CoreEvent) (last : State) → IsCarried s → IsRun s events last → IsCarried last
run_keeps s [] last c r = subst IsCarried (sym r) c
run_keeps s (event ∷ events) last c r = run_keeps r.0 events last (step_keeps s event r.0 c r.1) r.2

pub runs_keep : (shape : Shape) (events : List CoreEvent) (last : State) → IsShape shape → IsRun (start_of shape) events last → IsCarried last
runs_keep shape events last h r = run_keeps (start_of shape) events last (begins shape h) r
