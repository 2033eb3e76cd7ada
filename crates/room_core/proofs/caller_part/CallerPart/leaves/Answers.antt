use Rattle.std.proofs.Common.{◌≡◌, ℕ, ◌<◌, Bool, ◌||◌, Option, Some, None, List, length, set, cond, arith, ◌∙◌, ap}
use Rattle.room_core.specs.declared.parts.Stage.{Stage}
use Rattle.room_core.specs.declared.parts.Stage.TheVariants.{Checking, Waiting}
use Rattle.room_core.specs.CallerTables.{caller_of, table}
use Rattle.room_core.specs.Checks.{is_overdue, is_satisfied}
use Rattle.room_core.specs.Put.{put}
use Rattle.room_core.proofs.CallerViews.{risen}
use Rattle.room_core.proofs.Views.{table_set}
use Rattle.room_core.proofs.caller_part.CallerPart.leaves.Goals as goal

pub returns-clause-part : goal.returns-clause-part
returns-clause-part c =
    let l : c.args.gauge < length c.args.self.now.greatest.items = omega (arith, c.requires, c.args.self.now.sized.greatest_size) in
    let m : c.args.gauge < length c.args.self.now.readings.items = omega (arith, c.requires, c.args.self.now.whole.readings_size) in
    let readings : table (set c.args.self.now.readings.items c.args.gauge (Some c.args.value)) None ≡ put (table c.args.self.now.readings.items None) c.args.gauge (Some c.args.value) =
    table_set c.args.self.now.readings.items c.args.gauge (Some c.args.value) None m in
    let answers = λ (words : ℕ → ℕ) (taken : ℕ → Option ℕ). is_satisfied words taken || is_overdue c.args.shape words taken in
    let answerable : c.is_answerable.result ≡ (is_satisfied (table c.args.self.now.description.items 0) (put (table c.args.self.now.readings.items None) c.args.gauge (Some c.args.value)) || is_overdue c.args.shape (table c.args.self.now.description.items 0) (put (table c.args.self.now.readings.items None) c.args.gauge (Some c.args.value))) =
    c.is_answerable.ensures
    ∙ ap (λ (xs : List ℕ). answers (table xs 0) (table c.deref-2.result.now None)) c.deref.ensures.value
    ∙ ap (λ (xs : List (Option ℕ)). answers (table c.args.self.now.description.items 0) (table xs None)) c.deref-2.ensures.value
    ∙ ap (answers (table c.args.self.now.description.items 0)) readings in
    let stage = c.stage_of_check-self.ensures ∙ ap (λ (b : Bool). cond {A = Stage} b Checking Waiting) answerable in
    λ d. record (caller_of c.args.self.now) {
      greatest = risen c.args.self.now.greatest.items c.args.gauge c.index-greatest.result.now c.max.result c.args.value l c.index-greatest.ensures c.max.ensures d;
      readings = readings d;
      stage = stage d;
    }
