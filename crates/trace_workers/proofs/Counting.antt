-- How many sessions lines name.
use Rattle.std.proofs.Common.{◌≡◌, ◌∙◌, ◌+◌, ◌<◌, ◌≤◌, ℕ, true, List, [], ◌∷◌, drop, get_or, length, max, refl, arith}
use Rattle.std.proofs.lemmas.Bool.{eq-eqb, or_left, or_right}
use Rattle.std.proofs.lemmas.List.{at_drop_more}
use Rattle.trace_file.proofs.Laws.{few_sessions}
use Rattle.trace_file.specs.Contents.{is_named, names, sessions_of}
use Rattle.trace_file.specs.declared.line.Line.{Line}
use Rattle.trace_file.specs.declared.line.Line.TheVariants.{Topic, Feed, Shut, Clock, End}
use Rattle.trace_file.specs.declared.line.TheConstants.{MOST_SESSIONS}
use Rattle.trace_workers.specs.Playable.{AreTraced}

-- the first line, and those behind it
pub one_line : (line : Line) (lines : List Line) → sessions_of (line ∷ lines) ≡ max (sessions_of (line ∷ [])) (sessions_of lines)
one_line (Topic name partitions followers least) lines = omega arith
one_line (Feed session bytes) lines = omega arith
one_line (Shut session) lines = omega arith
one_line (Clock t) lines = omega arith
one_line End lines = omega arith

line_below : (n : ℕ) (line : Line) → ((session : ℕ) → names session line ≡ true → session < n) → sessions_of (line ∷ []) ≤ n
line_below n (Topic name partitions followers least) below = omega arith
line_below n (Feed session bytes) below = omega (arith, below session (eq-eqb session session refl))
line_below n (Shut session) below = omega (arith, below session (eq-eqb session session refl))
line_below n (Clock t) below = omega arith
line_below n End below = omega arith

all_below : (n : ℕ) (lines : List Line) → ((session : ℕ) → is_named session lines ≡ true → session < n) → sessions_of lines ≤ n
all_below n [] below = omega arith
all_below n (line ∷ lines) below =
    let first = line_below n line (λ session e. below session (or_left (names session line) (is_named session lines) e)) in
    let rest = all_below n lines (λ session e. below session (or_right (names session line) (is_named session lines) e)) in
    omega (arith, one_line line lines, first, rest)

pub few_counted : (lines : List Line) → AreTraced lines → sessions_of lines ≤ MOST_SESSIONS
few_counted lines traced = all_below MOST_SESSIONS lines (λ session e. few_sessions traced.0 lines session traced.1 e)

-- those behind one more line
pub counted_more : (lines : List Line) (i : ℕ) (line : Line) → i < length lines → sessions_of (drop i lines) ≡ max (sessions_of (get_or lines i line ∷ [])) (sessions_of (drop (i + 1) lines))
counted_more lines i line less = at_drop_more sessions_of lines i line less ∙ one_line (get_or lines i line) (drop (i + 1) lines)
