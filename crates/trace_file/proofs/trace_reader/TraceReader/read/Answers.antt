use Rattle.std.proofs.Common.{◌≡◌, List, ℕ, ◌++◌, sym, ap, subst, ◌∙◌}
use Rattle.std.proofs.lemmas.Result.{on_ok_weaker}
use Rattle.trace_file.specs.TextRead.{HasRead, IsCut}
use Rattle.trace_file.specs.Trace.{pieces_of}
use Rattle.trace_file.proofs.Begun.{cut_open, cut_read, front_read, pieces_read}
use Rattle.trace_file.proofs.trace_reader.TraceReader.read.Goals as goal

pub returns-in_default-clause-read : goal.returns-in_default-clause-read
returns-in_default-clause-read g c =
    let part = c.args.part.now in
    let begun = c.args.self.now.begun in
    on_ok_weaker c.extend.result
    (λ now only text front cut h. (front, subst (λ (b : List ℕ). IsCut (text ++ part) front b) (sym now) (cut_open text front begun part cut c.in_default.ensures.none), h)) c.extend.ensures.ok

pub returns-clause-read : goal.returns-clause-read
returns-clause-read g c =
    let part = c.args.part.now in
    let begun = c.args.self.now.begun in
    let first = c.in-Some.first.now in
    let lines = c.in-Some.lines.now in
    let rest = c.in-Some.begun.now in
    let of = c.in-Some.ensures in
    let line : c.as_slice.result.now ≡ begun ++ first = c.as_slice.ensures ∙ c.in_ok-extend.ensures.ok in
    on_ok_weaker c.extend-3.result
    (λ ok only text front cut h.
    let now : c.extend-3.new.self ≡ rest = ok ∙ ap (λ (b : List ℕ). b ++ rest) c.truncate.ensures in
    let all = ap (λ (t : List ℕ). (pieces_of front ++ pieces_of t) ++ pieces_of lines) line ∙ pieces_read text front begun first lines cut of.first in
    let read = c.in_ok-take_shares.ensures.taken only (pieces_of front ++ pieces_of c.as_slice.result.now) (c.in_ok-read.ensures.taken only (pieces_of front) h) in (
      front_read front begun first lines,
      subst (λ (b : List ℕ). IsCut (text ++ part) (front_read front begun first lines) b) (sym now) (cut_read text front begun part first lines rest cut of.whole of.first of.lines of.begun),
      subst (λ (ps : List (List ℕ)). HasRead only ps c.take_shares.new.reading) all read,
    ))
    c.extend-3.ensures.ok
