use Rattle.std.proofs.Common.{◌≡◌, ◌<◌, false, length, sym, ap, ◌∙◌, arith}
use Rattle.std.proofs.lemmas.Bool.Decides.{nat_tests}
use Rattle.std.specs.Prelude.{codes, nat_eq}
use Rattle.std.specs.Cmp.Lexicographic.{pointwise, other_text}
use Rattle.kwire.proofs.config.is_topic_name.Goals as goal

pub returns : goal.returns
returns c =
    let name = c.args.name.now in
    let empty : false ≡ c.is_empty.result = sym c.if-is_empty.false in
    let not_empty : 0 < length name = grind (arith, nat_tests, c.is_empty.ensures) in
    let one : false ≡ pointwise nat_eq name (codes ".") = sym c.if-eq.false ∙ c.eq.ensures ∙ ap (pointwise nat_eq name) c.as_slice.ensures in
    let two : false ≡ pointwise nat_eq name (codes "..") = sym c.if-eq-2.false ∙ c.eq-else-eq.ensures ∙ ap (pointwise nat_eq name) c.as_slice-else-eq.ensures in (
      λ h. record {
        some = not_empty;
        short = omega arith;
        bytes = sym c.are_name_bytes.ensures ∙ h;
        no_dot = other_text name (codes ".") one;
        no_dots = other_text name (codes "..") two;
      },
      λ h. c.are_name_bytes.ensures ∙ h.bytes,
    )
