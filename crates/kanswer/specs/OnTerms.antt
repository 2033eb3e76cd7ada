-- What is so of a produce on these terms.
use Rattle.std.specs.Prelude.{◌≡◌, ℕ, List, Option, is_some}
use Rattle.kanswer.specs.declared.terms.Terms.{Terms}

-- for each transactional id that a produce on these terms may have
abbrev pub OnTerms : Terms → (Option (List ℕ) → Type 0) → Type 0
OnTerms terms P = (id : Option (List ℕ)) → is_some id ≡ terms.is_transactional → P id
