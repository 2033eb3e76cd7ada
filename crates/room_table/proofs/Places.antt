-- No two words of the room have one place.
use Rattle.std.proofs.Common.{◌≡◌, ℕ, ◌+◌, ◌*◌, ◌<◌, ap, arith}
use Rattle.room_core.specs.declared.shape.Shape.{Shape}
use Rattle.room_core.specs.declared.word.Word.{Word}
use Rattle.room_core.specs.Words.{IsWord}
use Rattle.room_table.specs.Layout.{place_of, size_of}

pub place_small : (shape : Shape) (w : Word) → IsWord shape w → place_of shape w < size_of shape
place_small shape (Word.Value g) is = omega arith
place_small shape (Word.Asked g) is = omega arith
place_small shape (Word.Begun g) is = omega arith
place_small shape (Word.Session p) is = omega arith
place_small shape (Word.Description p at) is = omega (arith, is.0, is.1)
place_small shape (Word.Mark p at) is = omega (arith, is.0, is.1)

same_pass : (p q a b : ℕ) → 261 * p + a ≡ 261 * q + b → a < 261 → b < 261 → (p ≡ q) × (a ≡ b)
same_pass p q a b e l m = (omega arith, omega arith)

pub same_word : (shape : Shape) (v w : Word) → IsWord shape v → IsWord shape w → place_of shape v ≡ place_of shape w → v ≡ w
same_word shape (Word.Value g) (Word.Value h) i j e = ap Word.Value e
same_word shape (Word.Value g) (Word.Asked h) i j e = absurd (omega arith)
same_word shape (Word.Value g) (Word.Begun h) i j e = absurd (omega arith)
same_word shape (Word.Value g) (Word.Session p) i j e = absurd (omega arith)
same_word shape (Word.Value g) (Word.Description p at) i j e = absurd (omega arith)
same_word shape (Word.Value g) (Word.Mark p at) i j e = absurd (omega arith)
same_word shape (Word.Asked g) (Word.Value h) i j e = absurd (omega arith)
same_word shape (Word.Asked g) (Word.Asked h) i j e = let k : g ≡ h = omega arith in ap Word.Asked k
same_word shape (Word.Asked g) (Word.Begun h) i j e = absurd (omega arith)
same_word shape (Word.Asked g) (Word.Session p) i j e = absurd (omega arith)
same_word shape (Word.Asked g) (Word.Description p at) i j e = absurd (omega arith)
same_word shape (Word.Asked g) (Word.Mark p at) i j e = absurd (omega arith)
same_word shape (Word.Begun g) (Word.Value h) i j e = absurd (omega arith)
same_word shape (Word.Begun g) (Word.Asked h) i j e = absurd (omega arith)
same_word shape (Word.Begun g) (Word.Begun h) i j e = let k : g ≡ h = omega arith in ap Word.Begun k
same_word shape (Word.Begun g) (Word.Session p) i j e = absurd (omega arith)
same_word shape (Word.Begun g) (Word.Description p at) i j e = absurd (omega arith)
same_word shape (Word.Begun g) (Word.Mark p at) i j e = absurd (omega arith)
same_word shape (Word.Session p) (Word.Value h) i j e = absurd (omega arith)
same_word shape (Word.Session p) (Word.Asked h) i j e = absurd (omega arith)
same_word shape (Word.Session p) (Word.Begun h) i j e = absurd (omega arith)
same_word shape (Word.Session p) (Word.Session q) i j e = let k : p ≡ q = omega arith in ap Word.Session k
same_word shape (Word.Session p) (Word.Description q at) i j e = let k = same_pass p q 0 (1 + at) (omega arith) (omega arith) (omega (arith, j.1)) in absurd (omega (arith, k.1))
same_word shape (Word.Session p) (Word.Mark q at) i j e = let k = same_pass p q 0 (196 + at) (omega arith) (omega arith) (omega (arith, j.1)) in absurd (omega (arith, k.1))
same_word shape (Word.Description p at) (Word.Value h) i j e = absurd (omega arith)
same_word shape (Word.Description p at) (Word.Asked h) i j e = absurd (omega arith)
same_word shape (Word.Description p at) (Word.Begun h) i j e = absurd (omega arith)
same_word shape (Word.Description p at) (Word.Session q) i j e = let k = same_pass p q (1 + at) 0 (omega arith) (omega (arith, i.1)) (omega arith) in absurd (omega (arith, k.1))
same_word shape (Word.Description p at) (Word.Description q to) i j e =
    let k = same_pass p q (1 + at) (1 + to) (omega arith) (omega (arith, i.1)) (omega (arith, j.1)) in
    let l : at ≡ to = omega (arith, k.1) in
    λ n. Word.Description (k.0 n) (l n)
same_word shape (Word.Description p at) (Word.Mark q to) i j e = let k = same_pass p q (1 + at) (196 + to) (omega arith) (omega (arith, i.1)) (omega (arith, j.1)) in absurd (omega (arith, k.1, i.1))
same_word shape (Word.Mark p at) (Word.Value h) i j e = absurd (omega arith)
same_word shape (Word.Mark p at) (Word.Asked h) i j e = absurd (omega arith)
same_word shape (Word.Mark p at) (Word.Begun h) i j e = absurd (omega arith)
same_word shape (Word.Mark p at) (Word.Session q) i j e = let k = same_pass p q (196 + at) 0 (omega arith) (omega (arith, i.1)) (omega arith) in absurd (omega (arith, k.1))
same_word shape (Word.Mark p at) (Word.Description q to) i j e = let k = same_pass p q (196 + at) (1 + to) (omega arith) (omega (arith, i.1)) (omega (arith, j.1)) in absurd (omega (arith, k.1, j.1))
same_word shape (Word.Mark p at) (Word.Mark q to) i j e =
    let k = same_pass p q (196 + at) (196 + to) (omega arith) (omega (arith, i.1)) (omega (arith, j.1)) in
    let l : at ≡ to = omega (arith, k.1) in
    λ n. Word.Mark (k.0 n) (l n)
