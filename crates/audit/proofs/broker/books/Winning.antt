-- How many of a book's calls each winner completed, as the book goes on.
use Rattle.std.proofs.Common.{◌≡◌, ℕ, ◌+◌, cond, List, [], ◌∷◌, ◌++◌, Some, refl, sym, ap, ◌∙◌, append-nil}
use Rattle.std.proofs.lemmas.Grind.{flat_map-append}
use Rattle.std.proofs.lemmas.List.Sums.{sum_by-append, sum_by-cons, sum_by_push}
use Rattle.std.specs.Prelude.{count_by, sum_by}
use Rattle.audit.specs.declared.account.Call.{Call}
use Rattle.audit.specs.declared.account.SessionEnd.{SessionEnd}
use Rattle.audit.specs.declared.account.Transcript.{Transcript}
use Rattle.audit.specs.Histories.{calls_in}
use Rattle.audit.specs.IsLawful.{is_won_as, is_won_by}
use Rattle.audit.specs.broker.books.Book.{Book, begun_behind}
use Rattle.audit.specs.broker.books.Together.{all_calls_in, won_by}
use Rattle.audit.specs.broker.books.Underway.{Underway, book_amid, earlier_calls}
use Rattle.audit.proofs.broker.books.Closing.{calls_with}

-- amid a call it is that of the calls before it, and one more where the call itself names the winner
pub won_amid : (u : Underway) (winner : ℕ) → won_by winner (book_amid u) ≡ count_by (is_won_by winner) (earlier_calls u) + cond (is_won_as winner u.call.how) 1 0
won_amid u winner =
    ap (count_by (is_won_by winner)) (calls_with u.front u.transcript u.call) ∙ sum_by_push (λ (call : Call). cond (is_won_by winner call) 1 0) (earlier_calls u) u.call

-- a transcript that is begun has no calls
pub won_begun : (book : Book) (number winner : ℕ)
    → won_by winner (record book { transcripts = book.transcripts ++ begun_behind book.transcripts number ∷ [] }) ≡ won_by winner book
won_begun book number winner =
    ap (count_by (is_won_by winner)) (flat_map-append (λ (t : Transcript). t.calls) book.transcripts (begun_behind book.transcripts number ∷ []) ∙ append-nil (calls_in book.transcripts))

-- one that is ended has those that it had
pub won_ended : (book : Book) (front : List Transcript) (last : Transcript) (end : SessionEnd) (winner : ℕ)
    → won_by winner (record book { transcripts = front ++ record last { end = Some end } ∷ [] }) ≡ won_by winner (record book { transcripts = front ++ last ∷ [] })
won_ended book front last end winner =
    let closed : Transcript = record last { end = Some end } in
    ap (count_by (is_won_by winner)) (flat_map-append (λ (t : Transcript). t.calls) front (closed ∷ []) ∙ sym (flat_map-append (λ (t : Transcript). t.calls) front (last ∷ [])))

-- over all books it is the sum of theirs
pub won_all : (books : List Book) (winner : ℕ) → count_by (is_won_by winner) (all_calls_in books) ≡ sum_by (won_by winner) books
won_all [] winner = refl
won_all (book ∷ books) winner =
    sum_by-append (λ (call : Call). cond (is_won_by winner call) 1 0) (calls_in book.transcripts) (all_calls_in books)
    ∙ ap (λ (n : ℕ). won_by winner book + n) (won_all books winner) ∙ sym (sum_by-cons (won_by winner) book books)
