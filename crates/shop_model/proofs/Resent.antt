-- A command that was accepted and comes again gets its first reply, whatever has happened since.
use Rattle.shop_model.proofs.Common.{◌≡◌, ℕ, List, [], ◌∷◌, ◌++◌, filter, refl, ap, ◌∙◌, ◌==◌, bytes_eq, Owned, Text, Command, Rules, Kept, Accepted, resent}
use Rattle.shop_model.proofs.Common.{verdict, first, refusals, reply_text, Books, shop_of, book_done, Again}
use Rattle.shop_model.proofs.RowLemmas.{same_test, one_more, more_yes}
use Rattle.shop_model.proofs.Accepted.{none_kept}
use Rattle.shop_model.proofs.ActLaws.{bytes_same, command_same}

-- ---- what is kept under a key

-- a new row is the one under its key, where there was none
pub first_under : {A : Type 0} (key : A → Text) (x : A) (xs : List A)
    → filter (λ k. bytes_eq (key k) (key x)) xs ≡ [] → filter (λ k. bytes_eq (key k) (key x)) (xs ++ x ∷ []) ≡ x ∷ []
first_under key x xs none = one_more (λ k. bytes_eq (key k) (key x)) xs x ∙ rw (bytes_same (key x), none)

-- so an accepted command that comes directly after itself is given again
pub done_again : (rules : Rules) (b : ℕ) (command : Command) (books : Books) → verdict rules b books.catalogue (shop_of b books) command ≡ Accepted
    → verdict rules b (book_done rules b command books).catalogue (shop_of b (book_done rules b command books)) command
    ≡ Again (reply_text rules command (shop_of b books))
done_again rules b command books e =
    let k : Kept = record { command = command; reply = reply_text rules command (shop_of b books) } in
    let done = book_done rules b command books in
    let none =
    (none_kept command (filter (λ (it : Kept). bytes_eq it.command.key command.key) (shop_of b books).kept)
    (first (refusals rules b books.catalogue (shop_of b books) command)) e).0 in
    let kept = more_yes (λ (row : Owned Kept). row.it) (λ row. row.owner == b) books.kept (record { owner = b; it = k }) (same_test b) in
    ap
    (λ ks. resent command (filter (λ (it : Kept). bytes_eq it.command.key command.key) ks) (first (refusals rules b done.catalogue (shop_of b done) command)))
    kept
    ∙ rw (first_under (λ (it : Kept). it.command.key) k (shop_of b books).kept none, command_same command) refl
