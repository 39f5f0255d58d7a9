-- KnownFilms that are their films' rows are so after a request.
use Rattle.shop_types.proofs.Common.{◌≡◌, ℕ, ◌-◌, List, [], ◌∷◌, ◌++◌, map, Some, inl, inr, sym, subst, refl, cases_Bool, at, lacks, Film, OfficeCommand, Rules}
use Rattle.shop_types.proofs.Common.{Catalogue, Verdict, Again, Refused, Accepted, verdict, office_verdict, Request, Unread, Do, Look, Office, OfficeLook}
use Rattle.shop_types.proofs.Common.{office_acted, office_done, if_accepted, Books, Counter, HeadOffice, head, shop_of, book_done, branch_after, known_caller}
use Rattle.shop_types.proofs.Common.{after_for}
use Rattle.std.specs.Prelude.{◌==◌}
use Rattle.shop_model.proofs.Accepted.{catalogue_stays}
use Rattle.chain_caches.specs.Films.{AreRows, KnownFilms, known_of, seen_known}

-- a row that is there stays where another goes last
at_longer : {A B : Type 0} (g : A → B) (x : B) (n : ℕ) (xs ys : List A) → Some x ≡ head (map g (at n xs)) → Some x ≡ head (map g (at n (xs ++ ys)))
at_longer g x n [] ys is = cc
at_longer g x n (y ∷ xs) ys is = elim (cases_Bool (n == 1)) [
  | inl one ↦ rw one (rw one at is)
  | inr other ↦ rw other (at_longer g x (n - 1) xs ys (rw other at is))
]

pub longer_rows : (entries : KnownFilms) (films more : List Film) → AreRows entries films → AreRows entries (films ++ more)
longer_rows entries films more rows = record { row = λ number film there. at_longer known_of (seen_known film) number films more (rows.row number film there) }

-- a branch's request leaves the catalogue
branch_catalogue : (rules : Rules) (b : ℕ) (request : Request) (books : Books) → (branch_after rules b request books).catalogue ≡ books.catalogue
branch_catalogue rules b (Unread refusal) books = refl
branch_catalogue rules b (Look ask) books = refl
branch_catalogue rules b (Office command) books = refl
branch_catalogue rules b (OfficeLook ask) books = refl
branch_catalogue rules b (Do command) books = by (verdict rules b books.catalogue (shop_of b books) command)
  where
    by : (v : Verdict) → (if_accepted v (book_done rules b command books) books).catalogue ≡ books.catalogue
    by (Again text) = refl
    by (Refused refusal) = refl
    by Accepted = catalogue_stays rules b command command.act books

pub rows_by_branch : (entries : KnownFilms) (rules : Rules) (b : ℕ) (request : Request) (books : Books) → AreRows entries books.catalogue.films
    → AreRows entries (after_for rules (known_caller books.catalogue (Counter b)) request books).catalogue.films
rows_by_branch entries rules b request books rows = elim (cases_Bool (lacks books.catalogue.branches b)) [
  | inl none ↦ rw none rows
  | inr there ↦ rw there (subst (λ (c : Catalogue). AreRows entries c.films) (sym (branch_catalogue rules b request books)) rows)
]

-- a command of head office, whether or not it is accepted
pub rows_by_office : (entries : KnownFilms) (rules : Rules) (command : OfficeCommand) (books : Books) → AreRows entries books.catalogue.films
    → AreRows entries (office_acted command.act books.catalogue).films → AreRows entries (after_for rules HeadOffice (Office command) books).catalogue.films
rows_by_office entries rules command books before after = by (office_verdict rules books.catalogue command)
  where
    by : (v : Verdict) → AreRows entries (if_accepted v (office_done command books.catalogue) books.catalogue).films
    by (Again text) = before
    by (Refused refusal) = before
    by Accepted = after
