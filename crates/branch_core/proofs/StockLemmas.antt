-- What the rows of a stock file say of the films of its copies.
use Rattle.shop_types.proofs.Common.{◌≡◌, refl, sym, ap, ◌∙◌, ℕ, zero, suc, ◌+◌, ◌≤◌, Bool, true, false, not, ◌||◌, List, [], ◌∷◌, length, replicate, arith}
use Rattle.shop_types.proofs.Common.{length-append, or_self, or-false, length-replicate, recursion_from_All, list_any-append, sum_by-cons, AllByRecursion}
use Rattle.shop_types.proofs.Common.{list_any, lacks, Catalogue, is_film_withdrawn}
use Rattle.std.specs.List.{All}
use Rattle.branch_core.specs.declared.found.StockFound.{StockFound}
use Rattle.branch_core.specs.StockLists.{films_of, copies_of}
use Rattle.branch_core.specs.Agreed.{RowAgrees}

any_more : (p : ℕ → Bool) (n x : ℕ) → (p x || list_any p (replicate n x)) ≡ p x
any_more p zero x = or-false (p x)
any_more p (suc n) x = ap (λ (b : Bool). p x || b) (any_more p n x) ∙ or_self (p x)

any_replicate : (p : ℕ → Bool) (n x : ℕ) → 1 ≤ n → list_any p (replicate n x) ≡ p x
any_replicate p zero x low = absurd (omega arith)
any_replicate p (suc n) x low = any_more p n x

any_film : (catalogue : Catalogue) (p : ℕ → Bool) (q : StockFound → Bool) → ((row : StockFound) → RowAgrees catalogue row → q row ≡ p row.film)
    → (rows : List StockFound) → AllByRecursion (RowAgrees catalogue) rows → list_any q rows ≡ list_any p (films_of rows)
any_film catalogue p q same [] agree = refl
any_film catalogue p q same (row ∷ rows) agree =
    ap (λ (b : Bool). b || list_any q rows) (same row agree.0)
    ∙ ap (λ (b : Bool). p row.film || b) (any_film catalogue p q same rows agree.1)
    ∙ ap (λ (b : Bool). b || list_any p (films_of rows)) (sym (any_replicate p row.copies row.film agree.0.some))
    ∙ sym (list_any-append p (replicate row.copies row.film) (films_of rows))

pub any_withdrawn : (catalogue : Catalogue) (rows : List StockFound) → All (RowAgrees catalogue) rows
    → list_any (is_film_withdrawn catalogue) (films_of rows) ≡ list_any (λ (row : StockFound). row.is_withdrawn) rows
any_withdrawn catalogue rows agree =
    sym (any_film catalogue (is_film_withdrawn catalogue) (λ (row : StockFound). row.is_withdrawn)
    (λ row at. at.withdrawn) rows (recursion_from_All (RowAgrees catalogue) rows agree))

not_not : (b c : Bool) → b ≡ not c → not b ≡ c
not_not b true is = ap not is
not_not b false is = ap not is

pub any_unknown : (catalogue : Catalogue) (rows : List StockFound) → All (RowAgrees catalogue) rows
    → list_any (lacks catalogue.films) (films_of rows) ≡ list_any (λ (row : StockFound). not row.is_there) rows
any_unknown catalogue rows agree = sym (
    any_film catalogue (lacks catalogue.films) (λ (row : StockFound). not row.is_there)
    (λ row at. not_not row.is_there (lacks catalogue.films row.film) at.there) rows
    (recursion_from_All (RowAgrees catalogue) rows agree))

pub length_films : (rows : List StockFound) → length (films_of rows) ≡ copies_of rows
length_films [] = refl
length_films (row ∷ rows) =
    length-append (replicate row.copies row.film) (films_of rows)
    ∙ ap (λ (n : ℕ). n + length (films_of rows)) (length-replicate row.copies row.film)
    ∙ ap (λ (n : ℕ). row.copies + n) (length_films rows)
    ∙ sym (sum_by-cons (λ (it : StockFound). it.copies) row rows)
