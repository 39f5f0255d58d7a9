use Rattle.shop_schema.proofs.Common.{◌≡◌, ◌∙◌, refl, sym, ap, subst, ℕ, true, false, Bool, map, Some, None, some_calls, NoFilm, Decision, Catalogue, Shop}
use Rattle.shop_schema.proofs.Common.{CopiesAre, Sorry, Shows, look, answer_of, accepted_answer, head, shop_of, at, film_in_stock, film_not_in_stock}
use Rattle.shop_store.specs.SharedSeen.{withdrawn_of}
use Rattle.branch_core.specs.Agreed.{AreOfFilm}
use Rattle.branch_finds.specs.Looks.{stock_asked, stock_listed}
use Rattle.shop_schema.specs.Asked.{HoldsBooks}
use Rattle.shop_ledger.proofs.Failing.{fails_after, finds_stay}
use Rattle.sql_rows.proofs.Chaining.{one_call, first_done, done_inside}
use Rattle.branch_reports.proofs.Given.{given_none, given_some}
use Rattle.branch_reports.proofs.Decisions.{accepted_told, refused_told}
use Rattle.branch_finds.proofs.looks.look_film_copies.Goals as goal

no_film : (is_in : Bool) (b film : ℕ) (catalogue : Catalogue) (shop : Shop)
    → None ≡ head (map withdrawn_of (at film catalogue.films)) → look b catalogue shop (stock_asked is_in film) ≡ Sorry NoFilm
no_film true b film catalogue shop is = given_none NoFilm _ withdrawn_of (at film catalogue.films) is
no_film false b film catalogue shop is = given_none NoFilm _ withdrawn_of (at film catalogue.films) is

film_shown : (is_in : Bool) (b film : ℕ) (catalogue : Catalogue) (shop : Shop) (w : Bool) → Some w ≡ head (map withdrawn_of (at film catalogue.films))
    → look b catalogue shop (stock_asked is_in film) ≡ Shows (CopiesAre (stock_listed is_in film shop))
film_shown true b film catalogue shop w is = given_some NoFilm (CopiesAre (film_in_stock film shop)) withdrawn_of (at film catalogue.films) w is
film_shown false b film catalogue shop w is = given_some NoFilm (CopiesAre (film_not_in_stock film shop)) withdrawn_of (at film catalogue.films) w is

pub returns-in-Ok-listed_text-clause-does : goal.returns-in-Ok-listed_text-clause-does
returns-in-Ok-listed_text-clause-does g c = first_done c.in-Ok-Some.ensures.does (some_calls c.in-Ok.ensures.does) (λ withdrawn said books holds held.
    let b = c.args.branch in
    let film = c.args.film in
    let shop = shop_of b books in
    let found = withdrawn books holds held in
    let copies = said books found.0 held in
    let are : AreOfFilm film shop c.as_slice.result.now = subst (AreOfFilm film shop) (sym c.as_slice.ensures.value) copies.1 in (
      copies.0,
      c.accepted.ensures ∙ ap accepted_answer (c.in-Ok-listed_text.ensures film shop are)
          ∙ ap answer_of (sym (film_shown c.args.is_in b film books.catalogue shop _ (sym c.in-Ok-Some.field-0-is ∙ found.1))),
    ))

pub returns-in-Ok-None-clause-does : goal.returns-in-Ok-None-clause-does
returns-in-Ok-None-clause-does g c = done_inside c.in-Ok-None.ensures.does (λ withdrawn books holds held.
    let b = c.args.branch in
    let found = withdrawn books holds held in
    let none = no_film c.args.is_in b c.args.film books.catalogue (shop_of b books) (sym c.in-Ok-None.field-0-is ∙ found.1) in
    (found.0, c.refused.ensures ∙ ap answer_of (sym none)))

pub returns-in-Ok-listed_text-clause-decided : goal.returns-in-Ok-listed_text-clause-decided
returns-in-Ok-listed_text-clause-decided g c = accepted_told _ _ c.accepted.ensures

pub returns-in-Ok-None-clause-decided : goal.returns-in-Ok-None-clause-decided
returns-in-Ok-None-clause-decided g c = refused_told _ (Decision NoFilm) c.refused.ensures refl

pub returns-in-Err-find_of_film-clause-fails : goal.returns-in-Err-find_of_film-clause-fails
returns-in-Err-find_of_film-clause-fails g c =
    fails_after HoldsBooks HoldsBooks (one_call c.in-Ok-Some.ensures.does) finds_stay c.in-Err-find_of_film.ensures.does.inside
    c.in-Err-find_of_film.ensures.fails
