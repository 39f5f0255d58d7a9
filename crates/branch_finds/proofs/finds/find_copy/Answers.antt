use Rattle.shop_schema.proofs.Common.{◌≡◌, ◌∙◌, [], ◌∷◌, sym, ap, Bool, List, not, Option, Some, option_map, option_to_list, and_then, done, some_calls}
use Rattle.shop_schema.proofs.Common.{within_none, at, Copy, Terms, in_stock, shop_of, seen_terms}
use Rattle.sql_rows.proofs.Chaining.{one_call}
use Rattle.chain_caches.specs.declared.films.KnownFilm.{KnownFilm}
use Rattle.shop_store.specs.Seen.{seen_copy_now}
use Rattle.shop_store.specs.declared.copies.CopyNow.{CopyNow}
use Rattle.branch_finds.proofs.Lookings.{copy_told, head_of, shown}
use Rattle.consign_finds.proofs.Outs.{out_shown}
use Rattle.branch_finds.proofs.TermLemmas.{copy_terms, terms_told, withdrawn_told}
use Rattle.branch_finds.proofs.finds.find_copy.Goals as goal

abbrev told_withdrawn : Option KnownFilm → Option Bool
told_withdrawn o = option_map (λ (it : KnownFilm). it.withdrawn) o

abbrev told_terms : Option KnownFilm → Option Terms
told_terms o = option_map (λ (it : KnownFilm). seen_terms it.terms) o

abbrev listed : Option CopyNow → List Copy
listed o = option_to_list (option_map seen_copy_now o)

pub returns-in_default : goal.returns-in_default
returns-in_default g c = rw c.in_default.is (record { inside = within_none; says = λ clean books holds held. (holds, λ known. ((tt, tt), known)) })

pub returns-in_default-2 : goal.returns-in_default-2
returns-in_default-2 g c = rw c.in-Some.is (done (one_call c.in_ok-row.ensures.does) (λ said books holds held.
    let row = said books holds held in
    let shows : Copy → Bool × Bool × Bool = shown books.catalogue (not (in_stock c.in-Some.copy (shop_of c.args.branch books).rentals)) in
    let told : Option CopyNow → Option (Bool × Bool × Bool) = option_map (λ (x : CopyNow). shows (seen_copy_now x)) in
    (row.0, λ known. ((sym (ap told c.in_default-2.is) ∙ head_of seen_copy_now shows c.in_ok-row.field-0 _ row.1.0, tt), known))))

pub returns : goal.returns
returns g c = rw c.in-Some.is (done (and_then (one_call c.in_ok-row.ensures.does) (some_calls c.in_ok-film.ensures)) (λ said books holds held.
    let row = said.0 books holds held in
    let films = said.1 books row.0 held in (
      films.0,
      λ known.
          let shop = shop_of c.args.branch books in
          let film = films.1 known in
          let withdrawn = sym (ap told_withdrawn c.in-Some-3.is) ∙ withdrawn_told _ _ film.0 in
          let terms = sym (ap told_terms c.in-Some-3.is) ∙ terms_told _ _ film.0 in
          let copy = seen_copy_now c.in-Some-2.row in
          let found : copy ∷ [] ≡ at c.in-Some.copy shop.copies = sym (ap listed c.in-Some-2.is) ∙ row.1.0 in
          let out = c.is_some.ensures ∙ out_shown c.in-Some.copy shop.rentals c.in-Some-2.row.out (rw c.in-Some-2.is at row.1.1) in (
            (
              (λ i. let p : Option (Bool × Bool × Bool) = Some (c.is_here.ensures c.in-Some-2.row.film i, c.in-Some-3.film.withdrawn, out i) in p)
                  ∙ copy_told books.catalogue copy _ (Some c.in-Some-3.film.withdrawn) _ found withdrawn,
              copy_terms books.catalogue shop c.in-Some.copy copy (seen_terms c.in-Some-3.film.terms) found terms,
            ),
            film.1,
          ),
    )))
