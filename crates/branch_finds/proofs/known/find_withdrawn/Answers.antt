use Rattle.shop_schema.proofs.Common.{◌∙◌, sym, ap, option_map, done, some_calls}
use Rattle.chain_caches.specs.declared.films.KnownFilm.{KnownFilm}
use Rattle.branch_finds.proofs.TermLemmas.{withdrawn_told}
use Rattle.branch_finds.proofs.known.find_withdrawn.Goals as goal

pub returns-in-Some : goal.returns-in-Some
returns-in-Some g c = done (some_calls c.in_ok-film.ensures) (λ said books holds held.
    let film = said books holds held in
    (film.0, λ known. (ap (option_map (λ (it : KnownFilm). it.withdrawn)) (sym c.in-Some.is) ∙ withdrawn_told _ _ (film.1 known).0, (film.1 known).1)))

pub returns-in-None : goal.returns-in-None
returns-in-None g c = done (some_calls c.in_ok-film.ensures) (λ said books holds held.
    let film = said books holds held in
    (film.0, λ known. (ap (option_map (λ (it : KnownFilm). it.withdrawn)) (sym c.in-None.is) ∙ withdrawn_told _ _ (film.1 known).0, (film.1 known).1)))
