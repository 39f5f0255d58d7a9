use Rattle.std.proofs.Common.{◌∙◌, ℕ, sym, ap, subst}
use Rattle.chain_caches.specs.Films.{AreRows, KnownFilms, IsRow, entries_of}
use Rattle.chain_caches.proofs.FilmRows.{put_or_not}
use Rattle.chain_caches.proofs.films.FilmCache.put.Goals as goal

pub returns : goal.returns
returns c = λ films rows it.
    let same = ap entries_of (sym c.in-Some.is) ∙ c.self.view_is ∙ c.make_room.ensures in
    let before = subst (λ (es : KnownFilms). AreRows es films) (sym same) rows in
    let row = subst (λ (n : ℕ). IsRow n c.args.film.now films) (sym c.get.ensures.value) it in
    put_or_not c.put.result c.in-Some.films c.put.new.self films c.get.result c.args.film.now c.put.ensures.entries c.put.ensures.err before row
