use Rattle.std.proofs.Common.{◌∙◌, ℕ, IfSome, sym, ap, subst, nat_eq}
use Rattle.chain_caches.specs.declared.films.KnownFilm.{KnownFilm}
use Rattle.lru.specs.LruCache.{LruCache, promoted}
use Rattle.lru.proofs.CallerLemmas.{Contains-promoted}
use Rattle.chain_caches.specs.Films.{AreRows, KnownFilms, IsRow, entries_of}
use Rattle.chain_caches.proofs.FilmRows.{fewer_rows, found_row}
use Rattle.chain_caches.proofs.films.FilmCache.known.Goals as goal

pub returns-clause-row : goal.returns-clause-row
returns-clause-row c = λ films rows.
    let was = c.in-Some.films.entries in
    let same = ap entries_of (sym c.in-Some.is) ∙ c.self.view_is in
    let before = subst (λ (es : KnownFilms). AreRows es films) (sym same) rows in
    subst (λ (n : ℕ). IfSome c.copied.result (λ film. IsRow n film films)) c.get.ensures.value
    (found_row was films c.get.result c.copied.result (c.copied.ensures ∙ c.get-2.ensures.value) before)

pub returns-clause-kept : goal.returns-clause-kept
returns-clause-kept c = λ films rows.
    let was = c.in-Some.films.entries in
    let same = ap entries_of (sym c.in-Some.is) ∙ c.self.view_is in
    let before = subst (λ (es : KnownFilms). AreRows es films) (sym same) rows in
    let test = nat_eq c.get.result in
    subst (λ (it : LruCache ℕ KnownFilm). AreRows it.entries films) (sym c.get-2.follows.holds-at-none)
    (fewer_rows was (promoted test was) films (Contains-promoted test was) before)
