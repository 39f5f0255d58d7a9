use Rattle.shop_types.proofs.Common.{◌∙◌, ℕ, sym, subst, nat_eq, ap, remove_entry, set_at}
use Rattle.lru.specs.LruCache.{LruCache}
use Rattle.lru.proofs.CallerLemmas.{Contains-remove_entry}
use Rattle.chain_caches.specs.declared.films.KnownFilm.{KnownFilm}
use Rattle.chain_caches.specs.Films.{AreRows, KnownFilms, entries_of}
use Rattle.chain_caches.proofs.FilmRows.{fewer_rows, free_rows}
use Rattle.chain_caches.proofs.films.FilmCache.take_out.Goals as goal

pub returns-clause-kept : goal.returns-clause-kept
returns-clause-kept c = λ films rows.
    let was = c.in-Some.films.entries in
    let same = ap entries_of (sym c.in-Some.is) ∙ c.self.view_is in
    let before = subst (λ (es : KnownFilms). AreRows es films) (sym same) rows in
    let test = nat_eq c.get.result in
    subst (λ (it : LruCache ℕ KnownFilm). AreRows it.entries films) (sym c.pop.ensures.entries)
    (fewer_rows was (remove_entry test was) films (Contains-remove_entry test was) before)

pub returns-clause-free : goal.returns-clause-free
returns-clause-free c = λ films change rows.
    let was = c.in-Some.films.entries in
    let same = ap entries_of (sym c.in-Some.is) ∙ c.self.view_is in
    let before = subst (λ (es : KnownFilms). AreRows es films) (sym same) rows in
    let valid = c.len-few.ensures.valid in
    subst (λ (n : ℕ). AreRows c.pop.new.self.entries (set_at n change films)) c.get.ensures.value
    (subst (λ (it : LruCache ℕ KnownFilm). AreRows it.entries (set_at c.get.result change films))
    (sym c.pop.ensures.entries) (free_rows c.get.result was films change valid.0 before))
