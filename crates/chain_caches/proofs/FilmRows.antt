-- KnownFilms that are their films' rows stay so.
use Rattle.std.proofs.Common.{Result}
use Rattle.std.proofs.lemmas.Map.Keys.{IsDistinct-head, IsDistinct-tail}
use Rattle.shop_types.proofs.Common.{◌≡◌, ◌≢◌, ℕ, true, false, List, [], ◌∷◌, map, Option, Some, None, IfSome, Contains, inl, inr, sym, subst, refl, nat_eq, Ok}
use Rattle.shop_types.proofs.Common.{Err, OnOk, OnErr, keys_of, lookup, remove_entry, AllByRecursion, IsDistinct, at, set_at, Film, head, same_if, same_test}
use Rattle.shop_types.proofs.Common.{at_set_other}
use Rattle.lru.specs.LruCache.{LruCache, lru_cache, put_entries}
use Rattle.lru.proofs.Splits.{Contains-cons, Contains-nil}
use Rattle.lru.proofs.CallerLemmas.{Contains-lookup, Contains-put_entries, Contains-remove_entry}
use Rattle.chain_caches.specs.declared.films.KnownFilm.{KnownFilm}
use Rattle.chain_caches.specs.Films.{AreRows, KnownFilms, IsRow, known_of, seen_known}

-- fewer entries
pub fewer_rows : (old new : KnownFilms) (films : List Film) → ((e : ℕ × KnownFilm) → Contains new e → Contains old e) → AreRows old films → AreRows new films
fewer_rows old new films within rows = record { row = λ number film there. rows.row number film (within (number, film) there) }

-- none
pub no_rows : (entries : KnownFilms) (films : List Film) → entries ≡ [] → AreRows entries films
no_rows entries films none = record {
  row = λ number film there. absurd (Contains-nil (number, film) (subst (λ (es : KnownFilms). Contains es (number, film)) none there));
}

-- a film that is found among the entries
pub found_row : (entries : KnownFilms) (films : List Film) (number : ℕ) (found : Option KnownFilm)
    → found ≡ lookup (nat_eq number) entries → AreRows entries films
    → IfSome found (λ film. IsRow number film films)
found_row entries films number None is rows = tt
found_row entries films number (Some film) is rows =
    let there = Contains-lookup (nat_eq number) entries film (sym is) in
    let same : number ≡ there.0 = same_if number there.0 there.2 in
    subst (λ (n : ℕ). IsRow n film films) (sym same) (rows.row there.0 film there.1)

-- an entry was put
pub put_row : (cache : LruCache ℕ KnownFilm) (films : List Film) (number : ℕ) (film : KnownFilm) → AreRows cache.entries films → IsRow number film films
    → AreRows (put_entries nat_eq cache number film) films
put_row cache films number film rows it = record {
  row = λ n x there. elim (Contains-put_entries nat_eq cache number film (n, x) there) [
    | inl was ↦ rows.row n x was
    | inr put ↦
        let value : film ≡ x = sym put.0 in
        let key : number ≡ n = elim put.1 [
          | inl same ↦ sym same
          | inr other ↦ same_if number n other.2
        ] in
        subst (λ (k : ℕ). IsRow k x films) key (subst (λ (y : KnownFilm). IsRow number y films) value it)
  ];
}

-- an entry was put, or there was no memory for it
pub put_or_not : {X E : Type 0} (result : Result X E) (old new : LruCache ℕ KnownFilm) (films : List Film) (number : ℕ) (film : KnownFilm)
    → OnOk result (new ≡ lru_cache (put_entries nat_eq old number film) old.cap) → OnErr result (new ≡ old)
    → AreRows old.entries films → IsRow number film films → AreRows new.entries films
put_or_not (Ok x) old new films number film made same rows it =
    subst (λ (c : LruCache ℕ KnownFilm). AreRows c.entries films) (sym made) (put_row old films number film rows it)
put_or_not (Err e) old new films number film made same rows it = subst (λ (c : LruCache ℕ KnownFilm). AreRows c.entries films) (sym same) rows

-- ---- an entry was taken out

among_keys : (k : ℕ) (entries : KnownFilms) (e : ℕ × KnownFilm)
    → AllByRecursion (λ y. nat_eq k y ≡ false) (keys_of entries) → Contains entries e → nat_eq k e.0 ≡ false
among_keys k [] e apart there = absurd (Contains-nil e there)
among_keys k (first ∷ entries) e apart there = elim (Contains-cons first entries e there) [
  | inl same ↦ subst (λ (x : ℕ × KnownFilm). nat_eq k x.0 ≡ false) same apart.0
  | inr later ↦ among_keys k entries e apart.1 later
]

-- the entry is gone
pub gone : (number : ℕ) (entries : KnownFilms) (e : ℕ × KnownFilm) → IsDistinct nat_eq (keys_of entries)
    → Contains (remove_entry (nat_eq number) entries) e → nat_eq number e.0 ≡ false
gone number [] e distinct there = absurd (Contains-nil e there)
gone number (first ∷ entries) e distinct there = (elim (nat_eq number first.0) as (λ y. nat_eq number first.0 ≡ y → nat_eq number e.0 ≡ false) [
  | true ↦ λ is.
      let one : first.0 ≡ number = sym (same_if number first.0 is) in
      let apart =
      subst (λ (k : ℕ). AllByRecursion (λ y. nat_eq k y ≡ false) (keys_of entries)) one (IsDistinct-head nat_eq first.0 (keys_of entries) distinct) in
      among_keys number entries e apart (rw is at there)
  | false ↦ λ isnt. elim (Contains-cons first (remove_entry (nat_eq number) entries) e (rw isnt at there)) [
    | inl same ↦ subst (λ (x : ℕ × KnownFilm). nat_eq number x.0 ≡ false) same isnt
    | inr later ↦ gone number entries e (IsDistinct-tail nat_eq first.0 (keys_of entries) distinct) later
  ]
]) refl

-- the other entries stay true whatever is done to its row
pub free_rows : (number : ℕ) (entries : KnownFilms) (films : List Film) (change : Film → Film) → IsDistinct nat_eq (keys_of entries) → AreRows entries films
    → AreRows (remove_entry (nat_eq number) entries) (set_at number change films)
free_rows number entries films change distinct rows = record {
  row = λ n film there.
      let apart : nat_eq number n ≡ false = gone number entries (n, film) distinct there in
      let differ : number ≢ n = λ same. not_same number n same apart in
      let stays : at n (set_at number change films) ≡ at n films = at_set_other number n change films differ in
      subst (λ (l : List Film). Some (seen_known film) ≡ head (map known_of l)) (sym stays)
      (rows.row n film (Contains-remove_entry (nat_eq number) entries (n, film) there));
}
  where
    not_same : (a b : ℕ) → a ≡ b → nat_eq a b ≡ false → ⊥
    not_same a b same isnt = let is : nat_eq a b ≡ true = subst (λ (n : ℕ). nat_eq a n ≡ true) same (same_test a) in cc
