-- The phrases: how long each is, and that a number that is no status code has none.
use Rattle.std.proofs.Common.{◌≡◌, ℕ, zero, suc, ◌<◌, ◌≤◌, Bool, true, ◌&&◌, List, [], nat_le, nat_lt, length, refl, ap, unwrap_or, IsTrue, Option, Some, None}
use Rattle.std.proofs.Common.{◌==◌, if◌then◌else◌, leb-true, ltb-true, arith}
use Rattle.std.proofs.lemmas.Bool.{ne_eqb}
use Rattle.std.proofs.lemmas.Bool.Decides.{Decides-below_and}
use Rattle.http.specs.StatusCode.{IsStatusCode, reason_phrase}
use Rattle.http_messages.specs.Text.{phrase}

abbrev is_short : ℕ → Bool
is_short status = nat_le (length (phrase status)) 31

abbrev short_below : ℕ → Bool
short_below zero = true
short_below (suc n) = is_short n && short_below n

-- the longest phrases have 31 bytes
pub phrase_short : (status : ℕ) → status < 1000 → length (phrase status) ≤ 31
phrase_short status h =
    leb-true _ _ ((Decides-below_and is_short (λ k. is_short k ≡ true) short_below (λ k. (λ x. x, λ x. x)) refl (λ _. refl) 1000).0 refl status h)

-- each row of the table is of a status code, so other numbers have no phrase
pub phrase_outside : (status : ℕ) → ¬ (IsStatusCode status) → phrase status ≡ []
phrase_outside status outside = ap (λ (reason : Option (List ℕ)). unwrap_or reason []) none where
  row : (code : ℕ) (text : List ℕ) (others : Option (List ℕ)) → IsTrue (nat_le 100 code) → IsTrue (nat_lt code 1000)
      → others ≡ None → (if status == code then Some text else others) ≡ None
  row code text others low high none =
      let least : 100 ≤ code = leb-true 100 code low in
      let most : code < 1000 = ltb-true code 1000 high in
      rw (ne_eqb status code (λ same. outside (omega arith, omega arith))) none

  none : reason_phrase status ≡ None
  none =
      row 100 _ _ refl refl (row 101 _ _ refl refl (row 102 _ _ refl refl (row 103 _ _ refl refl (row 200 _ _ refl refl (
      row 201 _ _ refl refl (row 202 _ _ refl refl (row 203 _ _ refl refl (row 204 _ _ refl refl (row 205 _ _ refl refl (
      row 206 _ _ refl refl (row 207 _ _ refl refl (row 208 _ _ refl refl (row 226 _ _ refl refl (row 300 _ _ refl refl (
      row 301 _ _ refl refl (row 302 _ _ refl refl (row 303 _ _ refl refl (row 304 _ _ refl refl (row 305 _ _ refl refl (
      row 307 _ _ refl refl (row 308 _ _ refl refl (row 400 _ _ refl refl (row 401 _ _ refl refl (row 402 _ _ refl refl (
      row 403 _ _ refl refl (row 404 _ _ refl refl (row 405 _ _ refl refl (row 406 _ _ refl refl (row 407 _ _ refl refl (
      row 408 _ _ refl refl (row 409 _ _ refl refl (row 410 _ _ refl refl (row 411 _ _ refl refl (row 412 _ _ refl refl (
      row 413 _ _ refl refl (row 414 _ _ refl refl (row 415 _ _ refl refl (row 416 _ _ refl refl (row 417 _ _ refl refl (
      row 418 _ _ refl refl (row 421 _ _ refl refl (row 422 _ _ refl refl (row 423 _ _ refl refl (row 424 _ _ refl refl (
      row 425 _ _ refl refl (row 426 _ _ refl refl (row 428 _ _ refl refl (row 429 _ _ refl refl (row 431 _ _ refl refl (
      row 451 _ _ refl refl (row 500 _ _ refl refl (row 501 _ _ refl refl (row 502 _ _ refl refl (row 503 _ _ refl refl (
      row 504 _ _ refl refl (row 505 _ _ refl refl (row 506 _ _ refl refl (row 507 _ _ refl refl (row 508 _ _ refl refl (
      row 510 _ _ refl refl (row 511 _ _ refl refl refl)))))))))))))))))))))))))))))))))))))))))))))))))))))))))))))
