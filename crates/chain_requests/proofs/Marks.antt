-- Which marks were made, by the copies of the branches that imported them, and how many places each has.
use Rattle.shop_schema.proofs.Common.{◌≡◌, ◌∙◌, ◌+◌, ◌-◌, ◌≤◌, ◌==◌, ◌&&◌, ℕ, Bool, true, false, List, [], ◌∷◌, map, filter, inl, inr, refl, sym, ap, arith}
use Rattle.shop_schema.proofs.Common.{nat_lt, cases_Bool, Row, at, of, is_of, IsCounted, total, Books, BookCopy, Mark, HasNumbers, HasCustody, one, is_mark}
use Rattle.shop_schema.proofs.Common.{rows_made, made, same_if, differ_if, apart_weight, low_none, made_once, CopyRows}
use Rattle.consign_store.specs.Custody.{HasOnePlace}
use Rattle.consign_store.proofs.Custody.{one_place}

-- a mark that was made has one place, and one that wasn't has none
pub held_once : (mark : Mark) (books : Books) → HasNumbers books → HasCustody books → HasOnePlace mark books
held_once mark books numbers custody =
    let places = custody (is_mark mark) in
    let once = made_once mark 1 books.copies (numbers.rows CopyRows mark.branch) in
    one_place mark books (omega (arith, places, once))

-- ---- the row of an import

twice : (a b : Bool) → one ((a && b) && (a && b)) ≡ one (a && b)
twice true true = refl
twice true false = refl
twice false b = refl

-- a row's own mark, compared with a mark that has its number
own_weight : (mb rb mc rn b n : ℕ) → rb ≡ b → rn ≡ n → one ((mb == rb && mc == rn) && (mb == b && mc == n)) ≡ one (mb == b && mc == n)
own_weight mb rb mc rn b n branch number = rw (branch, number) (twice (mb == b) (mc == n))

made_from : (mark : Mark) (k n : ℕ) (rows : List (Row BookCopy))
    → IsCounted k (map (λ row. row.number) (filter (is_of mark.branch) rows)) → n + k ≡ mark.copy + 1 → 1 ≤ n
    → rows_made (is_mark mark) rows ≡ total (λ (it : BookCopy). one (is_mark mark it.mark)) (at n (of mark.branch rows))
made_from mark k n [] counted place low = refl
made_from mark k n (row ∷ rows) counted place low = elim (cases_Bool (row.branch == mark.branch)) [
  | inl is ↦
      let counts = rw is at counted in
      let number : row.number ≡ k = counts.0 in
      elim (cases_Bool (n == 1)) [
        | inl first ↦
            let e : n ≡ 1 = same_if n 1 first in
            let none = low_none mark (k + 1) rows counts.1 (omega (arith, e, place)) in
            let its : row.number ≡ mark.copy = omega (arith, number, e, place) in
            let own = own_weight row.it.mark.branch row.branch row.it.mark.copy row.number mark.branch mark.copy (same_if row.branch mark.branch is) its in
            rw (is, first) (omega (arith, none, own))
        | inr later ↦
            let d = differ_if n 1 later in
            let z = apart_weight row.it.mark.branch row.branch row.it.mark.copy row.number mark.branch mark.copy (λ e m. d (omega (arith, m, number, place))) in
            let more = made_from mark (k + 1) (n - 1) rows counts.1 (omega (arith, place, low)) (omega (arith, low, d)) in
            rw (is, later) (omega (arith, z, more))
      ]
  | inr isnt ↦
      let z = apart_weight row.it.mark.branch row.branch row.it.mark.copy row.number mark.branch mark.copy (λ e m. differ_if row.branch mark.branch isnt e) in
      let more = made_from mark k n rows (rw isnt at counted) place low in
      rw isnt (omega (arith, z, more))
]

at_none : (its : List BookCopy) → at 0 its ≡ []
at_none [] = refl
at_none (it ∷ its) = at_none its

made_at : (mark : Mark) (books : Books) → HasNumbers books
    → made (is_mark mark) books ≡ total (λ (it : BookCopy). one (is_mark mark it.mark)) (at mark.copy (of mark.branch books.copies))
made_at mark books numbers = elim (cases_Bool (mark.copy == 0)) [
  | inl zero ↦
      let e : mark.copy ≡ 0 = same_if mark.copy 0 zero in
      low_none mark 1 books.copies (numbers.rows CopyRows mark.branch) (omega (arith, e))
      ∙ sym (ap (λ (n : ℕ). total (λ (it : BookCopy). one (is_mark mark it.mark)) (at n (of mark.branch books.copies))) e
      ∙ ap (total (λ (it : BookCopy). one (is_mark mark it.mark))) (at_none (of mark.branch books.copies)))
  | inr some ↦
      let d = differ_if mark.copy 0 some in made_from mark 1 mark.copy books.copies (numbers.rows CopyRows mark.branch) (omega arith) (omega (arith, d))
]

-- whether a mark was made, by the copy under its number: a copy with the mark, a copy that came from another branch, or no copy
pub made_of_row : (mark : Mark) (books : Books) (it : BookCopy) → HasNumbers books
    → it ∷ [] ≡ at mark.copy (of mark.branch books.copies) → is_mark mark it.mark ≡ nat_lt 0 (made (is_mark mark) books)
made_of_row mark books it numbers found = rw (made_at mark books numbers, sym found) (by (is_mark mark it.mark))
  where
    by : (is : Bool) → is ≡ nat_lt 0 (one is + 0)
    by true = refl
    by false = refl

pub unmade_of_none : (mark : Mark) (books : Books) → HasNumbers books
    → [] ≡ at mark.copy (of mark.branch books.copies) → false ≡ nat_lt 0 (made (is_mark mark) books)
unmade_of_none mark books numbers found = rw (made_at mark books numbers, sym found) refl
