-- Where a mark is, from the copies and the lines that have it.
use Rattle.shop_schema.proofs.Common.{filter_filter, ◌≡◌, ◌+◌, ◌≤◌, ◌&&◌, ◌||◌, ℕ, Bool, true, false, cond, List, [], ◌∷◌, ◌++◌, map, filter, length, Some}
use Rattle.shop_schema.proofs.Common.{None, IsPermutation, refl, sym, ap, subst, ◌∙◌, arith, slice_get, list_any, flat_map, filter-append, IsPermutation-sym}
use Rattle.shop_schema.proofs.Common.{short_bag, Row, numbered_from, total, Here, Books, BookCopy, Mark, Line, Consignment, UnderWay, one, copy_is, line_is}
use Rattle.shop_schema.proofs.Common.{is_mark, transit, places, Shows, HereAt, UnderWayTo, Gone, place_of, custody_of, filter_map, total-append}
use Rattle.std.specs.List.{find}
use Rattle.sqlite_keyed.proofs.ListLemmas.{slice_get-filter}
use Rattle.sqlite_trees.proofs.ListLemmas.{IsPermutation-filter}
use Rattle.shop_model.specs.Sound.{here}
use Rattle.shop_store.specs.declared.copies.CopyRow.{CopyRow}
use Rattle.shop_store.specs.Seen.{seen_copy_row}
use Rattle.consign_store.specs.declared.lines.LineRow.{LineRow}
use Rattle.consign_store.specs.Parts.{Placed, placed_at, placed_in, all_placed}
use Rattle.consign_store.specs.Seen.{seen_line}
use Rattle.consign_store.specs.Custody.{is_here, is_under_way, copies_here, lines_under_way, HasOnePlace}

-- ---- both tests

passing_bag : {R X : Type 0} (seen : R → X) (p q : X → Bool) (xs : List X) (rows : List R)
    → IsPermutation (filter q xs) (map seen rows) → length (filter (λ x. p x && q x) xs) ≤ 1
    → map seen (filter (λ r. p (seen r)) rows) ≡ filter (λ x. p x && q x) xs
passing_bag seen p q xs rows same few =
    let bag : IsPermutation (filter (λ x. p x && q x) xs) (map seen (filter (λ r. p (seen r)) rows)) =
    subst (λ l. IsPermutation l (map seen (filter (λ r. p (seen r)) rows))) (filter_filter p q xs)
    (subst (IsPermutation (filter p (filter q xs))) (filter_map p seen rows) (IsPermutation-filter p _ _ same)) in
    short_bag _ _ (IsPermutation-sym _ _ bag) few

-- ---- the consignment of a line

module _ (f : Line → Bool) where
  abbrev q : Placed → Bool
  q row = f row.it

  abbrev has : Consignment → Bool
  has it = list_any f it.lines

  own_none : (it : Consignment) (k : ℕ) (ls : List Line) → filter q (map (placed_at it) (numbered_from k ls)) ≡ [] → list_any f ls ≡ false
  own_none it k [] none = refl
  own_none it k (l ∷ ls) none = go (f l) none (own_none it (k + 1) ls)
    where
      go : (b : Bool)
          → cond b (placed_at it (k, l) ∷ filter q (map (placed_at it) (numbered_from (k + 1) ls))) (filter q (map (placed_at it) (numbered_from (k + 1) ls)))
          ≡ []
          → (filter q (map (placed_at it) (numbered_from (k + 1) ls)) ≡ [] → list_any f ls ≡ false) → (b || list_any f ls) ≡ false
      go true e more = absurd cc
      go false e more = more e

  abbrev Own : Consignment → Placed → Type 0
  Own it r = (it.source ≡ r.source) × (it.addressee ≡ r.addressee) × (it.number ≡ r.number)

  own_some : (it : Consignment) (k : ℕ) (ls : List Line) (r : Placed) (rest : List Placed)
      → filter q (map (placed_at it) (numbered_from k ls)) ≡ r ∷ rest → (list_any f ls ≡ true) × Own it r
  own_some it k [] r rest some = absurd cc
  own_some it k (l ∷ ls) r rest some = go (f l) some (own_some it (k + 1) ls r rest)
    where
      go : (b : Bool)
          → cond b (placed_at it (k, l) ∷ filter q (map (placed_at it) (numbered_from (k + 1) ls))) (filter q (map (placed_at it) (numbered_from (k + 1) ls)))
          ≡ r ∷ rest
          → (filter q (map (placed_at it) (numbered_from (k + 1) ls)) ≡ r ∷ rest → (list_any f ls ≡ true) × Own it r) → ((b || list_any f ls) ≡ true) × Own it r
      go true e more =
          let first : placed_at it (k, l) ≡ r = cc in
          (refl, (ap (λ (x : Placed). x.source) first, ap (λ (x : Placed). x.addressee) first, ap (λ (x : Placed). x.number) first))
      go false e more = more e

  split_none : (xs ys : List Placed) → xs ++ ys ≡ [] → (xs ≡ []) × (ys ≡ [])
  split_none [] ys e = (refl, e)
  split_none (x ∷ xs) ys e = absurd cc

  pub under_none : (cs : List Consignment) → filter q (all_placed cs) ≡ [] → filter has cs ≡ []
  under_none [] none = refl
  under_none (it ∷ cs) none =
      let parts = split_none (filter q (placed_in it)) (filter q (all_placed cs)) (sym (filter-append q (placed_in it) (all_placed cs)) ∙ none) in
      rw (own_none it 1 it.lines parts.0) (under_none cs parts.1)

  abbrev One : List Consignment → Placed → Type 0
  One cs r = (it : Consignment) × (filter has cs ≡ it ∷ []) × Own it r

  pub under_one : (cs : List Consignment) (r : Placed) → filter q (all_placed cs) ≡ r ∷ [] → One cs r
  under_one [] r one = absurd cc
  under_one (it ∷ cs) r one = go (filter q (placed_in it)) refl (sym (filter-append q (placed_in it) (all_placed cs)) ∙ one) (under_one cs r)
    where
      go : (found : List Placed) → filter q (placed_in it) ≡ found → found ++ filter q (all_placed cs) ≡ r ∷ []
          → (filter q (all_placed cs) ≡ r ∷ [] → One cs r) → One (it ∷ cs) r
      go [] none e more = let its = more e in rw (own_none it 1 it.lines none) its
      go (x ∷ xs) some e more =
          let first : x ≡ r = cc in
          let tail : xs ++ filter q (all_placed cs) ≡ [] = cc in
          let rest = split_none xs (filter q (all_placed cs)) tail in
          let own = own_some it 1 it.lines x xs some in
          let whole : filter has (it ∷ cs) ≡ it ∷ [] = rw own.0 (ap (λ l. it ∷ l) (under_none cs rest.1)) in (
            it,
            whole,
            (own.1.0 ∙ ap (λ (p : Placed). p.source) first, own.1.1 ∙ ap (λ (p : Placed). p.addressee) first, own.1.2 ∙ ap (λ (p : Placed). p.number) first),
          )

-- ---- where the mark is

module _ (mark : Mark) (books : Books) (one : HasOnePlace mark books) where
  abbrev line_test : Line → Bool
  line_test line = line_is line.state UnderWay && is_mark mark line.mark

  abbrev unders : List Consignment
  unders = filter (λ (it : Consignment). list_any line_test it.lines) books.consignments

  copies_are : (rows : List CopyRow) → IsPermutation (filter (λ (row : Row BookCopy). is_mark mark row.it.mark) books.copies) (map seen_copy_row rows)
      → map seen_copy_row (filter is_here rows) ≡ copies_here mark books
  copies_are rows same =
      passing_bag seen_copy_row (λ (row : Row BookCopy). copy_is row.it.state Here)
      (λ (row : Row BookCopy). is_mark mark row.it.mark) books.copies rows same one.0

  lines_are : (rows : List LineRow) → IsPermutation (filter (λ (row : Placed). is_mark mark row.it.mark) (all_placed books.consignments)) (map seen_line rows)
      → map seen_line (filter is_under_way rows) ≡ lines_under_way mark books
  lines_are rows same =
      passing_bag seen_line (λ (row : Placed). line_is row.it.state UnderWay)
      (λ (row : Placed). is_mark mark row.it.mark) (all_placed books.consignments) rows same one.1

  pub place_here : (rows : List CopyRow) (row : CopyRow)
      → IsPermutation (filter (λ (row : Row BookCopy). is_mark mark row.it.mark) books.copies) (map seen_copy_row rows) → find is_here rows ≡ Some row
      → Shows (HereAt row.branch row.number) ≡ place_of mark books
  place_here rows row same first = go (filter is_here rows) (slice_get-filter is_here rows ∙ first) (copies_are rows same)
    where
      go : (found : List CopyRow) → slice_get found 0 ≡ Some row → map seen_copy_row found ≡ copies_here mark books
          → Shows (HereAt row.branch row.number) ≡ place_of mark books
      go [] first are = absurd cc
      go (x ∷ xs) first are =
          let its : x ≡ row = cc in
          ap (λ (r : CopyRow). Shows (HereAt r.branch r.number)) (sym its) ∙ ap (λ (l : List (Row BookCopy)). custody_of mark l unders) are

  none_here : (rows : List CopyRow) → IsPermutation (filter (λ (row : Row BookCopy). is_mark mark row.it.mark) books.copies) (map seen_copy_row rows)
      → find is_here rows ≡ None → copies_here mark books ≡ []
  none_here rows same none = go (filter is_here rows) (slice_get-filter is_here rows ∙ none) (copies_are rows same)
    where
      go : (found : List CopyRow) → slice_get found 0 ≡ None → map seen_copy_row found ≡ copies_here mark books → copies_here mark books ≡ []
      go [] none are = sym are
      go (x ∷ xs) none are = absurd cc

  module _ (rows : List CopyRow) (lines : List LineRow)
      (same : IsPermutation (filter (λ (row : Row BookCopy). is_mark mark row.it.mark) books.copies) (map seen_copy_row rows)) (none : find is_here rows ≡ None)
      (alike : IsPermutation (filter (λ (row : Placed). is_mark mark row.it.mark) (all_placed books.consignments)) (map seen_line lines)) where
    pub place_under_way : (line : LineRow) → find is_under_way lines ≡ Some line
        → Shows (UnderWayTo line.key.source line.key.addressee line.key.number) ≡ place_of mark books
    place_under_way line first = go (filter is_under_way lines) (slice_get-filter is_under_way lines ∙ first) (lines_are lines alike)
      where
        go : (found : List LineRow) → slice_get found 0 ≡ Some line → map seen_line found ≡ lines_under_way mark books
            → Shows (UnderWayTo line.key.source line.key.addressee line.key.number) ≡ place_of mark books
        go [] first are = absurd cc
        go (x ∷ []) first are =
            let its : x ≡ line = cc in
            let it = under_one line_test books.consignments (seen_line x) (sym are) in
            ap (λ (r : LineRow). Shows (UnderWayTo r.key.source r.key.addressee r.key.number)) (sym its)
            ∙ (λ i. Shows (UnderWayTo (sym it.2.0 i) (sym it.2.1 i) (sym it.2.2 i)))
            ∙ ap (λ (l : List Consignment). custody_of mark [] l) (sym it.1)
            ∙ ap (λ (l : List (Row BookCopy)). custody_of mark l unders) (sym (none_here rows same none))
        go (x ∷ y ∷ more) first are =
            let short : length (map seen_line (x ∷ y ∷ more)) ≤ 1 = subst (λ l. length l ≤ 1) (sym are) one.1 in absurd (omega (arith, short))

    pub place_gone : find is_under_way lines ≡ None → Shows Gone ≡ place_of mark books
    place_gone first = go (filter is_under_way lines) (slice_get-filter is_under_way lines ∙ first) (lines_are lines alike)
      where
        go : (found : List LineRow) → slice_get found 0 ≡ None → map seen_line found ≡ lines_under_way mark books → Shows Gone ≡ place_of mark books
        go [] first are =
            ap (λ (l : List Consignment). custody_of mark [] l) (sym (under_none line_test books.consignments (sym are)))
            ∙ ap (λ (l : List (Row BookCopy)). custody_of mark l unders) (sym (none_here rows same none))
        go (x ∷ xs) first are = absurd cc

-- ---- of books whose marks have one place

counted : {X : Type 0} (p : X → Bool) (xs : List X) → total (λ x. one (p x)) xs ≡ length (filter p xs)
counted p [] = refl
counted p (x ∷ xs) = go (p x) (counted p xs)
  where
    go : (b : Bool) → total (λ x. one (p x)) xs ≡ length (filter p xs) → one b + total (λ x. one (p x)) xs ≡ length (cond b (x ∷ filter p xs) (filter p xs))
    go true more = omega (arith, more)
    go false more = omega (arith, more)

placed_total : (w : Line → ℕ) (it : Consignment) (k : ℕ) (ls : List Line)
    → total (λ (row : Placed). w row.it) (map (placed_at it) (numbered_from k ls)) ≡ total w ls
placed_total w it k [] = refl
placed_total w it k (l ∷ ls) = ap (λ n. w l + n) (placed_total w it (k + 1) ls)

lines_total : (w : Line → ℕ) (cs : List Consignment)
    → total (λ (row : Placed). w row.it) (all_placed cs) ≡ total w (flat_map (λ (it : Consignment). it.lines) cs)
lines_total w [] = refl
lines_total w (it ∷ cs) =
    total-append (λ (row : Placed). w row.it) (placed_in it) (all_placed cs) ∙ (λ i. placed_total w it 1 it.lines i + lines_total w cs i)
    ∙ sym (total-append w it.lines (flat_map (λ (it : Consignment). it.lines) cs))

pub one_place : (mark : Mark) (books : Books) → places (is_mark mark) books ≤ 1 → HasOnePlace mark books
one_place mark books few =
    let w : Line → ℕ = λ line. one (line_is line.state UnderWay && is_mark mark line.mark) in
    let copies : here (is_mark mark) books ≡ length (copies_here mark books) =
    counted (λ (row : Row BookCopy). copy_is row.it.state Here && is_mark mark row.it.mark) books.copies in
    let lines : transit (is_mark mark) books ≡ length (lines_under_way mark books) =
    sym (lines_total w books.consignments)
    ∙ counted (λ (row : Placed). line_is row.it.state UnderWay && is_mark mark row.it.mark) (all_placed books.consignments) in
    let a : length (copies_here mark books) ≤ 1 = omega (arith, few, copies) in
    let b : length (lines_under_way mark books) ≤ 1 = omega (arith, few, lines) in
    (a, b)
