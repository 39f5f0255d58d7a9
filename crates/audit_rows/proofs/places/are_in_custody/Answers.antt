use Rattle.shop_types.proofs.Common.{◌≡◌, ◌∙◌, ◌&&◌, ◌++◌, List, ap, sym, map, true≢false, true, false, list_any, list_all, bytes_eq, Row, BookCopy, Line}
use Rattle.shop_types.proofs.Common.{seen_mark}
use Rattle.audit_rows.specs.Lists.{Key}
use Rattle.audit_rows.specs.Seen.{seen_copy, seen_line}
use Rattle.audit_rows.specs.Marked.{film_key, mark_key, made_keys, places_are_single, rows_placed, lines_placed}
use Rattle.audit_rows.specs.declared.places.MarkedFilm.{MarkedFilm}
use Rattle.audit_rows.proofs.MarkLemmas.{any_sorted, cut, cut_rows, rows_found, lines_found, from_checks, to_checks}
use Rattle.audit_rows.proofs.Tests.{all_congr}
use Rattle.audit_rows.proofs.places.are_in_custody.Goals.{then-copies_among, else-copies_among}
use Rattle.audit_rows.proofs.places.are_in_custody.Goals as goal

pub returns-then-not-branch : goal.returns-then-not-branch
returns-then-not-branch c =
    let copies : List (Row BookCopy) = map seen_copy c.args.copies.now in
    let lines : List Line = map seen_line c.args.lines.now in
    let keys : List Key = rows_placed copies ++ lines_placed lines in
    let is : map (λ (row : MarkedFilm). film_key row.film (seen_mark row.mark)) c.add_lines_placed.new.placed.items ≡ keys =
    c.in_ok-add_lines_placed.ensures ∙ ap (λ ks. ks ++ lines_placed lines) c.in_ok-placed.ensures in
    let single : c.in_ok-have_one_place.field-0 ≡ places_are_single (made_keys copies) (map cut keys) =
    c.in_ok-have_one_place.ensures
    ∙ (λ i. places_are_single (made_keys copies) (map (λ (row : MarkedFilm). mark_key (seen_mark row.mark)) (c.as_slice.ensures.value i)))
    ∙ ap (places_are_single (made_keys copies)) (cut_rows (λ (row : MarkedFilm). row.film) (λ (row : MarkedFilm). seen_mark row.mark) _ keys is) in
    let failed : c.in_ok-have_one_place.field-0 ≡ false = c.if-not-branch.true in
    (λ h. absurd (true≢false (sym h)), λ a. absurd (true≢false (sym (to_checks copies lines a).0 ∙ sym single ∙ failed)))

pub returns : goal.returns
returns c =
    let copies : List (Row BookCopy) = map seen_copy c.args.copies.now in
    let lines : List Line = map seen_line c.args.lines.now in
    let keys : List Key = rows_placed copies ++ lines_placed lines in
    let is : map (λ (row : MarkedFilm). film_key row.film (seen_mark row.mark)) c.add_lines_placed.new.placed.items ≡ keys =
    c.in_ok-add_lines_placed.ensures ∙ ap (λ ks. ks ++ lines_placed lines) c.in_ok-placed.ensures in
    let single : c.in_ok-have_one_place.field-0 ≡ places_are_single (made_keys copies) (map cut keys) =
    c.in_ok-have_one_place.ensures
    ∙ (λ i. places_are_single (made_keys copies) (map (λ (row : MarkedFilm). mark_key (seen_mark row.mark)) (c.as_slice.ensures.value i)))
    ∙ ap (places_are_single (made_keys copies)) (cut_rows (λ (row : MarkedFilm). row.film) (λ (row : MarkedFilm). seen_mark row.mark) _ keys is) in
    let passed : c.in_ok-have_one_place.field-0 ≡ true = c.if-not-branch.false in
    let key = λ (row : MarkedFilm). film_key row.film (seen_mark row.mark) in
    let found : (k : Key) → list_any (bytes_eq k) (map key c.sort_rows.new.rows.items) ≡ list_any (bytes_eq k) keys =
    any_sorted key _ _ keys is c.sort_rows.ensures.permutation in
    let rows : c.copies_among.result ≡ list_all (λ (row : Row BookCopy). list_any (bytes_eq (film_key row.it.film row.it.mark)) keys) copies =
    c.copies_among.ensures
    ∙ (λ i. list_all (λ (row : Row BookCopy). list_any (bytes_eq (film_key row.it.film row.it.mark)) (map key (c.as_slice-2.ensures.value i))) copies)
    ∙ all_congr _ _ (λ (row : Row BookCopy). found (film_key row.it.film row.it.mark)) copies in
    let result : c.if-copies_among.result ≡ (rows_found copies lines && lines_found copies lines) = elim c.if-copies_among.branch [
      | then-copies_among w ↦
          w.result-is ∙ w.lines_among.ensures
          ∙ (λ i. list_all (λ (line : Line). list_any (bytes_eq (film_key line.film line.mark)) (map key (w.as_slice-then-copies_among.ensures.value i))) lines)
          ∙ all_congr _ _ (λ (line : Line). found (film_key line.film line.mark)) lines
          ∙ ap (λ b. b && lines_found copies lines) (sym w.if-copies_among.true ∙ rows)
      | else-copies_among w ↦ w.result-is ∙ w.if-copies_among.false ∙ ap (λ b. b && lines_found copies lines) (sym w.if-copies_among.false ∙ rows)
    ] in
    (λ h. from_checks copies lines (sym single ∙ passed) (sym result ∙ h), λ a. result ∙ (to_checks copies lines a).1)
