use Rattle.shop_types.proofs.Common.{◌≡◌, ◌∙◌, ◌&&◌, List, ap, sym, map, list_any, list_all, bytes_eq, are_different, seen_mark}
use Rattle.audit_rows.specs.Lists.{Key}
use Rattle.audit_rows.specs.Seen.{seen_copy}
use Rattle.audit_rows.specs.Marked.{mark_key, made_keys}
use Rattle.audit_rows.specs.declared.places.MarkRow.{MarkRow}
use Rattle.audit_rows.specs.declared.places.MarkedFilm.{MarkedFilm}
use Rattle.audit_rows.proofs.MarkLemmas.{all_made, all_apart}
use Rattle.audit_rows.proofs.places.have_one_place.Goals.{then-are_among, else-are_among}
use Rattle.audit_rows.proofs.places.have_one_place.Goals as goal

pub returns : goal.returns
returns c =
    let key = λ (row : MarkRow). mark_key (seen_mark row.mark) in
    let ks : List Key = made_keys (map seen_copy c.args.copies.now) in
    let ms : List Key = map (λ (row : MarkedFilm). mark_key (seen_mark row.mark)) c.args.placed.now in
    let among : c.are_among.result ≡ list_all (λ (k : Key). list_any (bytes_eq k) ks) ms =
    c.are_among.ensures
    ∙ (λ i. list_all (λ row. list_any (bytes_eq (key row)) (map key (c.as_slice-2.ensures.value i))) (c.as_slice.ensures.value i))
    ∙ all_made key c.in_ok-marks.marks.items _ _ ks ms c.in_ok-made.ensures c.sort_rows.ensures.permutation c.in_ok-marks.ensures in
    elim c.if-are_among.branch [
      | then-are_among w ↦
          w.result-is ∙ w.are_distinct.ensures.distinct ∙ all_apart key c.in_ok-marks.marks.items ms c.in_ok-marks.ensures
          ∙ ap (λ b. b && are_different bytes_eq ms) (sym w.if-are_among.true ∙ among)
      | else-are_among w ↦
          w.result-is ∙ w.if-are_among.false ∙ ap (λ b. b && are_different bytes_eq ms) (sym w.if-are_among.false ∙ among)
    ]
