use Rattle.shop_types.proofs.Common.{rules, ◌≡◌, ◌&&◌, ◌∙◌, ℕ, List, IsPermutation, IsSorted, length, map, sym, ap, subst, nat_cmp, IfOk-weaker, Consignment}
use Rattle.audit_rows.specs.declared.rows.CheckedHeader.{CheckedHeader}
use Rattle.audit_rows.specs.Lists.{counts_from}
use Rattle.audit_rows.specs.Seen.{seen_header, seen_placed}
use Rattle.audit_rows.specs.Consignments.{are_settled, pairs_follow}
use Rattle.audit_rows.specs.Ordered.{AreConsignmentsOf}
use Rattle.audit_rows.specs.Checked.{are_good_consignments}
use Rattle.audit_rows.proofs.PlaceLemmas.{places_of_rows, sorted_places}
use Rattle.audit_rows.proofs.sound.are_consignments_good.Goals as goal

pub returns-then-pairs_follow : goal.returns-then-pairs_follow
returns-then-pairs_follow c =
    let rows = c.args.books.now in
    let headers = c.as_slice-headers.ensures.value in
    let films : c.len.result ≡ length rows.films.items = search rules in
    let opened : are_settled c.len.result (map seen_header c.as_slice-headers.result.now) (map seen_placed c.as_slice.result.now)
    ≡ are_settled (length rows.films.items) (map seen_header rows.headers.items) (map seen_placed rows.lines.items)
    = λ i. are_settled (films i) (map seen_header (headers i)) (map seen_placed (c.as_slice.ensures.value i)) in
    let settled = sym opened ∙ sym c.are_settled.ensures ∙ c.if-are_settled.true in
    let follow = ap (λ (hs : List CheckedHeader). pairs_follow (map seen_header hs)) (sym headers) ∙ sym c.pairs_follow.ensures ∙ c.if-pairs_follow.true in
    IfOk-weaker c.places_count.result (λ is.
    (places : List ℕ) → IsPermutation (map (λ (row : CheckedHeader). row.place) c.as_slice-headers.result.now) places
    → IsSorted nat_cmp places → is ≡ counts_from 1 places)
    (λ is. (its : List Consignment) → AreConsignmentsOf rows its → is ≡ are_good_consignments rows its)
    (λ is h its o.
    h (map (λ (it : Consignment). it.place) its)
    (subst (λ (xs : List CheckedHeader). IsPermutation (map (λ (row : CheckedHeader). row.place) xs) (map (λ (it : Consignment). it.place) its))
    (sym headers) (places_of_rows rows its o))
    (sorted_places rows its o)
    ∙ (λ i. sym settled i && sym follow i && counts_from 1 (map (λ (it : Consignment). it.place) its))) c.places_count.ensures
