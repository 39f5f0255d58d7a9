use Rattle.shop_types.proofs.Common.{rules, ◌≡◌, ◌∷◌, [], ℕ, List, ◌∙◌, sym, ap, map, drop, ◌+◌, true, false, bytes_eq}
use Rattle.audit_rows.specs.declared.rows.CheckedLine.{CheckedLine}
use Rattle.audit_rows.specs.Lists.{front_of, back_of}
use Rattle.audit_rows.specs.Joins.{header_key}
use Rattle.audit_rows.specs.Consignments.{are_settled}
use Rattle.audit_rows.specs.Seen.{seen_header, seen_placed}
use Rattle.audit_rows.proofs.JoinLemmas.{header_next}
use Rattle.audit_rows.proofs.ConsignmentLemmas.{settled_step}
use Rattle.audit_rows.proofs.consignments.are_settled.Goals as goal

pub returns-then-not-are_good_lines : goal.returns-then-not-are_good_lines
returns-then-not-are_good_lines c =
    let h = c.header-item.result in
    let key : c.as_slice.result.now ≡ header_key (seen_header h) = search rules in
    let hs = map seen_header (drop (c.loop-header.header-index + 1) c.args.headers.now) in
    let front =
    c.split_group.ensures.front
    ∙ ap (λ (k : List ℕ). front_of (λ (row : CheckedLine). bytes_eq (row.source ∷ row.addressee ∷ row.number ∷ []) k) c.loop-header.rest.now) key in
    let back =
    c.split_group.ensures.back
    ∙ ap (λ (k : List ℕ). back_of (λ (row : CheckedLine). bytes_eq (row.source ∷ row.addressee ∷ row.number ∷ []) k) c.loop-header.rest.now) key in
    sym (settled_step seen_placed c.args.films (seen_header h) hs c.loop-header.rest.now c.split_group.result.0.now
    c.split_group.result.1.now false front back (sym c.if-not-are_good_lines.ensures))
    ∙ sym (ap (λ hs. are_settled c.args.films hs (map seen_placed c.loop-header.rest.now))
    (header_next seen_header c.args.headers.now c.loop-header.header-index h c.loop-header-test.true c.header-item.is))
    ∙ c.loop-header.invariant

pub loop-header-preserved : goal.loop-header-preserved
loop-header-preserved c =
    let h = c.header-item.result in
    let key : c.as_slice.result.now ≡ header_key (seen_header h) = search rules in
    let hs = map seen_header (drop (c.loop-header.header-index + 1) c.args.headers.now) in
    let front =
    c.split_group.ensures.front
    ∙ ap (λ (k : List ℕ). front_of (λ (row : CheckedLine). bytes_eq (row.source ∷ row.addressee ∷ row.number ∷ []) k) c.loop-header.rest.now) key in
    let back =
    c.split_group.ensures.back
    ∙ ap (λ (k : List ℕ). back_of (λ (row : CheckedLine). bytes_eq (row.source ∷ row.addressee ∷ row.number ∷ []) k) c.loop-header.rest.now) key in
    sym (settled_step seen_placed c.args.films (seen_header h) hs c.loop-header.rest.now c.split_group.result.0.now
    c.split_group.result.1.now true front back (sym c.if-not-are_good_lines.ensures))
    ∙ sym (ap (λ hs. are_settled c.args.films hs (map seen_placed c.loop-header.rest.now))
    (header_next seen_header c.args.headers.now c.loop-header.header-index h c.loop-header-test.true c.header-item.is))
    ∙ c.loop-header.invariant
