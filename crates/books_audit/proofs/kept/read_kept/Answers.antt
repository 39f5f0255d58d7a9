use Rattle.shop_schema.proofs.Common.{◌≡◌, ◌∙◌, ◌∷◌, List, true, ap, sym, map, true≢false, subst, IsPermutation-trans, IsPermutation-append, IsPermutation-map}
use Rattle.shop_schema.proofs.Common.{map-id, IsNumber}
use Rattle.audit_rows.specs.Lists.{climbs, Key}
use Rattle.audit_rows.specs.declared.rows.CheckedKept.{CheckedKept}
use Rattle.audit_rows.proofs.Keys.{distinct_by_order}
use Rattle.audit_rows.proofs.Standing.{all_moved}
use Rattle.books_audit.specs.Keys.{office_caller, branch_caller}
use Rattle.books_audit.proofs.kept.read_kept.Goals as goal

pub returns-then-not-climbs-clause-none : goal.returns-then-not-climbs-clause-none
returns-then-not-climbs-clause-none c e h =
    let key = λ (k : Key). k in
    let is = c.climbs.ensures ∙ ap (λ (xs : List Key). climbs (map key xs)) c.as_slice.ensures.value in
    true≢false (sym (h.office c.in-Some.rows.items c.in_ok-office.field-0.office.items c.in_ok-office.field-0.kept.items
    (rw (c.of.ensures, c.in-Some.is) at c.in_ok-rows.ensures.found) c.in_ok-office.ensures.branches c.in_ok-office.ensures.same)
    ∙ sym (distinct_by_order key _ _ c.sort_rows.ensures.permutation c.sort_rows.ensures.sorted) ∙ sym is ∙ c.if-not-climbs.true)

pub returns-then-not-climbs-2-clause-none : goal.returns-then-not-climbs-2-clause-none
returns-then-not-climbs-2-clause-none c e h =
    let key = λ (row : CheckedKept). row.branch ∷ row.key in
    let is = c.climbs-2.ensures ∙ ap (λ (xs : List CheckedKept). climbs (map key xs)) c.as_slice-2.ensures.value in
    true≢false (sym (h.kept c.in-Some.rows.items c.in_ok-office.field-0.office.items c.in_ok-office.field-0.kept.items
    (rw (c.of.ensures, c.in-Some.is) at c.in_ok-rows.ensures.found) c.in_ok-office.ensures.branches c.in_ok-office.ensures.same)
    ∙ sym (distinct_by_order key _ _ c.sort_rows-2.ensures.permutation c.sort_rows-2.ensures.sorted) ∙ sym is ∙ c.if-not-climbs-2.true)

pub returns-clause-read : goal.returns-clause-read
returns-clause-read c =
    let moved =
    IsPermutation-append _ _ _ _ (IsPermutation-map office_caller _ _ c.sort_rows.ensures.permutation)
    (IsPermutation-map branch_caller _ _ c.sort_rows-2.ensures.permutation) in
    record {
      rows = record {
        found = c.in-Some.rows.items;
        are_rows = rw (c.of.ensures, c.in-Some.is) at c.in_ok-rows.ensures.found;
        same = IsPermutation-trans _ _ _ c.in_ok-office.ensures.same moved;
      };
      branches = all_moved (λ (x : CheckedKept). IsNumber x.branch) _ _ c.sort_rows-2.ensures.permutation c.in_ok-office.ensures.branches;
      office_climb =
          subst (λ (l : List Key). climbs l ≡ true) (map-id c.sort_rows.new.rows.items)
          (sym (c.climbs.ensures ∙ ap (λ (xs : List Key). climbs (map (λ (k : Key). k) xs)) c.as_slice.ensures.value) ∙ c.if-not-climbs.false);
      kept_climb =
          sym (c.climbs-2.ensures ∙ ap (λ (xs : List CheckedKept). climbs (map (λ (row : CheckedKept). row.branch ∷ row.key) xs)) c.as_slice-2.ensures.value)
          ∙ c.if-not-climbs-2.false;
    }
