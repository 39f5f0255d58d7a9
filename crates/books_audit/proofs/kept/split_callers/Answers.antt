use Rattle.shop_schema.proofs.Common.{rules, ◌≡◌, ◌≤◌, ◌++◌, [], ◌∷◌, sym, ◌∙◌, IsNumber, subst, AllByRecursion, all-append}
use Rattle.books_audit.proofs.Splits.{zero_is, some_is, number_is, office_step, branch_step}
use Rattle.audit_rows.specs.declared.rows.CheckedKept.{CheckedKept}
use Rattle.books_audit.proofs.kept.split_callers.Goals as goal

pub loop-row-preserved-else-is_err : goal.loop-row-preserved-else-is_err
loop-row-preserved-else-is_err c =
    let good : c.push.new.self.items ≡ c.loop-row.office.items ++ c.in-Some.row.key ∷ [] = search rules in
    let rest : c.loop-row.row-iterator.rest.items ≡ c.in-Some.row ∷ c.next.new.self.rest.items = search rules in
    record {
      same =
          office_step c.args.rows.items c.next.new.self.rest.items c.loop-row.row-iterator.rest.items c.in-Some.row
          c.loop-row.office.items c.push.new.self.items c.loop-row.kept.items c.loop-row.invariant.same rest
          (zero_is _ (sym c.new.ensures ∙ c.in-None-new.is)) good;
      branches = c.loop-row.invariant.branches;
    }

pub loop-row-preserved : goal.loop-row-preserved
loop-row-preserved c =
    let good : c.push-in-Some-new.new.self.items ≡ c.loop-row.kept.items ++ record { branch = c.in-Some-new.branch; key = c.in-Some.row.key } ∷ [] =
    search rules in
    let rest : c.loop-row.row-iterator.rest.items ≡ c.in-Some.row ∷ c.next.new.self.rest.items = search rules in
    let is = sym c.new.ensures ∙ c.in-Some-new.is in
    let fits : c.in-Some.row.caller ≤ 4_294_967_295 = search rules in
    record {
      same =
          branch_step c.args.rows.items c.next.new.self.rest.items c.loop-row.row-iterator.rest.items c.in-Some.row c.loop-row.office.items
          c.loop-row.kept.items c.push-in-Some-new.new.self.items c.in-Some-new.branch c.loop-row.invariant.same rest
          (some_is _ _ is) good;
      branches =
          subst (AllByRecursion (λ (x : CheckedKept). IsNumber x.branch)) (sym good)
          (all-append _ c.loop-row.kept.items _ c.loop-row.invariant.branches (number_is _ _ is fits, tt));
    }
