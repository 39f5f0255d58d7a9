use Rattle.std.proofs.Common.{◌∙◌, sym, subst, true≢false}
use Rattle.books_audit.specs.Kept.{HasForm, IsCallerRow}
use Rattle.books_audit.proofs.KeptCells.{kept_full, kept_only, kept_form}
use Rattle.books_audit.proofs.kept_rows.CallerRowListed.read.Goals as goal

pub returns-in-Err-Failed-clause-none : goal.returns-in-Err-Failed-clause-none
returns-in-Err-Failed-clause-none c (x, full) =
    let it = kept_only x c.args.row.now full in c.in-Err-Failed.ensures.failed c.in-Err-Failed.field-0-is it.0 it.1 it.2

pub returns-then-not-has_form-clause-none : goal.returns-then-not-has_form-clause-none
returns-then-not-has_form-clause-none c (x, full) =
    let form = kept_form x c.in-Ok.cells (subst (IsCallerRow x) (sym c.in-Ok.ensures.ok) full) in
    true≢false (sym (c.has_form.ensures.1 (subst (HasForm c.in-Ok.cells.0) (sym c.as_slice.ensures) form)) ∙ c.if-not-has_form.true)

pub returns-clause-found : goal.returns-clause-found
returns-clause-found c =
    let form = subst (HasForm c.in-Ok.cells.0) c.as_slice.ensures (c.has_form.ensures.0 c.if-not-has_form.false) in
    subst (IsCallerRow (record { caller = c.in-Ok.cells.0; key = c.in-Ok.cells.1.0 })) c.in-Ok.ensures.ok (kept_full c.in-Ok.cells c.in-Ok.ensures.fit form)
