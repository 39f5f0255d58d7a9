use Rattle.shop_types.specs.declared.audit.Audit.{Audit}
use Rattle.books_audit.proofs.CustodyAudits.{nothing_stands, no_copies, no_lines, audits_all, if_ok_then}
use Rattle.books_audit.proofs.custody.check_custody.Goals as goal

pub returns-in_default : goal.returns-in_default
returns-in_default c =
    nothing_stands c.args.copies.now c.args.lines.now (no_copies c.args.copies.now c.args.lines.now (rw c.in_default.is at c.in_ok-copies.ensures.none))

pub returns-in_default-2 : goal.returns-in_default-2
returns-in_default-2 c =
    nothing_stands c.args.copies.now c.args.lines.now (no_lines c.args.copies.now c.args.lines.now (rw c.in_default-2.is at c.in_ok-lines.ensures.none))

pub returns : goal.returns
returns c =
    if_ok_then c.audit_rows.result (λ (audit : Audit) is.
    audits_all c.args.copies.now c.args.lines.now c.in-Some.copies.items c.in-Some-2.lines.items
    (rw c.in-Some.is at c.in_ok-copies.ensures.found) (rw c.in-Some-2.is at c.in_ok-lines.ensures.found) audit
    (rw (c.as_slice.ensures.value, c.as_slice-2.ensures.value) at is)) c.audit_rows.ensures
