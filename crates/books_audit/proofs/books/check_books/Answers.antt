use Rattle.shop_schema.proofs.Common.{rules, true≢false, sym, ◌∙◌, Audit}
use Rattle.books_audit.proofs.CustodyAudits.{if_ok_then}
use Rattle.books_audit.proofs.CanonCounts.{must_have_counts}
use Rattle.books_audit.proofs.OneAudit.{none_stand, audit_of_rows}
use Rattle.books_audit.proofs.StandAll.{can_be_read}
use Rattle.books_audit.proofs.books.check_books.Goals as goal

pub returns-in-Err-NoBooks : goal.returns-in-Err-NoBooks
returns-in-Err-NoBooks c =
    none_stand c.args.tables.now (λ it. c.in-Err-NoBooks.ensures.none (search rules) (can_be_read c.args.tables.now it.0 it.1.without_counts))

pub returns-then-not-branch : goal.returns-then-not-branch
returns-then-not-branch c =
    none_stand c.args.tables.now
    (λ it.
    true≢false
    (sym (c.in_ok-have_counts.ensures.1 (must_have_counts c.args.tables.now c.in-Ok.rows c.in-Ok.ensures.read it.0 it.1)) ∙ c.if-not-branch.true))

pub returns : goal.returns
returns c =
    if_ok_then c.audit_ordered.result
    (λ (audit : Audit) is. audit_of_rows c.args.tables.now c.in-Ok.rows c.in-Ok.ensures.read (c.in_ok-have_counts.ensures.0 c.if-not-branch.false) audit is)
    c.audit_ordered.ensures
