use Rattle.std.proofs.Common.{sym, ◌∙◌}
use Rattle.catalogue_core.proofs.ActLemmas.{manager_no_branch, manager_elsewhere, manager_already, manager_set}
use Rattle.catalogue_core.proofs.acts.manager_refusal.Goals as goal

pub returns-in_default-branch : goal.returns-in_default-branch
returns-in_default-branch c = λ catalogue branch is.
    let found = rw c.in-Some.is at is in
    let none = rw c.in_default-branch.is at branch in
    manager_no_branch catalogue c.args.manager (c.in-Some.staff.branch, c.in-Some.staff.gone) found c.if-staff.false c.args.number none

pub returns-then-not-works_at : goal.returns-then-not-works_at
returns-then-not-works_at c = λ catalogue branch is.
    let found = rw c.in-Some.is at is in
    let some = rw c.in-Some-branch.is at branch in
    let away = sym c.works_at.ensures ∙ c.if-not-works_at.true in
    manager_elsewhere catalogue c.args.manager (c.in-Some.staff.branch, c.in-Some.staff.gone)
    found c.if-staff.false c.args.number c.in-Some-branch.branch.manager some away

pub returns-then-is_managed_by : goal.returns-then-is_managed_by
returns-then-is_managed_by c = λ catalogue branch is.
    let found = rw c.in-Some.is at is in
    let some = rw c.in-Some-branch.is at branch in
    let own = sym c.works_at.ensures ∙ c.if-not-works_at.false in
    manager_already catalogue c.args.manager (c.in-Some.staff.branch, c.in-Some.staff.gone)
    found c.if-staff.false c.args.number c.in-Some-branch.branch.manager some own
    (sym c.is_managed_by.ensures ∙ c.if-is_managed_by.true)

pub returns : goal.returns
returns c = λ catalogue branch is.
    let found = rw c.in-Some.is at is in
    let some = rw c.in-Some-branch.is at branch in
    let own = sym c.works_at.ensures ∙ c.if-not-works_at.false in
    manager_set catalogue c.args.manager (c.in-Some.staff.branch, c.in-Some.staff.gone)
    found c.if-staff.false c.args.number c.in-Some-branch.branch.manager some own
    (sym c.is_managed_by.ensures ∙ c.if-is_managed_by.false)
