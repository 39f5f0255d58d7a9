use Rattle.std.proofs.Common.{sym, ◌∙◌}
use Rattle.view_texts.proofs.Unchanged.{known_next, looked_next}
use Rattle.view_texts.proofs.SalesLists.{listed_next, listed_last, same_branch}
use Rattle.view_texts.proofs.stores.add_branches.Goals as goal

pub branches-preserved : goal.branches-preserved
branches-preserved g c =
    let same = same_branch c.branches.number c.in-Some.branch _ c.new.ensures c.in-Some.is in
    looked_next g.S.Store c.args.conn.now c.branches.conn c.add_branch.new.conn _ c.branches.invariant
    c.in_ok-add_branch.ensures.same.survives c.in_ok-add_branch.ensures.same.same _
    c.in_ok-add_branch.ensures.same.mode c.in_ok-add_branch.ensures.same.kept
    (λ clean books holds held so_far none. listed_next c.branches.page c.add_branch.new.page c.branches.number books (so_far none)
    (λ values. rw same at (c.in_ok-add_branch.ensures.added clean books values holds held))
    (rw same at (sym c.if-not-branch.false ∙ c.in_ok-add_branch.ensures.there clean books holds)))

pub returns-then-not-branch-clause-added : goal.returns-then-not-branch-clause-added
returns-then-not-branch-clause-added g c =
    let same = same_branch c.branches.number c.in-Some.branch _ c.new.ensures c.in-Some.is in
    known_next g.S.Store c.args.conn.now c.branches.conn c.add_branch.new.conn _ c.branches.invariant
    c.in_ok-add_branch.ensures.same.survives c.in_ok-add_branch.ensures.same.same _
    (λ clean books holds held so_far none. listed_last c.branches.page c.add_branch.new.page c.branches.number books (so_far none)
    (λ values. rw same at (c.in_ok-add_branch.ensures.added clean books values holds held))
    (rw same at (sym c.if-not-branch.true ∙ c.in_ok-add_branch.ensures.there clean books holds)))
