use Rattle.shop_schema.proofs.Common.{◌≡◌, ◌∙◌, ◌+◌, ◌∷◌, [], ℕ, ap, codes, decimal, length, owned_by, counts_of}
use Rattle.shop_ledger.proofs.CountsOf.{beside}
use Rattle.sql_rows.proofs.Chaining.{err_inside, then_does}
use Rattle.catalogue_rows.proofs.Numbers.{numbered_as}
use Rattle.catalogue_rows.proofs.Written.{no_last, branch_added}
use Rattle.catalogue_rows.proofs.adding.add_branch.Goals as goal

pub returns : goal.returns
returns g c =
    let next = c.in_ok-number.ensures in
    let first = rw next.1 at c.last_number.ensures in
    numbered_as c.put_counts.result c.numbered.result _ c.numbered.ensures
    (then_does (then_does first c.in_ok-put_branch.ensures) c.put_counts.ensures) (λ _ said books holds held.
    let last = said.0.0 books holds held in
    let is : c.in_ok-number.number ≡ length books.catalogue.branches + 1 = next.2 ∙ ap (λ (n : ℕ). n + 1) last.1 in
    let number : c.new_branch.result.number ≡ length books.catalogue.branches + 1 = c.new_branch.ensures.number ∙ is in
    let none : owned_by c.new_branch.result.number books.lasts ≡ [] = ap (λ (n : ℕ). owned_by n books.lasts) number ∙ no_last books held in
    let put = said.0.1 (counts_of books) books (beside _ books last.0) (number, none) in
    let counted = said.1 (counts_of books) _ put tt in
    (branch_added _ books _ _ _ (c.get.ensures.value ∙ is) c.new_branch.ensures.row counted.0, ap (λ (n : ℕ). (codes "branch", decimal n) ∷ []) is))

pub returns-in_err-put_branch : goal.returns-in_err-put_branch
returns-in_err-put_branch g c =
    let first = rw c.in_ok-number.ensures.1 at c.last_number.ensures in
    err_inside _ c.from_residual-in_err-put_branch.ensures.0 (then_does first c.put_branch.ensures).inside
