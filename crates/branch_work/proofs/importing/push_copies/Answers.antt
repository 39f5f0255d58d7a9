use Rattle.shop_schema.proofs.Common.{◌≡◌, ◌∙◌, ap, ℕ, ◌+◌, List, [], ◌∷◌, ◌++◌, map, replicate, append_assoc, arith, vec_len, map-append, Row, BookCopy}
use Rattle.shop_schema.proofs.Common.{imported}
use Rattle.shop_store.specs.Seen.{seen_copy_row}
use Rattle.branch_work.specs.Added.{copies_from}
use Rattle.branch_work.proofs.CopyLemmas.{copy_more}
use Rattle.branch_work.proofs.importing.push_copies.Goals as goal

pub loop-preserved : goal.loop-preserved
loop-preserved c =
    let inv = c.loop.invariant in
    let b = c.args.branch in
    let i = c.loop.counter in
    let n = c.args.first + vec_len c.args.copies.now in
    let row = c.new_copy.result in
    let before = map seen_copy_row c.args.copies.now.items in
    let number : c.get.result + c.len.result ≡ n + i = omega (arith, inv.0, c.get.ensures.value, c.len.ensures) in
    let is : seen_copy_row row ≡ record { branch = b; number = n + i; it = imported b c.args.film (n + i) } =
    c.new_copy.ensures ∙ ap (λ (m : ℕ). record { branch = b; number = m; it = imported b c.args.film m }) number in
    let pushed : map seen_copy_row c.push_reserved.new.self.items ≡ map seen_copy_row c.loop.copies.items ++ seen_copy_row row ∷ [] =
    ap (map seen_copy_row) c.push_reserved.ensures.items ∙ map-append seen_copy_row c.loop.copies.items (row ∷ []) in
    let rows : map seen_copy_row c.push_reserved.new.self.items ≡ before ++ copies_from b n (replicate (i + 1) c.args.film) =
    pushed ∙ ap (λ (rs : List (Row BookCopy)). rs ++ seen_copy_row row ∷ []) inv.2
    ∙ append_assoc before (copies_from b n (replicate i c.args.film)) (seen_copy_row row ∷ [])
    ∙ ap (λ (rs : List (Row BookCopy)). before ++ rs) (copy_more b n i c.args.film (seen_copy_row row) is) in (
      omega (arith, c.push_reserved.ensures.len, inv.0),
      omega (arith, c.push_reserved.ensures.capacity, inv.1),
      rows,
    )
