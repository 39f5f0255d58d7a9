use Rattle.shop_schema.proofs.Common.{◌∙◌, ◌++◌, ◌∷◌, [], sym, ap, map, take, List, ℕ, Bool, take_all, map_push, map_more, and_then, done, some_calls, shop_of}
use Rattle.shop_store.specs.declared.copies.CopyRow.{CopyRow}
use Rattle.shop_schema.specs.Asked.{HoldsBooks}
use Rattle.shop_ledger.proofs.Failing.{fails_after, finds_stay}
use Rattle.branch_core.specs.Agreed.{seen_film_copy}
use Rattle.branch_finds.specs.Finds.{copy_shown}
use Rattle.branch_finds.proofs.finds.with_stock.Goals as goal

pub loop-row-preserved : goal.loop-row-preserved
loop-row-preserved g c = done (and_then (some_calls c.loop-row.invariant) (some_calls c.in-Ok.ensures.does)) (λ said books holds held.
    let before = said.0 books holds held in
    let one = said.1 books before.0 held in
    let rows = c.args.rows.now in
    let i = c.loop-row.row-index in
    let shown : CopyRow → ℕ × Bool × Bool = copy_shown (shop_of c.args.branch books).rentals in (
      one.0,
      ap (map seen_film_copy) c.in_ok-push.ensures.items ∙ map_push seen_film_copy c.loop-row.copies.items c.in-Ok.copy
          ∙ (λ j. before.1 j ++ one.1 j ∷ [])
          ∙ ap (λ (r : CopyRow). map shown (take i rows) ++ shown r ∷ []) c.row-item.is
          ∙ sym (map_more shown rows i c.row-item.result c.loop-row-test.true),
    ))

pub returns-clause-does : goal.returns-clause-does
returns-clause-does g c = done (some_calls c.loop-row.invariant) (λ said books holds held.
    let all = said books holds held in (
      all.0,
      all.1
          ∙ ap (λ (rs : List CopyRow). map (copy_shown (shop_of c.args.branch books).rentals) rs)
          (take_all c.loop-row.row-index c.args.rows.now c.loop-row-test.false),
    ))

pub returns-in-Err-clause-fails : goal.returns-in-Err-clause-fails
returns-in-Err-clause-fails g c =
    fails_after HoldsBooks HoldsBooks (some_calls c.loop-row.invariant) finds_stay c.in-Err.ensures.does.inside c.in-Err.ensures.fails
