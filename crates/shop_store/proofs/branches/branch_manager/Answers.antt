use Rattle.shop_schema.proofs.Common.{sym, or_null, same_number, same_or_null, rules}
use Rattle.shop_store.specs.SharedSeen.{manager_of}
use Rattle.shop_store.proofs.SharedReads.{number_is_some}
use Rattle.shop_store.specs.declared.branches.TheConstants.{SELECT_MANAGER}
use Rattle.shop_store.proofs.Common.{◌≡◌, [], ◌∷◌, arith, refl, everything, understood, col, column, number_value, does_first, branches, ReadsFirst}
use Rattle.shop_store.proofs.Common.{reads_first}
use Rattle.shop_store.proofs.branches.branch_manager.Goals as goal

reads : ReadsFirst branches SELECT_MANAGER.now manager_of (λ row v. column row 0 ≡ or_null number_value v)
unfolding understood everything
reads old new n rows slice h low =
    reads_first branches SELECT_MANAGER.now (col 1 7 ∷ []) (record { names = _; is = refl; plain = (refl, refl); unlisted = refl })
    (λ vs. column vs 6 ∷ []) (λ m r. refl) old new n rows h low
    manager_of (λ row v. column row 0 ≡ or_null number_value v)
    (λ books x v is. same_or_null number_value number_is_some same_number v x.manager (sym is)) slice

pub returns : goal.returns
returns g c =
    does_first _ _ c.query_first.ensures.inside (rw (c.to_sql.ensures, c.get.ensures.value) at c.query_first.ensures.shown)
    (λ rows these.
    let read = reads _ _ c.args.branch rows rows these (omega arith) refl in
    (read.0, λ row it some says. read.1 row it some (search rules)))
