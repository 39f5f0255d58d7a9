-- The books of a chain that was just made or opened.
use Rattle.shop_schema.proofs.Common.{◌≡◌, ap₂, Bool, false, Limits, most_limits, Books}
use Rattle.chain_requests.specs.Holding.{Chained, Holding, holding}
use Rattle.sakila_office.specs.Commands.{opened_holding}

pub is_opened : {S : Type 0} (chain : Chained S) (books : Books) → chain.limits ≡ most_limits
    → chain.is_failed ≡ false → holding chain books books ≡ opened_holding books
is_opened chain books limits live =
    ap₂ (λ (l : Limits) (f : Bool). let h : Holding = record { limits = l; is_failed = f; books = books; besides = books } in h) limits live
