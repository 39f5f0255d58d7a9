use Rattle.shop_schema.proofs.Common.{◌∙◌, ap, sym, List, ℕ, seen_act}
use Rattle.shop_model.specs.Values as model
use Rattle.branch_work.proofs.Acted.{by_name}
use Rattle.branch_work.proofs.adding.carry_out.Goals as goal

pub returns-in-Customer : goal.returns-in-Customer
returns-in-Customer g c = by_name (ap seen_act c.in-Customer.is) (c.add_customer.ensures _)

pub returns-in-Active : goal.returns-in-Active
returns-in-Active g c = by_name (ap seen_act c.in-Active.is) (c.put_active.ensures _ _)

pub returns-in-Pay : goal.returns-in-Pay
returns-in-Pay g c = by_name (ap seen_act c.in-Pay.is) (c.add_payment.ensures _)

pub returns-in-Import : goal.returns-in-Import
returns-in-Import g c = by_name (ap seen_act c.in-Import.is) (c.import.ensures _ _)

pub returns-in-Dispatch : goal.returns-in-Dispatch
returns-in-Dispatch g c =
    by_name (ap seen_act c.in-Dispatch.is ∙ ap (λ (xs : List ℕ). model.Dispatch c.in-Dispatch.to xs) (sym c.as_slice.ensures.value)) (c.dispatch.ensures _)

pub returns-in-Receive : goal.returns-in-Receive
returns-in-Receive g c =
    by_name
    (ap seen_act c.in-Receive.is ∙ ap (λ (xs : List ℕ). model.Receive c.in-Receive.from c.in-Receive.number xs) (sym c.as_slice-in-Receive.ensures.value))
    (c.receive.ensures _)

pub returns-in-Scrap : goal.returns-in-Scrap
returns-in-Scrap g c = by_name (ap seen_act c.in-Scrap.is) (c.scrap.ensures _ _)
