use Rattle.shop_schema.proofs.Common.{◌≡◌, ◌∙◌, ◌+◌, ◌++◌, ◌∷◌, [], List, take, map, sym, ap, take_more, take_all, map-append, done, map-map, Payment}
use Rattle.shop_schema.proofs.Common.{seen_payment}
use Rattle.sql_rows.proofs.Chaining.{one_call}
use Rattle.shop_store.specs.declared.payments.PaymentRow.{PaymentRow}
use Rattle.balance_rule.specs.declared.rows.Paid.{Paid}
use Rattle.balance_rule.specs.Balance.{paid_of}
use Rattle.branch_reports.proofs.balances.find_paid.Goals as goal

abbrev paid : PaymentRow → Paid
paid row = paid_of (seen_payment row.payment)

pub loop-row-init : goal.loop-row-init
loop-row-init g c = c.new-payments.ensures.items

pub loop-row-preserved : goal.loop-row-preserved
loop-row-preserved g c =
    let i = c.loop-row.row-index in
    let rows = c.deref-row-items.result.now in
    let it = c.row-item.result in
    let more : map paid (take (i + 1) rows) ≡ map paid (take i rows) ++ paid it ∷ [] =
    ap (map paid) (take_more rows i it c.loop-row-test.true ∙ ap (λ (x : PaymentRow). take i rows ++ x ∷ []) (sym c.row-item.is))
    ∙ map-append paid (take i rows) (it ∷ []) in
    c.in_ok-push.ensures.items ∙ ap (λ (p : Paid). c.loop-row.payments.items ++ p ∷ []) c.paid_by.ensures
    ∙ ap (λ (rs : List Paid). rs ++ paid it ∷ []) c.loop-row.invariant ∙ sym more

pub returns-clause-does : goal.returns-clause-does
returns-clause-does g c = done (one_call c.in-Ok.ensures.does) (λ said books holds held.
    let found = said books holds held in
    let rows = c.in-Ok.rows.items in
    let all : c.loop-row.payments.items ≡ map paid rows =
    c.loop-row.invariant ∙ ap (map paid) (take_all c.loop-row.row-index c.deref-row-items.result.now c.loop-row-test.false ∙ c.deref-row-items.ensures.value) in
    (found.0, all ∙ sym (map-map paid_of (λ (row : PaymentRow). seen_payment row.payment) rows) ∙ ap (λ (ps : List Payment). map paid_of ps) found.1))
