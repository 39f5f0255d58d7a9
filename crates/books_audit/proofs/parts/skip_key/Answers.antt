use Rattle.shop_schema.proofs.Common.{refl, sym, ap, ◌∙◌, true≢false, text_form, is_key}
use Rattle.books_audit.proofs.Ends.{same_text}
use Rattle.books_audit.proofs.parts.skip_key.Goals as goal

pub returns-then-is_key-clause-found : goal.returns-then-is_key-clause-found
returns-then-is_key-clause-found c =
    (text_form c.in_ok-text.text.now, (c.in_ok-text.text.now, sym c.is_key.ensures ∙ c.if-is_key.true, refl), c.in_ok-text.ensures.found)

pub returns-else-is_key-clause-none : goal.returns-else-is_key-clause-none
returns-else-is_key-clause-none c piece rest (t, k, e) h =
    let same = same_text c.args.bytes.now c.in_ok-text.text.now c.in_ok-text.rest.now piece t rest c.in_ok-text.ensures.found e h in
    true≢false (sym (sym (ap is_key same) ∙ k) ∙ sym c.is_key.ensures ∙ c.if-is_key.false)
