use Rattle.shop_schema.proofs.Common.{refl, sym, ap, ◌∙◌, true≢false, text_form, is_token}
use Rattle.books_audit.proofs.Ends.{same_text, token_read}
use Rattle.books_audit.proofs.parts.skip_token.Goals as goal

pub returns-then-is_some-clause-found : goal.returns-then-is_some-clause-found
returns-then-is_some-clause-found c =
    let is = c.is_some.ensures ∙ token_read c.in_ok-text.text.now c.read.result c.read.ensures in
    (text_form c.in_ok-text.text.now, (c.in_ok-text.text.now, sym is ∙ c.if-is_some.true, refl), c.in_ok-text.ensures.found)

pub returns-else-is_some-clause-none : goal.returns-else-is_some-clause-none
returns-else-is_some-clause-none c piece rest (t, k, e) h =
    let is = c.is_some.ensures ∙ token_read c.in_ok-text.text.now c.read.result c.read.ensures in
    let same = same_text c.args.bytes.now c.in_ok-text.text.now c.in_ok-text.rest.now piece t rest c.in_ok-text.ensures.found e h in
    true≢false (sym (sym (ap is_token same) ∙ k) ∙ sym is ∙ c.if-is_some.false)
