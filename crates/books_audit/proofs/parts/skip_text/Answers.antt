use Rattle.shop_schema.proofs.Common.{refl, sym, ap, subst, ◌∙◌, true≢false, text_form, is_text}
use Rattle.std.specs.Str.{IsUtf8}
use Rattle.books_audit.proofs.Ends.{same_text}
use Rattle.books_audit.proofs.parts.skip_text.Goals as goal

pub returns-then-not-is_text-clause-none : goal.returns-then-not-is_text-clause-none
returns-then-not-is_text-clause-none c piece rest (t, k, e) h =
    let same = same_text c.args.bytes.now c.in_ok-text.text.now c.in_ok-text.rest.now piece t rest c.in_ok-text.ensures.found e h in
    true≢false (sym (sym (ap (is_text c.args.low c.args.high) same) ∙ k.0) ∙ sym c.if-not-is_text.ensures)

pub returns-then-not-is_utf8-clause-none : goal.returns-then-not-is_utf8-clause-none
returns-then-not-is_utf8-clause-none c piece rest (t, k, e) h =
    let same = same_text c.args.bytes.now c.in_ok-text.text.now c.in_ok-text.rest.now piece t rest c.in_ok-text.ensures.found e h in
    true≢false (sym (c.if-not-is_utf8.ensures.1 (subst IsUtf8 same k.1)))

pub returns-clause-found : goal.returns-clause-found
returns-clause-found c = (
  text_form c.in_ok-text.text.now,
  (c.in_ok-text.text.now, (sym c.if-not-is_text.ensures, c.if-not-is_utf8.ensures.0 refl), refl),
  c.in_ok-text.ensures.found,
)
