use Rattle.shop_schema.proofs.Common.{refl, sym, subst, ◌∙◌, true≢false, IsFeatures, text_form}
use Rattle.books_audit.proofs.Ends.{same_text}
use Rattle.books_audit.proofs.parts.skip_features.Goals as goal

pub returns-then-are_features-clause-found : goal.returns-then-are_features-clause-found
returns-then-are_features-clause-found c =
    (text_form c.in_ok-text.text.now, (c.in_ok-text.text.now, c.are_features.ensures.0 c.if-are_features.true, refl), c.in_ok-text.ensures.found)

pub returns-else-are_features-clause-none : goal.returns-else-are_features-clause-none
returns-else-are_features-clause-none c piece rest (t, k, e) h =
    let same = same_text c.args.bytes.now c.in_ok-text.text.now c.in_ok-text.rest.now piece t rest c.in_ok-text.ensures.found e h in
    true≢false (sym (c.are_features.ensures.1 (subst IsFeatures same k)) ∙ c.if-are_features.false)
