use Rattle.shop_schema.proofs.Common.{refl, sym, subst, ◌∙◌, true≢false, text_form, IsRating}
use Rattle.books_audit.proofs.Ends.{same_text}
use Rattle.books_audit.proofs.parts.skip_rating.Goals as goal

pub returns-then-is_rating-clause-found : goal.returns-then-is_rating-clause-found
returns-then-is_rating-clause-found c =
    (text_form c.in_ok-text.text.now, (c.in_ok-text.text.now, c.is_rating.ensures.0 c.if-is_rating.true, refl), c.in_ok-text.ensures.found)

pub returns-else-is_rating-clause-none : goal.returns-else-is_rating-clause-none
returns-else-is_rating-clause-none c piece rest (t, k, e) h =
    let same = same_text c.args.bytes.now c.in_ok-text.text.now c.in_ok-text.rest.now piece t rest c.in_ok-text.ensures.found e h in
    true≢false (sym (c.is_rating.ensures.1 (subst IsRating same k)) ∙ c.if-is_rating.false)
