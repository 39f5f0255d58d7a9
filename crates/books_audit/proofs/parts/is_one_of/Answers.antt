use Rattle.shop_schema.proofs.Common.{◌≡◌, ◌-◌, Some, None, length, slice_get, refl, sym, arith, true≢false}
use Rattle.std.proofs.lemmas.Option.{slice_get_past, slice_get_read}
use Rattle.books_audit.proofs.PartForms.{found_one, found_none, empty_none, zero_none}
use Rattle.books_audit.proofs.parts.is_one_of.Goals as goal

pub returns-in_default : goal.returns-in_default
returns-in_default c = (λ h. absurd (true≢false (sym h)), λ f. absurd (empty_none _ c.args.bytes.now c.in_default.ensures.cases f))

pub returns-then-tag-eq0 : goal.returns-then-tag-eq0
returns-then-tag-eq0 c = (
  λ h. absurd (true≢false (sym h)),
  λ f. absurd (zero_none _ c.args.bytes.now c.in-Some.rest.now c.in-Some.tag.now c.if-tag-eq0.true c.in-Some.ensures.cases.0 f),
)

pub returns-in-Some-get : goal.returns-in-Some-get
returns-in-Some-get c =
    let forms = c.args.forms.now in
    let place = c.in-Some.tag.now - 1 in
    let parts = c.in-Some-get.parts.now in
    let at = c.in-Some-get.ensures.lookup.3 in
    let such : slice_get forms place ≡ Some parts = slice_get_read forms (length forms) place parts refl at.0 (at.1 parts) in
    let it = found_one forms c.args.bytes.now c.in-Some.rest.now c.in-Some.tag.now place parts (omega arith) such c.in-Some.ensures.cases.0 in
    (λ h. it.0 (c.is_form.ensures.0 h), λ f. c.is_form.ensures.1 (it.1 f))

pub returns-in-None : goal.returns-in-None
returns-in-None c =
    let forms = c.args.forms.now in
    let place = c.in-Some.tag.now - 1 in
    let such : slice_get forms place ≡ None = slice_get_past forms place c.in-None.ensures.lookup.3 in (
      λ h. absurd (true≢false (sym h)),
      λ f. absurd (found_none forms c.args.bytes.now c.in-Some.rest.now c.in-Some.tag.now place (omega arith) such c.in-Some.ensures.cases.0 f),
    )
