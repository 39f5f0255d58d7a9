use Rattle.shop_types.proofs.Common.{◌≡◌, ◌∙◌, sym, subst, Option, Some, None, Text}
use Rattle.std.proofs.Common.{string_bytes}
use Rattle.serde_json.specs.Data.{Data}
use Rattle.serde_json.specs.View.{view}
use Rattle.shop_model.specs.Calendar.{Moment, IsMoment, moment_text}
use Rattle.std.specs.Prelude.{codes}
use Rattle.till_shows.specs.Bodies.{body_of, text_at}
use Rattle.till_shows.specs.Sheets.{sheet_of, customer_sheet_fields, IsCustomerSheet}
use Rattle.till_shows.proofs.FoundLemmas.{handed_on}
use Rattle.till_shows.proofs.sheets.customer_sheet.Goals as goal

pub returns-clause-shown : goal.returns-clause-shown
returns-clause-shown c = record {
  value = view c.in_ok-value.value;
  is_body = c.in_ok-value.ensures.shown;
  created = c.in-Some.created;
  is_moment = c.in-Some.ensures.moment;
  is_created = c.in-Some.ensures.some;
  front = string_bytes c.in_ok-sheet.sheet;
  is_front = c.in_ok-sheet.ensures.shown;
  whole = c.in_ok-add_joined.ensures.added;
}

-- ---- a body that has no sheet

same_value : (body : Text) (d : Data) (sheet : Text) → body_of body ≡ Some d → (is : IsCustomerSheet body sheet) → is.value ≡ d
same_value body d sheet has is = let both : Some is.value ≡ Some d = sym is.is_body ∙ has in cc

no_body : (body sheet : Text) → body_of body ≡ None → IsCustomerSheet body sheet → ⊥
no_body body sheet none is = let both : Some is.value ≡ None = sym is.is_body ∙ none in cc

no_front : (body : Text) (d : Data) (sheet : Text) → body_of body ≡ Some d → sheet_of customer_sheet_fields d ≡ None → IsCustomerSheet body sheet → ⊥
no_front body d sheet has none is =
    let front = subst (λ (it : Data). sheet_of customer_sheet_fields it ≡ Some is.front) (same_value body d sheet has is) is.is_front in
    let both : Some is.front ≡ None = sym front ∙ none in cc

no_moment : (body : Text) (d : Data) (sheet : Text) → body_of body ≡ Some d
    → ((at : Moment) → IsMoment at → ¬ (text_at (codes "created") d ≡ Some (moment_text at))) → IsCustomerSheet body sheet → ⊥
no_moment body d sheet has none is =
    none is.created is.is_moment
    (subst (λ (it : Data). text_at (codes "created") it ≡ Some (moment_text is.created)) (same_value body d sheet has is) is.is_created)

pub returns-in_err-value-clause-other : goal.returns-in_err-value-clause-other
returns-in_err-value-clause-other c =
    handed_on _ _ c.from_residual.ensures.1 (λ e sheet. no_body c.args.body.now sheet (c.in_err-value.ensures.other e))

pub returns-in_err-sheet-clause-other : goal.returns-in_err-sheet-clause-other
returns-in_err-sheet-clause-other c =
    handed_on _ _ c.from_residual-in_err-sheet.ensures.1
    (λ e sheet. no_front c.args.body.now (view c.in_ok-value.value) sheet c.in_ok-value.ensures.shown (c.in_err-sheet.ensures.other e))
