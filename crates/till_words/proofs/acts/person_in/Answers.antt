use Rattle.std.proofs.Common.{refl}
use Rattle.till_words.proofs.ReadingLemmas.{handed_on}
use Rattle.till_words.proofs.acts.person_in.Goals as goal

pub returns-in_err-city : goal.returns-in_err-city
returns-in_err-city c = handed_on _ _ _ c.from_residual.ensures.1 (λ e. rw (c.in_err-city.ensures e) refl)

pub returns-in_err-names : goal.returns-in_err-names
returns-in_err-names c = handed_on _ _ _ c.from_residual-in_err-names.ensures.1 (λ e. rw (c.in_ok-city.ensures, c.in_err-names.ensures e) refl)

pub returns-in_err-contact : goal.returns-in_err-contact
returns-in_err-contact c =
    handed_on _ _ _ c.from_residual-in_err-contact.ensures.1
    (λ e. rw (c.in_ok-city.ensures, c.in_ok-names.ensures, c.in_err-contact.ensures e) refl)

pub returns : goal.returns
returns c = rw (c.in_ok-city.ensures, c.in_ok-names.ensures, c.in_ok-contact.ensures) refl
