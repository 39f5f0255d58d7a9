use Rattle.std.proofs.Common.{refl}
use Rattle.till_words.proofs.ReadingLemmas.{handed_on}
use Rattle.till_words.proofs.acts.contact_details.Goals as goal

pub returns-in_err-text : goal.returns-in_err-text
returns-in_err-text c = handed_on _ _ _ c.from_residual.ensures.1 (λ e. rw (c.in_err-text.ensures e) refl)

pub returns-in_err-text-2 : goal.returns-in_err-text-2
returns-in_err-text-2 c = handed_on _ _ _ c.from_residual-in_err-text-2.ensures.1 (λ e. rw (c.in_ok-text.ensures, c.in_err-text-2.ensures e) refl)

pub returns-in_err-text-3 : goal.returns-in_err-text-3
returns-in_err-text-3 c =
    handed_on _ _ _ c.from_residual-in_err-text-3.ensures.1 (λ e. rw (c.in_ok-text.ensures, c.in_ok-text-2.ensures, c.in_err-text-3.ensures e) refl)

pub returns : goal.returns
returns c = rw (c.in_ok-text.ensures, c.in_ok-text-2.ensures, c.in_ok-text-3.ensures) refl
