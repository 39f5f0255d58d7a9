-- The answer to the reading of a branch that may not be there.
use Rattle.shop_schema.proofs.Common.{◌≡◌, refl, sym, subst, ℕ, true, false, lacks, Rules, Ask, Sorry, Answer, answer_of, Books, seen_reply}
use Rattle.shop_model.specs.Refusals.{NoCounter}
use Rattle.shop_ledger.specs.declared.answered.Answered.{Answered}
use Rattle.branch_reports.specs.Looked.{looked}
use Rattle.branch_finds.specs.Looks.{Gives, IsAnswered, IsShown, look_told}
use Rattle.branch_finds.specs.declared.work.Listing.{Listing}
use Rattle.branch_finds.specs.declared.work.Work.{Work}
use Rattle.branch_finds.specs.declared.work.Work.TheVariants as work

module _ (b : ℕ) (ask : Ask) (books : Books) where
  told_there : (rules : Rules) → lacks books.catalogue.branches b ≡ false → look_told rules b ask books ≡ looked b ask books
  told_there rules there = rw there refl

  told_nobody : (rules : Rules) → lacks books.catalogue.branches b ≡ true → look_told rules b ask books ≡ answer_of (Sorry NoCounter)
  told_nobody rules none = rw none refl

  -- what is shown to a branch that is there is its answer
  pub shown_answered : (it : Work Listing) → lacks books.catalogue.branches b ≡ false → IsShown b ask it books → IsAnswered b ask it books
  shown_answered it there shown = λ rules. subst (λ (answer : Answer). Gives answer b it books) (sym (told_there rules there)) shown

  -- a branch that isn't there has one answer to all its readings
  pub nobody_answered : (it : Answered) → lacks books.catalogue.branches b ≡ true
      → seen_reply it.reply ≡ answer_of (Sorry NoCounter) → it.is_changed ≡ false → IsAnswered b ask (work.Answered it) books
  nobody_answered it none is same = λ rules. subst (λ (answer : Answer). Gives answer b (work.Answered it) books) (sym (told_nobody rules none)) (is, same)
