-- Lemmas about the result of a request: by the verdict on it, and if the branch isn't there.
use Rattle.shop_schema.proofs.Common.{◌≡◌, ◌∙◌, refl, sym, ap, subst, ℕ, true, false, List, State, Limits, lacks, Text, Command, Verdict, Again, Refused}
use Rattle.shop_schema.proofs.Common.{Accepted, verdict, Request, Do, Done, Sorry, reply_to, reply_by, reply_text, if_accepted, answer_of, Books, Caller}
use Rattle.shop_schema.proofs.Common.{Counter, shop_of, book_done, branch_after, seen_reply, Holds}
use Rattle.shop_model.specs.Refusals as named
use Rattle.shop_ledger.specs.declared.answered.Answered.{Answered}
use Rattle.branch_work.specs.Rules.{rules_of}
use Rattle.branch_work.specs.Works.{told_to, left_by, GoesBy, IsDone}

-- ---- by the verdict, whoever asks

module _ {limits : Limits} {caller : Caller} {request : Request} {v : Verdict} {text : Text} {done books : Books}
    (goes : GoesBy limits caller request v text done books) (it : Answered) (s : State) where
  as_text : (w : Verdict) → v ≡ w → told_to limits caller request books ≡ answer_of (reply_by w text)
  as_text w is = goes.told ∙ ap (λ (x : Verdict). answer_of (reply_by x text)) is

  as_books : (w : Verdict) → v ≡ w → left_by limits caller request books ≡ if_accepted w done books
  as_books w is = goes.left ∙ ap (λ (x : Verdict). if_accepted x done books) is

  pub again_done : (kept : List ℕ) → v ≡ Again kept → seen_reply it.reply ≡ answer_of (Done kept) → Holds s books → IsDone limits caller request it s books
  again_done kept is told holds =
      let left = as_books (Again kept) is in record { reply = told ∙ sym (as_text (Again kept) is); holds = subst (Holds s) (sym left) holds; same = λ _. left }

  pub refused_done : (d : named.Refusal) → v ≡ Refused d → seen_reply it.reply ≡ answer_of (Sorry d) → Holds s books → IsDone limits caller request it s books
  refused_done d is told holds =
      let left = as_books (Refused d) is in record { reply = told ∙ sym (as_text (Refused d) is); holds = subst (Holds s) (sym left) holds; same = λ _. left }

  pub accepted_done : v ≡ Accepted → seen_reply it.reply ≡ answer_of (Done text) → it.is_changed ≡ true → Holds s done → IsDone limits caller request it s books
  accepted_done is told changed holds = record {
    reply = told ∙ sym (as_text Accepted is);
    holds = subst (Holds s) (sym (as_books Accepted is)) holds;
    same = λ e. absurd (apart (sym changed ∙ e));
  }
    where
      apart : true ≡ false → ⊥
      apart e = cc

-- ---- a branch

module _ (limits : Limits) (b : ℕ) (books : Books) where
  told_is : (request : Request) → lacks books.catalogue.branches b ≡ false
      → told_to limits (Counter b) request books ≡ answer_of (reply_to (rules_of limits) b books.catalogue (shop_of b books) request)
  told_is request there = rw there refl

  after_is : (request : Request) → lacks books.catalogue.branches b ≡ false
      → left_by limits (Counter b) request books ≡ branch_after (rules_of limits) b request books
  after_is request there = rw there refl

  -- the result of a branch's command depends on the verdict
  pub branch_goes : (command : Command) → lacks books.catalogue.branches b ≡ false
      → GoesBy limits (Counter b) (Do command) (verdict (rules_of limits) b books.catalogue (shop_of b books) command)
      (reply_text (rules_of limits) command (shop_of b books)) (book_done (rules_of limits) b command books) books
  branch_goes command there = record { told = told_is (Do command) there; left = after_is (Do command) there }

  -- the result of a request if there is no such branch
  pub nobody_done : (request : Request) (it : Answered) (s : State) → lacks books.catalogue.branches b ≡ true
      → seen_reply it.reply ≡ answer_of (Sorry named.NoCounter) → Holds s books
      → IsDone limits (Counter b) request it s books
  nobody_done request it s none is holds =
      let after : left_by limits (Counter b) request books ≡ books = rw none refl in
      record { reply = is ∙ rw none refl; holds = subst (Holds s) (sym after) holds; same = λ _. after }
