-- The result of a branch's request that changes no books.
use Rattle.shop_schema.proofs.Common.{◌≡◌, ◌∙◌, refl, sym, ap, subst, inl, inr, cases_Bool, ℕ, State, Limits}
use Rattle.shop_schema.proofs.Common.{lacks, Ask, Request, Look, Sorry, NoRoute, not, not-true, true, false, false≢true, seen_request}
use Rattle.shop_schema.proofs.Common.{reply_to, answer_of, Books, Counter, shop_of, branch_after, seen_reply, Holds}
use Rattle.shop_ledger.specs.declared.answered.Answered.{Answered}
use Rattle.branch_finds.specs.Looks.{IsAnswered, TellsDecision, IsStill, is_list}
use Rattle.branch_finds.specs.declared.work.Listing.{Listing}
use Rattle.branch_finds.specs.declared.work.Work.{Work}
use Rattle.branch_finds.specs.declared.work.Work.TheVariants as work
use Rattle.branch_work.specs.Rules.{rules_of}
use Rattle.branch_work.specs.Works.{left_by, IsDone}
use Rattle.shop_types.specs.declared.request.Request.{Request as Asked}
use Rattle.chain_requests.specs.Wells.{is_row_look}
use Rattle.chain_requests.specs.Reports.{for_branch, shown_by}
use Rattle.chain_requests.specs.Steps.{HasCome, no_route}

module _ (limits : Limits) (b : ℕ) (books : Books) where
  -- a request that changes no books, whether or not the branch is there
  left_same : (request : Request) → branch_after (rules_of limits) b request books ≡ books → left_by limits (Counter b) request books ≡ books
  left_same request same = elim (cases_Bool (lacks books.catalogue.branches b)) [ inl none ↦ rw none refl | inr there ↦ rw there same ]

  -- a reading has its answer, or asks for the report that shows it
  pub look_come : (ask : Ask) (it : Work Listing) (s : State) → IsAnswered b ask it books
      → Holds s books → HasCome shown_by limits (Counter b) (Look ask) (for_branch b it) s books
  look_come ask (work.Answered it) s answered holds =
      let left = left_same (Look ask) refl in
      record { reply = (answered (rules_of limits)).0; holds = subst (Holds s) (sym left) holds; same = λ _. left }
  look_come ask (work.Shows it) s answered holds = (answered (rules_of limits), left_same (Look ask) refl)

  -- a request of head office has no route for a branch
  pub office_refused : (request : Request) (it : Answered) (s : State) → reply_to (rules_of limits) b books.catalogue (shop_of b books) request ≡ Sorry NoRoute
      → branch_after (rules_of limits) b request books ≡ books → seen_reply it.reply ≡ no_route b books
      → Holds s books → IsDone limits (Counter b) request it s books
  office_refused request it s told same is holds =
      let left = left_same request same in
      record {
        reply = elim (cases_Bool (lacks books.catalogue.branches b)) [ inl none ↦ is ∙ rw none refl | inr there ↦ is ∙ rw there (ap answer_of (sym told)) ];
        holds = subst (Holds s) (sym left) holds;
        same = λ _. left;
      }

-- an answer stays a decision
pub decision_for : (b : ℕ) (it : Work Listing) → TellsDecision it → TellsDecision (for_branch b it)
decision_for b (work.Answered it) decided = decided
decision_for b (work.Shows it) decided = tt

-- an answer that changed nothing stays so
pub still_for : (b : ℕ) (it : Work Listing) → IsStill it → IsStill (for_branch b it)
still_for b (work.Answered it) still = still
still_for b (work.Shows it) still = absurd still

-- a look at rows asks for no list
pub no_list : (ask : Ask) → not (is_list ask) ≡ true → is_list ask ≡ false
no_list ask row = not-true (is_list ask) row

-- a request that is no look at rows isn't one
pub no_row_look : {request : Asked} (it : Asked) → request ≡ it → is_row_look (seen_request it) ≡ false → is_row_look (seen_request request) ≡ true → ⊥
no_row_look {request} it is other row = false≢true (sym other ∙ ap (λ (r : Asked). is_row_look (seen_request r)) (sym is) ∙ row)
