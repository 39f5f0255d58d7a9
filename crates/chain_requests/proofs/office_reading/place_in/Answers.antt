use Rattle.shop_schema.proofs.Common.{◌≡◌, ◌∙◌, ℕ, List, [], ◌∷◌, map, true, false, Option, Some, None, refl, sym, ap, and_then, at, is_empty, lacks, Books}
use Rattle.shop_schema.proofs.Common.{head, answer_of, accepted_answer, seen_mark, Decision, NoBranch, NoCopy}
use Rattle.sql_rows.proofs.Chaining.{one_call, first_done, done_inside}
use Rattle.shop_store.specs.SharedSeen.{manager_of}
use Rattle.chain_requests.proofs.Marks.{held_once}
use Rattle.branch_reports.proofs.Decisions.{accepted_told, refused_told}
use Rattle.chain_requests.proofs.office_reading.place_in.Goals as goal

nobody : {A B : Type 0} (f : A → B) (xs : List A) → head (map f xs) ≡ None → is_empty xs ≡ true
nobody f [] e = refl
nobody f (x ∷ xs) e = cc

somebody : {A B : Type 0} (f : A → B) (xs : List A) (y : B) → head (map f xs) ≡ Some y → is_empty xs ≡ false
somebody f [] y e = cc
somebody f (x ∷ xs) y e = refl

isnt_there : (books : Books) (b : ℕ) → head (map manager_of (at b books.catalogue.branches)) ≡ None → lacks books.catalogue.branches b ≡ true
isnt_there books b e = nobody manager_of (at b books.catalogue.branches) e

is_there : (books : Books) (b : ℕ) (manager : Option ℕ)
    → head (map manager_of (at b books.catalogue.branches)) ≡ Some manager → lacks books.catalogue.branches b ≡ false
is_there books b manager e = somebody manager_of (at b books.catalogue.branches) manager e

pub returns-in_default-clause-does : goal.returns-in_default-clause-does
returns-in_default-clause-does g c = done_inside c.in_ok-branch_manager.ensures (λ said books holds held.
    let found = said books holds held in
    (found.0, λ custody. rw (isnt_there books c.args.mark.now.branch (sym found.1 ∙ c.in_default.is)) c.refused.ensures))

pub returns-then-not-branch-clause-does : goal.returns-then-not-branch-clause-does
returns-then-not-branch-clause-does g c = first_done c.in_ok-branch_manager.ensures (one_call c.in_ok-is_made.ensures) (λ said makes books holds held.
    let found = said books holds held in
    let made = makes books found.0 held in (
      made.0,
      λ custody.
          rw (is_there books c.args.mark.now.branch _ (sym found.1 ∙ c.in-Some.is), sym made.1 ∙ c.if-not-branch.true) c.refused-then-not-branch.ensures,
    ))

pub returns-in-Ok-clause-does : goal.returns-in-Ok-clause-does
returns-in-Ok-clause-does g c =
    first_done c.in_ok-branch_manager.ensures (and_then (one_call c.in_ok-is_made.ensures) (one_call c.in_ok-place.ensures)) (λ said then_said books holds held.
    let found = said books holds held in
    let made = then_said.0 books found.0 held in
    let placed = then_said.1 books made.0 held in (
      placed.0,
      λ custody. rw (is_there books c.args.mark.now.branch _ (sym found.1 ∙ c.in-Some.is), sym made.1 ∙ c.if-not-branch.false)
          (c.accepted.ensures ∙ ap accepted_answer c.in-Ok.ensures
          ∙ ap answer_of (placed.1 (held_once (seen_mark c.args.mark.now) books held.numbers custody))),
    ))

pub returns-in_default-clause-decided : goal.returns-in_default-clause-decided
returns-in_default-clause-decided g c = refused_told _ (Decision NoBranch) c.refused.ensures refl

pub returns-then-not-branch-clause-decided : goal.returns-then-not-branch-clause-decided
returns-then-not-branch-clause-decided g c = refused_told _ (Decision NoCopy) c.refused-then-not-branch.ensures refl

pub returns-in-Ok-clause-decided : goal.returns-in-Ok-clause-decided
returns-in-Ok-clause-decided g c = accepted_told _ _ c.accepted.ensures
