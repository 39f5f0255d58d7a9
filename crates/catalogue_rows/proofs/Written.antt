-- Lemmas about the books after the rows of head office's commands are written. A new branch has no last moment.
use Rattle.std.proofs.Common.{IfOk}
use Rattle.shop_schema.proofs.Common.{◌≡◌, ◌+◌, Result, ℕ, List, [], ◌∷◌, ◌++◌, map, length, sym, ap, subst, ◌∙◌, arith, ⊤, IsOk, MutBor, Ghosts, Held, state}
use Rattle.shop_schema.proofs.Common.{State, Moment, Owned, owned_by, Text, Branch, OfficeAct, OfficeCommand, Catalogue, office_acted, office_told, office_text}
use Rattle.shop_schema.proofs.Common.{office_done, Books, Counts, counts_of, with_branch, IsHeld, HoldsWith}
use Rattle.sql_rows.specs.Calls.{DoesInside}
use Rattle.shop_ledger.specs.Calls.{Finds, Stores}
use Rattle.shop_ledger.proofs.CountsOf.{beside}
use Rattle.shop_ledger.proofs.OfficeCounts.{lacks_next, kept_stays, none_of}
use Rattle.shop_views.specs.Bodies.{office_members}
use Rattle.catalogue_rows.specs.Added.{with_act, with_counts, with_kept, IsActed, IsNumbered}
use Rattle.sql_rows.proofs.Chaining.{then_does}
use Rattle.catalogue_rows.proofs.Numbers.{numbered_as, IsNext}

-- ---- a branch that isn't there has no last moment

pub no_last : (books : Books) → IsHeld books → owned_by (length books.catalogue.branches + 1) books.lasts ≡ []
no_last books held =
    let branches = books.catalogue.branches in
    let b = length branches + 1 in
    ap (map (λ (row : Owned Moment). row.it))
    (none_of (λ (row : Owned Moment). row.owner) branches b (lacks_next b branches (omega arith)) books.lasts held.owners.lasts)

-- ---- rows

-- a new branch with its counts
pub branch_added : (s : State) (books : Books) (n : ℕ) (row branch : Branch) → n ≡ length books.catalogue.branches + 1 → row ≡ branch
    → HoldsWith (with_branch n (counts_of books)) s (record books { catalogue = record books.catalogue { branches = books.catalogue.branches ++ row ∷ [] } })
    → HoldsWith (with_branch (length books.catalogue.branches + 1) (counts_of books)) s
    (record books { catalogue = record books.catalogue { branches = books.catalogue.branches ++ branch ∷ [] } })
branch_added s books n row branch is same holds =
    subst (λ (it : Branch).
    HoldsWith (with_branch (length books.catalogue.branches + 1) (counts_of books)) s
    (record books { catalogue = record books.catalogue { branches = books.catalogue.branches ++ it ∷ [] } }))
    same
    (subst (λ (m : ℕ).
    HoldsWith (with_branch m (counts_of books)) s
    (record books { catalogue = record books.catalogue { branches = books.catalogue.branches ++ row ∷ [] } }))
    is holds)

-- an act makes these books and counts, and the reply with the number is its reply
abbrev pub Makes : OfficeAct → ℕ → Books → Books → Type 0
Makes act number books made =
    ◌≡◌ {A = Counts × Books × List (Text × Text)} (counts_of books, made, office_members act number)
    (with_counts act books, with_act act books, office_told act books.catalogue)

made_so : (act : OfficeAct) (number : ℕ) (books made : Books) {s : State} → Makes act number books made → HoldsWith (counts_of books) s made
    → IsActed act s books × (office_members act number ≡ office_told act books.catalogue)
made_so act number books made {s = s} makes holds =
    (subst (λ (it : Counts × Books × List (Text × Text)). HoldsWith it.0 s it.1) makes holds, ap (λ (it : Counts × Books × List (Text × Text)). it.2) makes)

-- the books with these rows instead of a list of the catalogue
abbrev pub with_rows : {W : Type 0} → (Catalogue → List W → Catalogue) → List W → Books → Books
with_rows set rows books = record books { catalogue = set books.catalogue rows }

module _ {S F : Type 0} {g : Ghosts S} {a b : MutBor (Held S)} {r : Result ℕ F} {was act : OfficeAct} where
  -- the number of an act is the number of an equal act
  pub of_act : was ≡ act → DoesInside g a b r (IsNumbered act) → DoesInside g a b r (IsNumbered was)
  of_act is = subst (λ (it : OfficeAct). DoesInside g a b r (IsNumbered it)) (sym is)

module _ {S X E F : Type 0} {g : Ghosts S} {b c : MutBor (Held S)} {put : Result X E} {was act : OfficeAct} (r : Result ℕ F) (is_act : was ≡ act) where
  -- a row is put after the last row of its list, and the number of the last row was read before
  pub row_added :
      {W : Type 0} {a : MutBor (Held S)} {last : Result ℕ E} {number n : ℕ} {row new : W} (get : Catalogue → List W) (set : Catalogue → List W → Catalogue)
      → ((books : Books) → Makes act (length (get books.catalogue) + 1) books (with_rows set (get books.catalogue ++ new ∷ []) books))
      → row ≡ new → n ≡ number → IsNext last number → IfOk r (λ it. (it ≡ number) × IsOk put)
      → DoesInside g a b last (λ last. Finds (λ books. last ≡ length (get books.catalogue)))
      → DoesInside g b c put (λ _. Stores (λ books. n ≡ length (get books.catalogue) + 1) (λ books. with_rows set (get books.catalogue ++ row ∷ []) books))
      → DoesInside g a c r (IsNumbered was)
  row_added {W} {a} {number = number} get set makes same own next is found stored =
      let first = subst (λ (it : Result ℕ E). DoesInside g a b it (λ last. Finds (λ books. last ≡ length (get books.catalogue)))) next.1 found in
      of_act is_act (numbered_as put r _ is (then_does first stored) (λ _ said books holds held.
      let told = said.0 books holds held in
      let comes : number ≡ length (get books.catalogue) + 1 = next.2 ∙ ap (λ (it : ℕ). it + 1) told.1 in
      let holds_new = said.1 (counts_of books) books (beside (state g b.now) books told.0) (own ∙ comes) in
      let its =
      made_so act _ books _ (makes books)
      (subst (λ (it : W). HoldsWith (counts_of books) (state g c.now) (with_rows set (get books.catalogue ++ it ∷ []) books)) same holds_new) in
      (its.0, ap (office_members act) comes ∙ its.1)))

  -- a row is put that has no number, or a row is changed
  pub row_changed : {change : Books → Books} → ((books : Books) → Makes act 0 books (change books)) → IfOk r (λ it. (it ≡ 0) × IsOk put)
      → DoesInside g b c put (λ _. Stores (λ _. ⊤) change) → DoesInside g b c r (IsNumbered was)
  row_changed {change} makes is stored = of_act is_act (numbered_as put r _ is stored (λ _ written books holds held.
      made_so act 0 books (change books) (makes books) (written (counts_of books) books (beside (state g b.now) books holds) tt)))

-- ---- the command itself

-- the books with the rows of a command, and with the command kept, are the books after the command
pub act_kept : (command : OfficeCommand) (reply : Text) (books : Books) → reply ≡ office_text command books.catalogue
    → with_kept command reply (with_act command.act books) ≡ record books { catalogue = office_done command books.catalogue }
act_kept command reply books is =
    let it = office_acted command.act books.catalogue in
    let stays : it.kept ≡ books.catalogue.kept = kept_stays command.act books.catalogue in
    λ i. record books { catalogue = record it { kept = stays i ++ record { command = command; reply = is i } ∷ [] } }
