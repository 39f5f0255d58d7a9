-- What is known of an accepted command.
use Rattle.shop_model.proofs.Common.{◌≡◌, inl, inr, ℕ, List, [], ◌∷◌, filter, Bool, false, refl, sym, subst, ◌∙◌, ⊤, bytes_eq, cases_Bool, true≢false, Moment}
use Rattle.shop_model.proofs.Common.{Act, AddCustomer, Dispatch, Command, Rules, Refusal, Kept, Shop, Catalogue, Verdict, Again, Refused, Accepted, first}
use Rattle.shop_model.proofs.Common.{resent, refusals, act_refusals, verdict, Books, book_acted, Text, resent_by, KeyUsed}
use Rattle.shop_model.proofs.RowLemmas.{same_test}

-- of an accepted command no refusal holds
pub first_holds : (c : Refusal × Bool) (cs : List (Refusal × Bool)) → first (c ∷ cs) ≡ Accepted → (c.1 ≡ false) × (first cs ≡ Accepted)
first_holds c cs e = elim (cases_Bool c.1) [
  | inl is ↦ let no : Refused c.0 ≡ Accepted = rw is at e in cc
  | inr isnt ↦ (isnt, rw isnt at e)
]

-- and nothing was kept under its key
pub nothing_kept : {A : Type 0} (same : A → Bool) (reply : A → Text) (kept : List A) (v : Verdict)
    → resent_by same reply kept v ≡ Accepted → (kept ≡ []) × (v ≡ Accepted)
nothing_kept same reply [] v e = (refl, e)
nothing_kept same reply (k ∷ kept) v e = elim (cases_Bool (same k)) [
  | inl is ↦ let no : Again (reply k) ≡ Accepted = rw is at e in cc
  | inr isnt ↦ let no : Refused KeyUsed ≡ Accepted = rw isnt at e in cc
]

pub none_kept : (command : Command) (kept : List Kept) (v : Verdict) → resent command kept v ≡ Accepted → (kept ≡ []) × (v ≡ Accepted)
none_kept command kept v e = nothing_kept _ _ kept v e

abbrev pub NoneHold : List (Refusal × Bool) → Type 0
NoneHold [] = ⊤
NoneHold (c ∷ cs) = (c.1 ≡ false) × NoneHold cs

pub none_hold : (cs : List (Refusal × Bool)) → first cs ≡ Accepted → NoneHold cs
none_hold [] e = tt
none_hold (c ∷ cs) e = let h = first_holds c cs e in (h.0, none_hold cs h.1)

-- of an accepted command
pub accepted_holds : (rules : Rules) (b : ℕ) (catalogue : Catalogue) (shop : Shop) (command : Command) → verdict rules b catalogue shop command ≡ Accepted
    → NoneHold (refusals rules b catalogue shop command)
accepted_holds rules b catalogue shop command e =
    none_hold (refusals rules b catalogue shop command)
    (none_kept command (filter (λ (k : Kept). bytes_eq k.command.key command.key) shop.kept) (first (refusals rules b catalogue shop command)) e).1

pub act_holds : (rules : Rules) (b : ℕ) (catalogue : Catalogue) (shop : Shop) (command : Command) → verdict rules b catalogue shop command ≡ Accepted
    → NoneHold (act_refusals rules b catalogue shop command.moment command.act)
act_holds rules b catalogue shop command e = (accepted_holds rules b catalogue shop command e).1.1.1

pub not_self : (rules : Rules) (b : ℕ) (catalogue : Catalogue) (shop : Shop) (moment : Moment) (act : Act)
    → NoneHold (act_refusals rules b catalogue shop moment act) → (xs : List ℕ) → act ≡ Dispatch b xs → ⊥
not_self rules b catalogue shop moment act none xs is =
    let P : Act → Type 0 = λ a. NoneHold (act_refusals rules b catalogue shop moment a) in
    let all : NoneHold (act_refusals rules b catalogue shop moment (Dispatch b xs)) = subst P is none in
    true≢false (sym (same_test b) ∙ all.1.1.1.1.0)

pub catalogue_stays : (rules : Rules) (b : ℕ) (command : Command) (act : Act) (books : Books)
    → (book_acted rules b command act books).catalogue ≡ books.catalogue
catalogue_stays rules b command (AddCustomer person) books = refl
catalogue_stays rules b command act books = refl
