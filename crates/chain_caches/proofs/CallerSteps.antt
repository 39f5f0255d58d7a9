-- Callers that are known stay so.
use Rattle.shop_types.proofs.Common.{◌≡◌, ◌∙◌, ℕ, List, [], ◌∷◌, ◌++◌, Bool, true, false, Some, Contains, inl, inr, refl, ap, sym, subst, arith, if◌then◌else◌}
use Rattle.shop_types.proofs.Common.{Contains-push_cases, lacks, Rules, Catalogue, Request, Books, Caller, Counter, Nobody, after_for, known_caller, known_same}
use Rattle.shop_types.proofs.Common.{seen_caller}
use Rattle.shop_model.proofs.Resends.{caller_after}
use Rattle.shop_types.specs.declared.request.Caller.{Caller as Known}
use Rattle.shop_types.specs.declared.request.Caller.TheVariants as known
use Rattle.chain_caches.specs.Callers.{AreCallers, KnownCallers, IsCallers}

-- no caller is known
pub no_callers : (entries : KnownCallers) (catalogue : Catalogue) → entries ≡ [] → AreCallers entries catalogue
no_callers entries catalogue none = record {
  caller = λ token caller there. absurd (in_none token caller (subst (λ (es : KnownCallers). Contains es (token, caller)) none there));
}
  where
    in_none : (token : List ℕ) (caller : Known) → Contains {X = List ℕ × Known} [] (token, caller) → ⊥
    in_none token caller (k, there, is) = omega arith

-- a branch that is known is there
pub branch_there : (entries : KnownCallers) (token : List ℕ) (b : ℕ) (catalogue : Catalogue)
    → AreCallers entries catalogue → Contains entries (token, known.Branch b)
    → lacks catalogue.branches b ≡ false
branch_there entries token b catalogue callers there =
    let is = (callers.caller token (known.Branch b) there).0 in
    by (lacks catalogue.branches b) (ap (known_caller catalogue) is ∙ known_same (Some token) catalogue ∙ sym is)
  where
    by : (lacking : Bool) → (if lacking then Nobody else Counter b) ≡ Counter b → lacking ≡ false
    by true e = let no : _ = e in cc
    by false e = refl

-- one caller more
pub one_more : (entries : KnownCallers) (token : List ℕ) (caller : Known) (catalogue : Catalogue)
    → AreCallers entries catalogue → IsCallers token caller catalogue
    → AreCallers (entries ++ (token, caller) ∷ []) catalogue
one_more entries token caller catalogue known is = record {
  caller = λ t c there. elim (Contains-push_cases entries (token, caller) (t, c) there) [
    | inl was ↦ known.caller t c was
    | inr new ↦ subst (λ (e : List ℕ × Known). IsCallers e.0 e.1 catalogue) new is
  ];
}

-- after any request of any caller
pub callers_after : (entries : KnownCallers) (rules : Rules) (caller : Caller) (request : Request) (books : Books) → AreCallers entries books.catalogue
    → AreCallers entries (after_for rules caller request books).catalogue
callers_after entries rules caller request books known = record {
  caller = λ token it there.
      let is = known.caller token it there in
      (sym (caller_after rules caller request (Some token) (seen_caller it) books is.1 (sym is.0)), is.1);
}
