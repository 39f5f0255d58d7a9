-- A connection with one exchange, among other connections that are served together.
use Rattle.shop_model.proofs.Common.{◌≡◌, ◌∙◌, ◌⊎◌, inl, inr, ℕ, zero, suc, List, [], ◌∷◌, ◌++◌, map, Some, refl, sym, subst, ap, append_assoc, slice_get}
use Rattle.shop_model.proofs.Resends.{same_some, same_none}
use Rattle.counter_http.specs.Exchanges.{Exchange}
use Rattle.counter_http.specs.Together.{Mixes, nothing, comes, goes, Till}
use Rattle.till_and_server.specs.Laws.{OneAmongMany}

-- the list is one of the lists
abbrev Has : List Exchange → List (List Exchange) → Type 0
Has x [] = ⊥
Has x (l ∷ lists) = (l ≡ x) ⊎ Has x lists

has_here : (x : List Exchange) (front back : List (List Exchange)) → Has x (front ++ x ∷ back)
has_here x [] back = inl refl
has_here x (l ∷ front) back = inr (has_here x front back)

has_last : (x : List Exchange) (lists : List (List Exchange)) → Has x (lists ++ [] ∷ []) → ([] ≡ x) ⊎ Has x lists
has_last x [] (inl is) = inl is
has_last x [] (inr never) = absurd never
has_last x (l ∷ lists) (inl is) = inr (inl is)
has_last x (l ∷ lists) (inr later) = elim (has_last x lists later) [ inl is ↦ inl is | inr there ↦ inr (inr there) ]

has_beside : (x l k : List Exchange) (front back : List (List Exchange)) → Has x (front ++ l ∷ back) → (l ≡ x) ⊎ Has x (front ++ k ∷ back)
has_beside x l k [] back (inl is) = inl is
has_beside x l k [] back (inr later) = inr (inr later)
has_beside x l k (f ∷ front) back (inl is) = inr (inl is)
has_beside x l k (f ∷ front) back (inr later) = elim (has_beside x l k front back later) [ inl is ↦ inl is | inr there ↦ inr (inr there) ]

-- the exchange is in the whole
abbrev IsIn : Exchange → List Exchange → Type 0
IsIn e whole = (front : List Exchange) × (back : List Exchange) × (whole ≡ front ++ e ∷ back)

some_none : (e : Exchange) (es : List Exchange) → ◌≡◌ {A = List Exchange} [] (e ∷ es) → ⊥
some_none e es is = cc

in_more : (e : Exchange) (whole next : List Exchange) → IsIn e whole → IsIn e (whole ++ next)
in_more e whole next (front, back, is) = (front, back ++ next, ap (λ (l : List Exchange). l ++ next) is ∙ append_assoc front (e ∷ back) next)

-- If a list with its next part is exactly that exchange, the exchange is in the whole with that part.
in_parts : (e : Exchange) (es next whole : List Exchange) → es ++ next ≡ e ∷ [] → (es ≡ e ∷ [] → IsIn e whole) → IsIn e (whole ++ next)
in_parts e [] next whole is before = (whole, [], ap (λ (l : List Exchange). whole ++ l) is)
in_parts e (f ∷ es) next whole is before = in_more e whole next (before (by es (tails f e (es ++ next) is)))
  where
    tails : (x y : Exchange) (xs : List Exchange) → x ∷ xs ≡ y ∷ [] → xs ≡ []
    tails x y xs e = cc

    heads : (x y : Exchange) (xs : List Exchange) → x ∷ xs ≡ y ∷ [] → x ≡ y
    heads x y xs e = cc

    by : (xs : List Exchange) → xs ++ next ≡ [] → f ∷ xs ≡ e ∷ []
    by [] none = ap (λ (x : Exchange). x ∷ []) (heads f e (es ++ next) is)
    by (x ∷ xs) none = absurd (some_none x (xs ++ next) (sym none))

mixed_in : (lists : List (List Exchange)) (whole : List Exchange) (e : Exchange) → Mixes lists whole → Has (e ∷ []) lists → IsIn e whole
mixed_in lists whole e nothing has = absurd has
mixed_in lists whole e (comes before all mixed) has = elim (has_last (e ∷ []) before has) [
  | inl is ↦ absurd (some_none e [] is)
  | inr there ↦ mixed_in before all e mixed there
]
mixed_in lists whole e (goes front back es next all mixed) has = elim (has_beside (e ∷ []) (es ++ next) es front back has) [
  | inl is ↦ in_parts e es next all is (λ same.
      mixed_in (front ++ es ∷ back) all e mixed (subst (λ (l : List Exchange). Has (e ∷ []) (front ++ l ∷ back)) (sym same) (has_here (e ∷ []) front back)))
  | inr there ↦ in_more e all next (mixed_in (front ++ es ∷ back) all e mixed there)
]

has_at : (tills : List Till) (j : ℕ) (till : Till) (x : List Exchange)
    → slice_get tills j ≡ Some till → till.exchanges ≡ x → Has x (map (λ till. till.exchanges) tills)
has_at [] j till x there is = absurd (same_none till there)
has_at (t ∷ tills) zero till x there is = inl (ap (λ (it : Till). it.exchanges) (same_some t till there) ∙ is)
has_at (t ∷ tills) (suc j) till x there is = inr (has_at tills j till x there is)

pub among_many : OneAmongMany
among_many tills whole mixed j till exchange there is =
    mixed_in (map (λ till. till.exchanges) tills) whole exchange mixed (has_at tills j till (exchange ∷ []) there is)
