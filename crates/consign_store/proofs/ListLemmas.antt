-- Lists that are updated.
use Rattle.shop_schema.proofs.Common.{sym, flat_map-map, ◌≡◌, List, [], ◌∷◌, ◌++◌, map, filter, Bool, true, false, cond, refl, ap, ◌∙◌, flat_map, update_where}

-- what an update leaves alone
pub map_stays : {X Y : Type 0} (g : X → Y) (p : X → Bool) (f : X → X) → ((x : X) → g (f x) ≡ g x) → (xs : List X) → map g (update_where p f xs) ≡ map g xs
map_stays g p f same [] = refl
map_stays g p f same (x ∷ xs) = λ i. go (p x) i ∷ map_stays g p f same xs i
  where
    go : (b : Bool) → g (cond b (f x) x) ≡ g x
    go true = same x
    go false = refl

pub lists_stay : {X Y : Type 0} (g : X → List Y) (p : X → Bool) (f : X → X)
    → ((x : X) → g (f x) ≡ g x) → (xs : List X) → flat_map g (update_where p f xs) ≡ flat_map g xs
lists_stay g p f same xs = sym (flat_map-map (λ l. l) g (update_where p f xs)) ∙ ap (flat_map (λ l. l)) (map_stays g p f same xs) ∙ flat_map-map (λ l. l) g xs

-- nothing passes
pub unpicked : {X : Type 0} (p : X → Bool) (f : X → X) (xs : List X) → filter p xs ≡ [] → update_where p f xs ≡ xs
unpicked p f [] none = refl
unpicked p f (x ∷ xs) none = go (p x) none (unpicked p f xs)
  where
    go : (b : Bool) → cond b (x ∷ filter p xs) (filter p xs) ≡ []
        → (filter p xs ≡ [] → update_where p f xs ≡ xs) → cond b (f x) x ∷ update_where p f xs ≡ x ∷ xs
    go true e more = absurd cc
    go false e more = ap (λ l. x ∷ l) (more e)

pub update_append : {X : Type 0} (p : X → Bool) (f : X → X) (xs ys : List X) → update_where p f (xs ++ ys) ≡ update_where p f xs ++ update_where p f ys
update_append p f [] ys = refl
update_append p f (x ∷ xs) ys = ap (λ l. cond (p x) (f x) x ∷ l) (update_append p f xs ys)

-- an update that changes nothing
pub update_nothing : {X : Type 0} (p : X → Bool) (f : X → X) → ((x : X) → f x ≡ x) → (xs : List X) → update_where p f xs ≡ xs
update_nothing p f same [] = refl
update_nothing p f same (x ∷ xs) = λ i. go (p x) i ∷ update_nothing p f same xs i
  where
    go : (b : Bool) → cond b (f x) x ≡ x
    go true = same x
    go false = refl

-- two updates of the items that pass; they still pass after the first update
module _ {X : Type 0} (p : X → Bool) (f : X → X) (stays : (x : X) → p (f x) ≡ p x) where
  pub update_twice : (g h : X → X) → ((x : X) → g (f x) ≡ h x) → (xs : List X) → update_where p g (update_where p f xs) ≡ update_where p h xs
  update_twice g h both [] = refl
  update_twice g h both (x ∷ xs) = λ i. go (p x) refl i ∷ update_twice g h both xs i
    where
      go : (b : Bool) → p x ≡ b → cond (p (cond b (f x) x)) (g (cond b (f x) x)) (cond b (f x) x) ≡ cond b (h x) x
      go true is = ap (λ c. cond c (g (f x)) (f x)) (stays x ∙ is) ∙ both x
      go false is = ap (λ c. cond c (g x) x) is

  pub filter_updated : (xs : List X) → filter p (update_where p f xs) ≡ map f (filter p xs)
  filter_updated [] = refl
  filter_updated (x ∷ xs) = go (p x) refl (filter_updated xs)
    where
      rest : List X
      rest = filter p (update_where p f xs)

      go : (b : Bool) → p x ≡ b → rest ≡ map f (filter p xs)
          → cond (p (cond b (f x) x)) (cond b (f x) x ∷ rest) rest ≡ map f (cond b (x ∷ filter p xs) (filter p xs))
      go true is more = ap (λ c. cond c (f x ∷ rest) rest) (stays x ∙ is) ∙ ap (λ l. f x ∷ l) more
      go false is more = ap (λ c. cond c (x ∷ rest) rest) is ∙ more
