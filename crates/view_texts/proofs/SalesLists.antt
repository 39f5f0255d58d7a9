-- Branches that are listed one after the other.
use Rattle.shop_schema.proofs.Common.{◌≡◌, ◌==◌, ◌+◌, ◌-◌, ℕ, List, [], ◌∷◌, ◌++◌, map, true, false, Bool, not, length, cond, Option, Some, None, refl, sym, ap}
use Rattle.shop_schema.proofs.Common.{subst, ◌∙◌, arith, append-nil, if◌then◌else◌, flat_map, nat_tests, map-append, at, is_empty, lacks, numbered, Text}
use Rattle.shop_schema.proofs.Common.{Branch, Rental, Payment, Books, head, shop_of, StoreRow, paid_rentals, takings, found_none, found_some, numbered_push}
use Rattle.shop_model.specs.Views.{listed_store}
use Rattle.std.proofs.lemmas.List.{append_assoc}
use Rattle.shop_schema.proofs.Lists.{flat_map_push}
use Rattle.shop_views.specs.Page.{Page, HasTexts}
use Rattle.view_texts.specs.Sales.{rental_sum, store_with, sales_of_branch, sales_of_first}

-- ---- one branch

-- the branch's list, if `pairs` are its payments for rentals
abbrev listed_with : Books → ℕ → List (Payment × Rental) → List StoreRow
listed_with books b pairs = if is_empty pairs then [] else map (store_with books.catalogue (takings pairs)) (at b books.catalogue.branches)

abbrev sum_with : List (Payment × Rental) → Option ℕ
sum_with pairs = if is_empty pairs then None else Some (takings pairs)

no_branch : (books : Books) (b : ℕ) → at b books.catalogue.branches ≡ [] → sales_of_branch books b ≡ []
no_branch books b none = go (paid_rentals (shop_of b books))
  where
    go : (pairs : List (Payment × Rental)) → listed_with books b pairs ≡ []
    go [] = refl
    go (it ∷ pairs) = ap (map (store_with books.catalogue (takings (it ∷ pairs)))) none

no_sale : (books : Books) (b : ℕ) → None ≡ rental_sum (shop_of b books) → sales_of_branch books b ≡ []
no_sale books b none = go (paid_rentals (shop_of b books)) none
  where
    go : (pairs : List (Payment × Rental)) → None ≡ sum_with pairs → listed_with books b pairs ≡ []
    go [] e = refl
    go (it ∷ pairs) e = absurd cc

one_sale : (books : Books) (b total : ℕ) (row : StoreRow)
    → Some row ≡ head (map (store_with books.catalogue 0) (at b books.catalogue.branches)) → Some total ≡ rental_sum (shop_of b books)
    → sales_of_branch books b ≡ record row { total = total } ∷ []
one_sale books b total row there sum = go (paid_rentals (shop_of b books)) sum
  where
    go : (pairs : List (Payment × Rental)) → Some total ≡ sum_with pairs → listed_with books b pairs ≡ record row { total = total } ∷ []
    go [] e = absurd cc
    go (it ∷ pairs) e =
        let found = found_some (store_with books.catalogue 0) b books.catalogue.branches row there in
        let sums : total ≡ takings (it ∷ pairs) = cc in
        ap (map (store_with books.catalogue (takings (it ∷ pairs)))) found.1
        ∙ ap (λ n. store_with books.catalogue n found.0 ∷ []) (sym sums) ∙ ap (λ (r : StoreRow). record r { total = total } ∷ []) found.2

nothing_more : (page : Page) (texts : List Text) (rows : List StoreRow) → rows ≡ [] → HasTexts page texts → HasTexts page (texts ++ map listed_store rows)
nothing_more page texts rows none has = subst (HasTexts page) (sym (append-nil texts) ∙ ap (λ l. texts ++ map listed_store l) (sym none)) has

pub absent_added : (books : Books) (b : ℕ) (page : Page) (texts : List Text)
    → None ≡ head (map (store_with books.catalogue 0) (at b books.catalogue.branches)) → HasTexts page texts
    → HasTexts page (texts ++ map listed_store (sales_of_branch books b))
absent_added books b page texts none =
    nothing_more page texts (sales_of_branch books b) (no_branch books b (found_none (store_with books.catalogue 0) b books.catalogue.branches none))

pub unsold_added : (books : Books) (b : ℕ) (page : Page) (texts : List Text) → None ≡ rental_sum (shop_of b books)
    → HasTexts page texts → HasTexts page (texts ++ map listed_store (sales_of_branch books b))
unsold_added books b page texts none = nothing_more page texts (sales_of_branch books b) (no_sale books b none)

pub store_added : (books : Books) (b total : ℕ) (row : StoreRow) (page : Page) (texts : List Text)
    → Some row ≡ head (map (store_with books.catalogue 0) (at b books.catalogue.branches))
    → Some total ≡ rental_sum (shop_of b books) → HasTexts page (texts ++ listed_store (record row { total = total }) ∷ [])
    → HasTexts page (texts ++ map listed_store (sales_of_branch books b))
store_added books b total row page texts there sum = subst (HasTexts page) (ap (λ l. texts ++ map listed_store l) (sym (one_sale books b total row there sum)))

pub is_there : (books : Books) (b : ℕ) (row : StoreRow)
    → Some row ≡ head (map (store_with books.catalogue 0) (at b books.catalogue.branches)) → true ≡ not (lacks books.catalogue.branches b)
is_there books b row there = ap (λ (l : List Branch). not (is_empty l)) (sym (found_some (store_with books.catalogue 0) b books.catalogue.branches row there).1)

-- ---- all branches

-- the page has the first branches, and the number comes next
pub record IsListed (page : Page) (number : ℕ) (books : Books) : Type 0 where
  pub before : List Branch
  pub after : List Branch
  pub all : books.catalogue.branches ≡ before ++ after
  pub next : number ≡ 1 + length before
  pub has : HasTexts page (map listed_store (sales_of_first books before))

at_behind : {A : Type 0} (before after : List A) → at (1 + length before) (before ++ after) ≡ at 1 after
at_behind [] after = refl
at_behind {A} (x ∷ before) after =
    ap (λ t. cond t (x ∷ []) (at (1 + length (x ∷ before) - 1) (before ++ after))) later ∙ ap (λ n. at n (before ++ after)) back ∙ at_behind before after
  where
    later : (1 + length (x ∷ before) == 1) ≡ false
    later = grind (arith, nat_tests)

    back : 1 + length (x ∷ before) - 1 ≡ 1 + length before
    back = omega arith

module _ (page new : Page) (number : ℕ) (books : Books) (so_far : IsListed page number books)
    (added : (texts : List Text) → HasTexts page texts → HasTexts new (texts ++ map listed_store (sales_of_branch books number))) where
  found_at : (after : List Branch) → so_far.after ≡ after → at number books.catalogue.branches ≡ at 1 after
  found_at after is = (λ i. at (so_far.next i) (so_far.all i)) ∙ at_behind so_far.before so_far.after ∙ ap (at 1) is

  pub listed_next : true ≡ not (lacks books.catalogue.branches number) → IsListed new (number + 1) books
  listed_next there = go so_far.after refl
    where
      go : (after : List Branch) → so_far.after ≡ after → IsListed new (number + 1) books
      go [] is = absurd (let no : true ≡ false = there ∙ ap (λ (l : List Branch). not (is_empty l)) (found_at [] is) in cc)
      go (x ∷ more) is =
          let rows : sales_of_first books (so_far.before ++ x ∷ []) ≡ sales_of_first books so_far.before ++ sales_of_branch books number =
          ap (flat_map (λ (it : ℕ × Branch). sales_of_branch books it.0)) (numbered_push 1 so_far.before x)
          ∙ flat_map_push (λ (it : ℕ × Branch). sales_of_branch books it.0) (numbered so_far.before) (1 + length so_far.before, x)
          ∙ ap (λ n. sales_of_first books so_far.before ++ sales_of_branch books n) (sym so_far.next) in
          record {
            before = so_far.before ++ x ∷ [];
            after = more;
            all = so_far.all ∙ ap (λ l. so_far.before ++ l) is ∙ sym (append_assoc so_far.before (x ∷ []) more);
            next = ap (λ n. n + 1) so_far.next ∙ longer so_far.before x;
            has =
                subst (HasTexts new)
                (sym (map-append listed_store (sales_of_first books so_far.before) (sales_of_branch books number)) ∙ ap (map listed_store) (sym rows))
                (added _ so_far.has);
          }
        where
          longer : (l : List Branch) (y : Branch) → 1 + length l + 1 ≡ 1 + length (l ++ y ∷ [])
          longer [] y = refl
          longer (z ∷ l) y = let more = longer l y in omega (arith, more)

  pub listed_last : false ≡ not (lacks books.catalogue.branches number) → HasTexts new (map listed_store (sales_of_first books books.catalogue.branches))
  listed_last none = go so_far.after refl
    where
      go : (after : List Branch) → so_far.after ≡ after → HasTexts new (map listed_store (sales_of_first books books.catalogue.branches))
      go [] is =
          let whole : books.catalogue.branches ≡ so_far.before = so_far.all ∙ ap (λ l. so_far.before ++ l) is ∙ append-nil so_far.before in
          subst (HasTexts new)
          (ap (λ l. map listed_store (sales_of_first books so_far.before) ++ map listed_store l) (no_branch books number (found_at [] is))
          ∙ append-nil (map listed_store (sales_of_first books so_far.before)) ∙ ap (λ l. map listed_store (sales_of_first books l)) (sym whole))
          (added _ so_far.has)
      go (x ∷ more) is = absurd (let no : false ≡ true = none ∙ ap (λ (l : List Branch). not (is_empty l)) (found_at (x ∷ more) is) in cc)

pub same_branch : (number branch : ℕ) (found : Option ℕ) → found ≡ (if number == 0 then None else Some number) → found ≡ Some branch → branch ≡ number
same_branch number branch found made is = go (number == 0) (sym is ∙ made)
  where
    go : (t : Bool) → Some branch ≡ (if t then None else Some number) → branch ≡ number
    go true e = absurd cc
    go false e = cc
