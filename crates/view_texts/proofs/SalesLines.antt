-- Rows of a branch and of its payments, read and added up.
use Rattle.shop_schema.proofs.Common.{◌≡◌, ◌+◌, ℕ, List, [], ◌∷◌, ◌++◌, map, true, Option, Some, None, option_map, refl, sym, ap, subst, ◌∙◌, arith, append-nil}
use Rattle.shop_schema.proofs.Common.{◌⊎◌, is_some, unwrap_or, if◌then◌else◌, option_to_list, flat_map, Null, or_null, column, number_value, same_number, at}
use Rattle.shop_schema.proofs.Common.{is_empty, total, Branch, Staff, Rental, Payment, Catalogue, Books, head, shop_of, full_name, person_name, manager_name}
use Rattle.shop_schema.proofs.Common.{city_name, country_name, paid_rentals, takings, at_one}
use Rattle.std.specs.Prelude.{codes}
use Rattle.sqlite.specs.declared.types.Value.TheVariants.{Text}
use Rattle.sqlite_value.specs.Order as sql
use Rattle.shop_model.specs.Values as model
use Rattle.shop_schema.proofs.Lists.{flat_map_push}
use Rattle.shop_views.specs.Sales.{manager_text}
use Rattle.shop_views.specs.declared.names.PersonName.{PersonName}
use Rattle.view_texts.specs.Shown.{text_or_empty, IsNameIn}
use Rattle.view_texts.specs.Payments.{PaidLine, shown_line, paid_lines, Sale, sale, sale_in}
use Rattle.view_texts.specs.Sales.{sum_of, rental_sum, manager_of, shown_store, store_with}
use Rattle.sql_rows.proofs.EachLemmas.{split_last}
use Rattle.view_texts.proofs.PersonLines.{city_read, country_read, same_words}
use Rattle.view_texts.proofs.PaymentLines.{paid_are, takings_are}
use Rattle.view_texts.proofs.Lefts.{one_at_most}

-- ---- sums

total_push : {A : Type 0} (w : A → ℕ) (xs : List A) (x : A) → total w (xs ++ x ∷ []) ≡ total w xs + w x
total_push w [] x = omega arith
total_push w (y ∷ xs) x = let more = total_push w xs x in omega (arith, more)

pub sum_more : (sum : Option ℕ) (sales : List Sale) (next : Sale) → sum ≡ sum_of sales → Some (unwrap_or sum 0 + next.amount) ≡ sum_of (sales ++ next ∷ [])
sum_more sum [] next is = ap (λ o. Some (unwrap_or o 0 + next.amount)) is ∙ ap Some (omega arith)
sum_more sum (it ∷ sales) next is =
    ap (λ o. Some (unwrap_or o 0 + next.amount)) is ∙ ap Some (let more = total_push (λ (s : Sale). s.amount) sales next in omega (arith, more))

-- the row of a payment whose rental is there adds its amount
pub payment_added : (row : sql.Row) (sum found : Option ℕ) (amount next : ℕ) → column row 1 ≡ or_null number_value found
    → is_some found ≡ true → column row 0 ≡ number_value amount → next ≡ unwrap_or sum 0 + amount
    → (line : PaidLine) (sales : List Sale) → row ≡ shown_line line → sum ≡ sum_of sales → Some next ≡ sum_of (sales ++ sale_in line)
payment_added row sum None amount next at1 there at0 added line sales is so_far = absurd cc
payment_added row sum (Some n) amount next at1 there at0 added line sales is so_far = go line.rental (sym at1 ∙ ap (λ r. column r 1) is)
  where
    its : Sale
    its = record { amount = line.amount; category = line.category }

    amounts : amount ≡ line.amount
    amounts = same_number _ _ (sym at0 ∙ ap (λ r. column r 0) is)

    go : (o : Option ℕ) → number_value n ≡ or_null number_value o → Some next ≡ sum_of (sales ++ map (λ (_ : ℕ). its) (option_to_list o))
    go None e = absurd cc
    go (Some m) e = ap Some added ∙ ap (λ k. Some (unwrap_or sum 0 + k)) amounts ∙ sum_more sum sales its so_far

pub sold_more : (old new : Option ℕ) (given : List sql.Row) (row : sql.Row)
    → ((line : PaidLine) (sales : List Sale) → row ≡ shown_line line → old ≡ sum_of sales → new ≡ sum_of (sales ++ sale_in line))
    → ((lines : List PaidLine) → given ≡ map shown_line lines → old ≡ sum_of (flat_map sale_in lines))
    → (lines : List PaidLine) → given ++ row ∷ [] ≡ map shown_line lines → new ≡ sum_of (flat_map sale_in lines)
sold_more old new given row adds so_far lines e =
    let parts = split_last shown_line given row lines e in
    adds parts.1 (flat_map sale_in parts.0) parts.3 (so_far parts.0 parts.2)
    ∙ ap sum_of (sym (flat_map_push sale_in parts.0 parts.1)) ∙ ap (λ l. sum_of (flat_map sale_in l)) (sym parts.4)

pub sold_none : (lines : List PaidLine) → [] ≡ map shown_line lines → None ≡ sum_of (flat_map sale_in lines)
sold_none [] e = refl
sold_none (line ∷ lines) e = absurd cc

-- the sales of the branch's payments make its sum
pub sum_is : (b : ℕ) (books : Books) → sum_of (flat_map sale_in (paid_lines b books)) ≡ rental_sum (shop_of b books)
sum_is b books = ap sum_of (sym (paid_are books.catalogue (shop_of b books))) ∙ all (paid_rentals (shop_of b books))
  where
    all : (pairs : List (Payment × Rental))
        → sum_of (map (sale books.catalogue (shop_of b books)) pairs) ≡ (if is_empty pairs then None else Some (takings pairs))
    all [] = refl
    all (it ∷ pairs) = ap Some (sym (takings_are books.catalogue (shop_of b books) (it ∷ pairs)))

-- ---- a branch's row

one_only : {A : Type 0} (l : List A) → (l ≡ []) ⊎ ((x : A) × (l ≡ x ∷ [])) → option_to_list (head l) ≡ l
one_only {A} = one_at_most (λ (l : List A). option_to_list (head l) ≡ l) refl (λ x. refl)

only_manager : (catalogue : Catalogue) (branch : Branch)
    → option_to_list (manager_of catalogue branch) ≡ flat_map (λ n. at n catalogue.staff) (option_to_list branch.manager)
only_manager catalogue branch = go branch.manager
  where
    go : (o : Option ℕ)
        → option_to_list (head (flat_map (λ n. at n catalogue.staff) (option_to_list o))) ≡ flat_map (λ n. at n catalogue.staff) (option_to_list o)
    go None = refl
    go (Some n) =
        subst (λ (k : List Staff). option_to_list (head k) ≡ k) (sym (append-nil (at n catalogue.staff)))
        (one_only (at n catalogue.staff) (at_one n catalogue.staff))

manager_named : (row : sql.Row) (name : Option PersonName) → IsNameIn (column row 3) (column row 4) name
    → (o : Option Staff) → column row 3 ≡ or_null (λ (it : Staff). Text it.person.first) o
    → column row 4 ≡ or_null (λ (it : Staff). Text it.person.last) o → manager_text name ≡ flat_map (λ (it : Staff). person_name it.person) (option_to_list o)
manager_named row None none None first last = refl
manager_named row None none (Some it) first last = absurd (let both : Null ≡ Text it.person.first = sym none ∙ first in cc)
manager_named row (Some name) some None first last = absurd (let both : Text name.first ≡ Null = sym some.0 ∙ first in cc)
manager_named row (Some name) some (Some it) first last =
    (λ i. full_name (same_words _ _ (sym some.0 ∙ first) i) (same_words _ _ (sym some.1 ∙ last) i)) ∙ sym (append-nil (person_name it.person))

pub store_is : (row : sql.Row) (city country : model.Text) (manager : Option PersonName)
    → city ≡ text_or_empty (column row 1) → country ≡ text_or_empty (column row 2)
    → IsNameIn (column row 3) (column row 4) manager → (catalogue : Catalogue) (x : ℕ × Branch) → row ≡ shown_store catalogue x
    → record { store = city ++ codes "," ++ country; manager = manager_text manager; total = 0 } ≡ store_with catalogue 0 x.1
store_is row city country manager at1 at2 at3 catalogue x is =
    let cities : city ≡ city_name catalogue x.1.city = at1 ∙ ap (λ r. text_or_empty (column r 1)) is ∙ city_read catalogue x.1.city in
    let countries : country ≡ country_name catalogue x.1.city = at2 ∙ ap (λ r. text_or_empty (column r 2)) is ∙ country_read catalogue x.1.city in
    let managers : manager_text manager ≡ manager_name catalogue x.1 =
    manager_named row manager at3 (manager_of catalogue x.1) (ap (λ r. column r 3) is) (ap (λ r. column r 4) is)
    ∙ ap (flat_map (λ (it : Staff). person_name it.person)) (only_manager catalogue x.1) in
    (λ i. record { store = cities i ++ codes "," ++ countries i; manager = managers i; total = 0 })

-- the branch of the number, if it is there
pub found_is : {X : Type 0} (value : Branch → X) (b : ℕ) (catalogue : Catalogue) (rows : List sql.Row) (seen : Option X)
    → rows ≡ map (shown_store catalogue) (map (λ branch. (b, branch)) (at b catalogue.branches))
    → ((found : Option (ℕ × Branch)) → rows ≡ map (shown_store catalogue) (option_to_list found) → seen ≡ option_map (λ (it : ℕ × Branch). value it.1) found)
    → seen ≡ head (map value (at b catalogue.branches))
found_is value b catalogue rows seen are told =
    one_at_most (λ l. rows ≡ map (shown_store catalogue) (map (λ branch. (b, branch)) l) → seen ≡ head (map value l))
    (told None) (λ branch. told (Some (b, branch)))
    (at b catalogue.branches) (at_one b catalogue.branches) are

pub not_found : {X : Type 0} (value : ℕ × Branch → X) (catalogue : Catalogue) (found : Option (ℕ × Branch))
    → [] ≡ map (shown_store catalogue) (option_to_list found) → None ≡ option_map value found
not_found value catalogue None e = refl
not_found value catalogue (Some it) e = absurd cc
