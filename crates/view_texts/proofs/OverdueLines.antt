-- The rows of the join of the copies that are out, by one branch's shop: what is read of the rows, and the list of the overdue rentals.
use Rattle.shop_schema.proofs.Common.{◌≡◌, ◌+◌, ℕ, List, [], ◌∷◌, ◌++◌, map, filter, codes, refl, sym, ap, ◌∙◌, append-nil, ◌⊎◌, is_none, nat_lt, zip}
use Rattle.shop_schema.proofs.Common.{AllByRecursion, flat_map, Null, or_null, column, State, map-map, all-filter, number_value, same_number, Moment, IsMoment}
use Rattle.shop_schema.proofs.Common.{Row, at, is_row, of, Customer, Film, Rental, Terms, Catalogue, Shop, Books, head, shop_of, termed, is_overdue, film_of}
use Rattle.shop_schema.proofs.Common.{overdue_row, overdue_list, at_one, moment_value, IsRental, IsHeld, Holds, Customers, Rentals, TermRows}
use Rattle.std.specs.Prelude.{Bool}
use Rattle.sqlite.specs.declared.types.Value.TheVariants.{Text}
use Rattle.sqlite.specs.State.{Shown}
use Rattle.shop_model.specs.Calendar.{day_of}
use Rattle.shop_model.specs.Views.{overdue_text}
use Rattle.shop_schema.proofs.Lists.{filter_twice}
use Rattle.shop_schema.specs.Kinds as kind
use Rattle.shop_schema.proofs.OneRow.{same_value}
use Rattle.shop_store.proofs.Ascending.{all_of}
use Rattle.shop_store.proofs.WithTerms.{termed_rows}
use Rattle.shop_views.specs.declared.overdue_rows.OverdueRow.{OverdueRow}
use Rattle.shop_views.specs.Overdue.{seen_overdue}
use Rattle.view_texts.specs.Overdue.{shown_out, is_late, IsReal}
use Rattle.view_texts.proofs.PaymentLines.{rows_at, films_are, one_film}
use Rattle.view_texts.proofs.PersonLines.{same_words}
use Rattle.view_texts.proofs.OverdueJoin.{title_of, terms_there, renters, rental_title, period_of, shown_with, shown_open, shows_opens}
use Rattle.view_texts.proofs.Lefts.{one_at_most}
use Rattle.view_texts.specs.declared.overdue.TheConstants.{SELECT_OUTS}
use Rattle.sqlite_value.specs.Order as sql
use Rattle.shop_model.specs.Values as model

-- ---- by the branch's shop

module _ (b : ℕ) (books : Books) (held : IsHeld books) where
  abbrev own_shop : Shop
  own_shop = shop_of b books

  -- a rental of the branch, with the terms under its number
  open_is : (x : Row Rental) (t : Terms) → x.branch ≡ b → at x.number (of b books.terms) ≡ t ∷ []
      → shown_open books x ≡ shown_out books.catalogue own_shop (x.it, t)
  open_is x t own found =
      let terms : terms_there books x ≡ t ∷ [] =
      ap (λ c. map (λ (row : Row Terms). row.it) (filter (is_row c x.number) books.terms)) own
      ∙ rows_at b x.number books.terms (held.numbers.rows TermRows b) ∙ found in
      let customers : renters books x ≡ at x.it.customer own_shop.customers =
      ap (λ c. map (λ (row : Row Customer). row.it) (filter (is_row c x.it.customer) books.customers)) own
      ∙ rows_at b x.it.customer books.customers (held.numbers.rows Customers b) in
      let title : rental_title books x ≡ title_of (film_of books.catalogue own_shop x.it) =
      ap (λ c. rental_title books (record { branch = c; number = x.number; it = x.it })) own ∙ ap title_of (films_are books held.numbers b x.it) in
      (λ i. shown_with x (period_of (terms i)) (customers i) (title i))

  -- the branch's open rentals, each with its terms
  abbrev pub opened : List (Rental × Terms)
  opened = filter (λ (it : Rental × Terms). is_none it.0.returned) (termed own_shop)

  pub shows_outs : (old new : State) (rows : List sql.Row) → Holds old books
      → Shown SELECT_OUTS.now (number_value b ∷ []) old new rows → rows ≡ map (shown_out books.catalogue own_shop) opened
  shows_outs old new rows holds h =
      shows_opens old new b rows books holds held h
      ∙ termed_rows b (λ (it : Rental). is_none it.returned) books.terms (shown_open books)
      (shown_out books.catalogue own_shop) open_is books.rentals [] (of b books.terms) refl
      (held.numbers.rows Rentals b) (held.termed b)

  real_from : (rentals : List Rental) (terms : List Terms) → AllByRecursion IsRental rentals → AllByRecursion IsReal (zip rentals terms)
  real_from [] [] all = tt
  real_from [] (t ∷ terms) all = tt
  real_from (rental ∷ rentals) [] all = tt
  real_from (rental ∷ rentals) (t ∷ terms) all = (all.0.rented, real_from rentals terms all.1)

  pub all_real : AllByRecursion IsReal opened
  all_real =
      all-filter IsReal (λ (it : Rental × Terms). is_none it.0.returned) (termed own_shop)
      (real_from (of b books.rentals) (of b books.terms) (all_of IsRental b books.rentals (held.values.rows Rentals)))

  -- the overdue rentals are the list
  pub overdue_are : (moment : Moment)
      → map (λ (it : Rental × Terms). overdue_text (overdue_row books.catalogue own_shop it.0)) (filter (is_late moment) opened)
      ≡ map overdue_text (overdue_list books.catalogue own_shop moment)
  overdue_are moment =
      let late = filter (is_overdue moment) (termed own_shop) in
      ap (map (λ (it : Rental × Terms). overdue_text (overdue_row books.catalogue own_shop it.0)))
      (sym (filter_twice (λ (it : Rental × Terms). is_none it.0.returned) (is_late moment) (termed own_shop)))
      ∙ sym (map-map overdue_text (λ (it : Rental × Terms). overdue_row books.catalogue own_shop it.0) late)
      ∙ ap (map overdue_text) (sym (map-map (overdue_row books.catalogue own_shop) (λ (it : Rental × Terms). it.0) late))

-- ---- a row

pub late_is : (row : sql.Row) (rented moment : Moment) (period : ℕ) (late : Bool)
    → IsMoment rented → column row 0 ≡ moment_value rented → column row 1 ≡ number_value period
    → late ≡ nat_lt (day_of rented + period) (day_of moment) → (catalogue : Catalogue) (shop : Shop) (it : Rental × Terms)
    → IsReal it → row ≡ shown_out catalogue shop it → late ≡ is_late moment it
late_is row rented moment period late real at0 at1 told catalogue shop it its is =
    let day : rented ≡ it.0.rented = same_value kind.Moment rented it.0.rented real its (sym at0 ∙ ap (λ r. column r 0) is) in
    let days : period ≡ it.1.period = same_number period it.1.period (sym at1 ∙ ap (λ r. column r 1) is) in
    told ∙ (λ i. nat_lt (day_of (day i) + days i) (day_of moment))

nothing : (t : model.Text) → Null ≡ Text t → ⊥
nothing t e = cc

-- the text of a row that is there
module _ {X : Type 0} (show : X → model.Text) (t : model.Text) where
  abbrev IsTold : List X → Type 0
  IsTold l = or_null (λ x. Text (show x)) (head l) ≡ Text t → t ≡ flat_map show l

  told_by : (l : List X) → (l ≡ []) ⊎ ((x : X) × (l ≡ x ∷ [])) → IsTold l
  told_by = one_at_most IsTold (λ told. absurd (nothing t told)) (λ x told. sym (same_words (show x) t told) ∙ sym (append-nil (show x)))

-- the whole name of a customer that is there
module _ (first last : model.Text) where
  abbrev name_of : Customer → model.Text
  name_of it = it.person.last ++ codes ", " ++ it.person.first

  abbrev IsNamed : List Customer → Type 0
  IsNamed l =
      or_null (λ (c : Customer). Text c.person.first) (head l) ≡ Text first
      → or_null (λ (c : Customer). Text c.person.last) (head l) ≡ Text last → last ++ codes ", " ++ first ≡ flat_map name_of l

  named_by : (l : List Customer) → (l ≡ []) ⊎ ((c : Customer) × (l ≡ c ∷ [])) → IsNamed l
  named_by = one_at_most IsNamed (λ told also. absurd (nothing first told)) (λ customer told also.
      let person = customer.person in
      let firsts : first ≡ person.first = sym (same_words person.first first told) in
      let lasts : last ≡ person.last = sym (same_words person.last last also) in
      let whole : last ++ codes ", " ++ first ≡ person.last ++ codes ", " ++ person.first = (λ i. lasts i ++ codes ", " ++ firsts i) in
      whole ∙ sym (append-nil (person.last ++ codes ", " ++ person.first)))

pub overdue_is : (row : sql.Row) (it : OverdueRow) → column row 2 ≡ Text it.first
    → column row 3 ≡ Text it.last → column row 4 ≡ Text it.phone → column row 5 ≡ Text it.title
    → (catalogue : Catalogue) (shop : Shop) (out : Rental × Terms) → row ≡ shown_out catalogue shop out → seen_overdue it ≡ overdue_row catalogue shop out.0
overdue_is row it first last phone title catalogue shop out is =
    let customers : List Customer = at out.0.customer shop.customers in
    let one = at_one out.0.customer shop.customers in
    let films : List Film = film_of catalogue shop out.0 in
    let name : it.last ++ codes ", " ++ it.first ≡ flat_map (λ (c : Customer). c.person.last ++ codes ", " ++ c.person.first) customers =
    named_by it.first it.last customers one (sym (ap (λ r. column r 2) is) ∙ first) (sym (ap (λ r. column r 3) is) ∙ last) in
    let called : it.phone ≡ flat_map (λ (c : Customer). c.person.phone) customers =
    told_by (λ (c : Customer). c.person.phone) it.phone customers one (sym (ap (λ r. column r 4) is) ∙ phone) in
    let film : it.title ≡ flat_map (λ (f : Film). f.title) films =
    told_by (λ (f : Film). f.title) it.title films (one_film catalogue shop out.0) (sym (ap (λ r. column r 5) is) ∙ title) in
    (λ i. record { customer = name i; phone = called i; title = film i })
