-- Tests of shared rows.
use Rattle.std.specs.Prelude.{ℕ, ◌+◌, ◌&&◌, nat_le, Bool, true, not, List, [], ◌∷◌, length}
use Rattle.std.specs.Option.{option_to_list}
use Rattle.std.specs.List.{list_all}
use Rattle.std.specs.Str.{bytes_eq}
use Rattle.shop_model.specs.Links.{are_different}
use Rattle.audit_rows.specs.declared.books.OrderedBooks.{OrderedBooks}
use Rattle.audit_rows.specs.declared.rows.CheckedCity.{CheckedCity}
use Rattle.audit_rows.specs.declared.rows.CheckedFilm.{CheckedFilm}
use Rattle.audit_rows.specs.declared.rows.CheckedCast.{CheckedCast}
use Rattle.audit_rows.specs.declared.rows.CheckedBranch.{CheckedBranch}
use Rattle.audit_rows.specs.declared.rows.CheckedStaff.{CheckedStaff}
use Rattle.audit_rows.specs.Shops.{is_among}
use Rattle.audit_rows.specs.Parts.{is_staff_row}

-- for each branch, from branch b on: the manager, if there is one, is of the branch's staff
abbrev pub managers_from : ℕ → List CheckedStaff → List CheckedBranch → Bool
managers_from b staff [] = true
managers_from b staff (row ∷ rows) = list_all (is_staff_row b staff) (option_to_list row.manager) && managers_from (b + 1) staff rows

abbrev pub is_named : OrderedBooks → Bool
is_named rows =
    list_all (λ (row : CheckedCity). is_among (length rows.countries.items) row.country) rows.cities.items
    && list_all
    (λ (row : CheckedFilm). is_among (length rows.languages.items) row.language && is_among (length rows.categories.items) row.category) rows.films.items
    && list_all (λ (row : CheckedCast). is_among (length rows.films.items) row.film && is_among rows.actors row.actor) rows.casts.items
    && list_all (λ (row : CheckedBranch). is_among (length rows.cities.items) row.city) rows.branches.items
    && list_all (λ (row : CheckedStaff). is_among (length rows.branches.items) row.branch && is_among (length rows.cities.items) row.city) rows.staff.items
    && managers_from 1 rows.staff.items rows.branches.items

abbrev pub is_shared_sized : OrderedBooks → Bool
is_shared_sized rows =
    nat_le (length rows.casts.items) (length rows.office_keys.items + 3)
    && nat_le (length rows.countries.items) (length rows.office_keys.items + 3) && nat_le (length rows.cities.items) (length rows.office_keys.items + 3)
    && nat_le (length rows.languages.items) (length rows.office_keys.items + 3) && nat_le (length rows.categories.items) (length rows.office_keys.items + 3)
    && nat_le rows.actors (length rows.office_keys.items + 3) && nat_le (length rows.films.items) (length rows.office_keys.items + 3)
    && nat_le (length rows.branches.items) (length rows.office_keys.items + 3) && nat_le (length rows.staff.items) (length rows.office_keys.items + 3)

abbrev pub is_single : OrderedBooks → Bool
is_single rows =
    are_different bytes_eq rows.countries.items && are_different bytes_eq rows.languages.items && are_different bytes_eq rows.categories.items
    && are_different (λ (earlier later : CheckedBranch). bytes_eq earlier.token later.token) rows.branches.items
    && list_all (λ (row : CheckedBranch). not (bytes_eq row.token rows.office_token)) rows.branches.items

abbrev pub is_good_catalogue : OrderedBooks → Bool
is_good_catalogue rows = nat_le (length rows.office_keys.items) 1000000 && is_shared_sized rows && is_named rows && is_single rows
