-- When two states are the same to a branch. Kept commands are found by their keys, and a lot came in or didn't, as an actor is cast in a film or isn't: so kept
-- commands are a map, and lots and casts are sets. The order of their lists is that in which they grew, and tells a branch nothing. All of it is our own.
use Rattle.std.specs.Prelude.{◌≡◌, ℕ, true, List, [], length, find, Option, IsPermutation}
use Rattle.std.specs.Str.{bytes_eq}
use Rattle.std.specs.List.{list_any}
use Rattle.shop_model.specs.Values.{Text}
use Rattle.shop_model.specs.Shop.{Kept, OfficeKept, Catalogue, Shop}
use Rattle.shop_model.specs.Views.{is_cast}
use Rattle.shop_model.specs.Machine.{State}
use Rattle.shop_model.specs.Links.{are_different}

-- what is kept under a key: no key is kept twice
abbrev pub kept_under : Text → List Kept → Option Kept
kept_under key kept = find (λ (k : Kept). bytes_eq k.command.key key) kept

abbrev pub office_kept_under : Text → List OfficeKept → Option OfficeKept
office_kept_under key kept = find (λ (k : OfficeKept). bytes_eq k.command.key key) kept

-- all but what is a map or a set
abbrev pub rest_of_shop : Shop → Shop
rest_of_shop shop = record shop { lots = []; kept = [] }

abbrev pub rest_of_catalogue : Catalogue → Catalogue
rest_of_catalogue catalogue = record catalogue { kept = []; casts = [] }

-- the same is kept under each key, and as many commands; the same lots came; and all else is equal
pub record SameShop (one other : Shop) : Type 0 where
  pub rest : rest_of_shop one ≡ rest_of_shop other
  pub kept : (key : Text) → kept_under key one.kept ≡ kept_under key other.kept
  pub size : length one.kept ≡ length other.kept
  pub lots : (lot : Text) → list_any (bytes_eq lot) one.lots ≡ list_any (bytes_eq lot) other.lots

-- and so it is with head office's kept commands; the same actors are cast in the same films
pub record SameCatalogue (one other : Catalogue) : Type 0 where
  pub rest : rest_of_catalogue one ≡ rest_of_catalogue other
  pub kept : (key : Text) → office_kept_under key one.kept ≡ office_kept_under key other.kept
  pub size : length one.kept ≡ length other.kept
  pub casts : (film actor : ℕ) → is_cast one film actor ≡ is_cast other film actor

pub record SameState (one other : State) : Type 0 where
  pub catalogue : SameCatalogue one.catalogue other.catalogue
  pub shop : SameShop one.shop other.shop

-- ---- the same lists in another order

-- where no key is kept twice, as in sound books
pub record IsShopReordered (one other : Shop) : Type 0 where
  pub rest : rest_of_shop one ≡ rest_of_shop other
  pub kept : IsPermutation one.kept other.kept
  pub lots : IsPermutation one.lots other.lots
  pub keys : are_different (λ (earlier later : Kept). bytes_eq earlier.command.key later.command.key) one.kept ≡ true

pub record IsCatalogueReordered (one other : Catalogue) : Type 0 where
  pub rest : rest_of_catalogue one ≡ rest_of_catalogue other
  pub kept : IsPermutation one.kept other.kept
  pub casts : IsPermutation one.casts other.casts
  pub keys : are_different (λ (earlier later : OfficeKept). bytes_eq earlier.command.key later.command.key) one.kept ≡ true

pub record IsReordered (one other : State) : Type 0 where
  pub catalogue : IsCatalogueReordered one.catalogue other.catalogue
  pub shop : IsShopReordered one.shop other.shop
