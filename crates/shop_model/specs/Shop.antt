-- Head office's catalogue and one branch's shop. A row's number is its position, from 1. That both stand apart, and all about keys, is our own.
use Rattle.std.specs.Prelude.{ℕ, ◌==◌, ◌&&◌, Bool, true, false, List, Option, Some, None}
use Rattle.std.specs.Str.{bytes_eq}
use Rattle.shop_model.specs.Calendar.{Moment}
use Rattle.shop_model.specs.Values.{Text, Person, City, Actor, Film, Cast, Branch, Staff, Customer, Copy, Rental, Terms, Payment, Arrival, Parcel, Rule, ByCode}
use Rattle.shop_model.specs.Values.{ByComment, Command, OfficeCommand}

-- A kept command and the bytes of its reply. It is kept permanently, under its key, among the kept commands of the same caller.
pub record Kept : Type 0 where
  pub command : Command
  pub reply : Text

pub record OfficeKept : Type 0 where
  pub command : OfficeCommand
  pub reply : Text

-- what all branches share: head office's token and kept commands, by which rule balances go, who is cast in which film, and the lists of shared rows
pub record Catalogue : Type 0 where
  pub office_token : Text
  pub kept : List OfficeKept
  pub rule : Rule
  pub casts : List Cast
  pub countries : List Text
  pub cities : List City
  pub languages : List Text
  pub categories : List Text
  pub actors : List Actor
  pub films : List Film
  pub branches : List Branch
  pub staff : List Staff

-- what one branch has, and nothing by which another could be known but the numbers of branches that sent or got consignments
pub record Shop : Type 0 where
  pub customers : List Customer
  pub copies : List Copy
  pub rentals : List Rental
  pub terms : List Terms  -- those of each rental, in the order of the rentals
  pub payments : List Payment
  pub lots : List Text
  pub arrivals : List Arrival
  pub sent : List Parcel
  pub kept : List Kept
  pub last : Option Moment

-- ---- commands that are equal: as values, and a stock file byte for byte

abbrev pub same_option : Option ℕ → Option ℕ → Bool
same_option None None = true
same_option (Some m) (Some n) = m == n
same_option a b = false

abbrev pub same_numbers : List ℕ → List ℕ → Bool
same_numbers a b = bytes_eq a b

abbrev pub same_flag : Bool → Bool → Bool
same_flag true true = true
same_flag true false = false
same_flag false true = false
same_flag false false = true

abbrev pub same_rule : Rule → Rule → Bool
same_rule ByCode ByCode = true
same_rule ByComment ByComment = true
same_rule a b = false

abbrev pub same_person : Person → Person → Bool
same_person a b =
    bytes_eq a.first b.first && bytes_eq a.last b.last && bytes_eq a.address b.address
    && bytes_eq a.postal b.postal && bytes_eq a.phone b.phone && a.city == b.city
