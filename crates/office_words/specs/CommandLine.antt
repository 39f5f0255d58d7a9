-- The command line of head office, as the library `clap` sees it: `[--db FILE] SUBCOMMAND [OPTION]..`, without the program's name.
use Rattle.std.specs.Prelude.{Bool, true, List, [], ◌∷◌, ◌++◌, codes, fold}
use Rattle.std.specs.List.{list_any}
use Rattle.std.specs.Str.{bytes_eq}
use Rattle.clap.specs.Words.{App, Rule, Shape, Text, with_subcommand}
use Rattle.clap.specs.Simple.{new_shape}
use Rattle.word_tables.specs.Rules.{optional_rule, text_rule, default_rule, number_rule, optional_number_rule, default_number_rule, row_rule, word_shape}

-- ---- options

-- the names of a person
abbrev pub person_rules : List Rule
person_rules = text_rule (codes "first") ∷ text_rule (codes "last") ∷ []

-- where a branch or a person is found
abbrev pub contact_rules : List Rule
contact_rules = text_rule (codes "address") ∷ text_rule (codes "postal") ∷ text_rule (codes "phone") ∷ []

-- ---- subcommands

-- a subcommand that changes the catalogue: it has a key
abbrev pub keyed_shape : Text → List Rule → Shape
keyed_shape name rules = word_shape name (text_rule (codes "key") ∷ rules)

-- a subcommand that adds what has a name alone
abbrev pub named_shape : Text → Shape
named_shape name = keyed_shape name (text_rule (codes "name") ∷ [])

abbrev pub city_add_shape : Shape
city_add_shape = keyed_shape (codes "city-add") (text_rule (codes "name") ∷ row_rule (codes "country") ∷ [])

abbrev pub actor_add_shape : Shape
actor_add_shape = keyed_shape (codes "actor-add") person_rules

abbrev pub film_text_rules : List Rule
film_text_rules = text_rule (codes "title") ∷ default_rule (codes "description") [] ∷ []

abbrev pub film_kind_rules : List Rule
film_kind_rules = row_rule (codes "language") ∷ row_rule (codes "category") ∷ default_rule (codes "rating") (codes "G") ∷ []

abbrev pub film_terms_rules : List Rule
film_terms_rules = default_number_rule (codes "period") 1 255 (codes "3")
    ∷ default_number_rule (codes "rate") 0 9_999 (codes "499")
    ∷ default_number_rule (codes "replacement") 0 99_999 (codes "1999") ∷ []

abbrev pub film_disc_rules : List Rule
film_disc_rules = optional_number_rule (codes "length") 1 65_535 ∷ default_rule (codes "features") [] ∷ []

abbrev pub film_add_shape : Shape
film_add_shape = keyed_shape (codes "film-add") (film_text_rules ++ film_kind_rules ++ film_terms_rules ++ film_disc_rules)

abbrev pub film_price_shape : Shape
film_price_shape = keyed_shape (codes "film-price") (row_rule (codes "film") ∷ number_rule (codes "rate") 0 9_999 ∷ [])

abbrev pub film_withdraw_shape : Shape
film_withdraw_shape = keyed_shape (codes "film-withdraw") (row_rule (codes "film") ∷ [])

abbrev pub cast_add_shape : Shape
cast_add_shape = keyed_shape (codes "cast-add") (row_rule (codes "film") ∷ row_rule (codes "actor") ∷ [])

abbrev pub branch_add_shape : Shape
branch_add_shape = keyed_shape (codes "branch-add") (text_rule (codes "token") ∷ row_rule (codes "city") ∷ contact_rules)

abbrev pub staff_add_shape : Shape
staff_add_shape = keyed_shape (codes "staff-add") (row_rule (codes "branch") ∷ row_rule (codes "city") ∷ person_rules ++ contact_rules)

abbrev pub staff_leave_shape : Shape
staff_leave_shape = keyed_shape (codes "staff-leave") (row_rule (codes "staff") ∷ [])

abbrev pub manager_set_shape : Shape
manager_set_shape = keyed_shape (codes "manager-set") (row_rule (codes "branch") ∷ row_rule (codes "staff") ∷ [])

abbrev pub balance_rule_shape : Shape
balance_rule_shape = keyed_shape (codes "balance-rule") (text_rule (codes "rule") ∷ [])

abbrev pub init_shape : Shape
init_shape = word_shape (codes "init") (text_rule (codes "token") ∷ [])

abbrev pub migrate_shape : Shape
migrate_shape = word_shape (codes "migrate") []

abbrev pub serve_shape : Shape
serve_shape = word_shape (codes "serve")
    (number_rule (codes "port") 1 65_535 ∷ number_rule (codes "connections") 1 1_000_000 ∷ [])

abbrev pub replay_shape : Shape
replay_shape = word_shape (codes "replay") []

abbrev pub sales_shape : Shape
sales_shape = word_shape (codes "sales") []

abbrev pub custody_shape : Shape
custody_shape = word_shape (codes "custody") (row_rule (codes "branch") ∷ row_rule (codes "copy") ∷ [])

abbrev pub transit_shape : Shape
transit_shape = word_shape (codes "transit") []

abbrev pub audit_shape : Shape
audit_shape = word_shape (codes "audit") []

-- ---- the whole line

abbrev pub name_shapes : List Shape
name_shapes = named_shape (codes "country-add") ∷ named_shape (codes "language-add") ∷ named_shape (codes "category-add") ∷ []

abbrev pub entry_shapes : List Shape
entry_shapes = city_add_shape ∷ actor_add_shape ∷ film_add_shape ∷ []

abbrev pub film_shapes : List Shape
film_shapes = film_price_shape ∷ film_withdraw_shape ∷ cast_add_shape ∷ []

abbrev pub place_shapes : List Shape
place_shapes = branch_add_shape ∷ staff_add_shape ∷ []

abbrev pub post_shapes : List Shape
post_shapes = staff_leave_shape ∷ manager_set_shape ∷ []

abbrev pub rule_shapes : List Shape
rule_shapes = balance_rule_shape ∷ []

abbrev pub file_shapes : List Shape
file_shapes = init_shape ∷ migrate_shape ∷ []

abbrev pub request_shapes : List Shape
request_shapes = serve_shape ∷ replay_shape ∷ []

abbrev pub reading_shapes : List Shape
reading_shapes = sales_shape ∷ custody_shape ∷ transit_shape ∷ audit_shape ∷ []

-- head office only reads with the subcommand of this name
abbrev pub is_reading : Text → Bool
is_reading name = list_any (λ shape. bytes_eq shape.name name) reading_shapes

-- the command line before its subcommands
abbrev pub top_app : App
top_app = record {
  top = record (new_shape (codes "sakila")) {
    rules = optional_rule (codes "db") ∷ [];
    no_binary_name = true;
    subcommand_required = true;
  };
  subs = [];
}

abbrev pub with_catalogue : App → App
with_catalogue app = fold with_subcommand (fold with_subcommand (fold with_subcommand app name_shapes) entry_shapes) film_shapes

abbrev pub with_places : App → App
with_places app = fold with_subcommand (fold with_subcommand app place_shapes) post_shapes

abbrev pub with_rules : App → App
with_rules app = fold with_subcommand app rule_shapes

abbrev pub with_program : App → App
with_program app = fold with_subcommand (fold with_subcommand app file_shapes) request_shapes

abbrev pub with_readings : App → App
with_readings app = fold with_subcommand app reading_shapes

abbrev pub office_app : App
office_app = with_readings (with_program (with_rules (with_places (with_catalogue top_app))))
