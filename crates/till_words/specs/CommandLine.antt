-- The command line of a till, as the library `clap` sees it, without the program's name:
-- `[--book FILE] [--drawer N] [--json] [--staff N] [--yes] WORD [OPTION]..`.
use Rattle.std.specs.Prelude.{true, List, [], ◌∷◌, codes, fold}
use Rattle.clap.specs.Words.{App, Rule, Shape, with_subcommand}
use Rattle.clap.specs.Simple.{new_shape}
use Rattle.word_tables.specs.Rules.{optional_rule, text_rule, default_rule, row_rule, optional_row_rule, default_row_rule, flag_rule, word_shape}

-- ---- words

abbrev pub customer_rules : List Rule
customer_rules = row_rule (codes "customer") ∷ []

abbrev pub copy_rules : List Rule
copy_rules = row_rule (codes "copy") ∷ []

abbrev pub find_rules : List Rule
find_rules = text_rule (codes "find") ∷ []

abbrev pub rent_shape : Shape
rent_shape = word_shape (codes "rent") (row_rule (codes "customer") ∷ row_rule (codes "copy") ∷ [])

abbrev pub return_shape : Shape
return_shape = word_shape (codes "return") (optional_row_rule (codes "copy") ∷ optional_row_rule (codes "rental") ∷ [])

abbrev pub pay_shape : Shape
pay_shape = word_shape (codes "pay")
    (row_rule (codes "customer") ∷ text_rule (codes "amount") ∷ optional_row_rule (codes "rental") ∷ [])

abbrev pub join_shape : Shape
join_shape = word_shape (codes "join")
    (text_rule (codes "first") ∷ text_rule (codes "last") ∷ text_rule (codes "address") ∷ text_rule (codes "phone")
    ∷ text_rule (codes "city") ∷ default_rule (codes "postal") [] ∷ [])

abbrev pub import_shape : Shape
import_shape = word_shape (codes "import") (text_rule (codes "file") ∷ text_rule (codes "lot") ∷ [])

abbrev pub dispatch_shape : Shape
dispatch_shape = word_shape (codes "dispatch") (row_rule (codes "to") ∷ text_rule (codes "copies") ∷ [])

abbrev pub receive_shape : Shape
receive_shape = word_shape (codes "receive")
    (row_rule (codes "from") ∷ row_rule (codes "number") ∷ default_rule (codes "missing") [] ∷ [])

abbrev pub rewards_shape : Shape
rewards_shape = word_shape (codes "rewards") (row_rule (codes "purchases") ∷ text_rule (codes "amount") ∷ [])

abbrev pub last_shape : Shape
last_shape = word_shape (codes "last") (default_row_rule (codes "count") (codes "10") ∷ [])

abbrev pub day_shape : Shape
day_shape = word_shape (codes "day") (optional_rule (codes "date") ∷ optional_rule (codes "count") ∷ [])

abbrev pub today_shape : Shape
today_shape = word_shape (codes "today") (text_rule (codes "date") ∷ [])

abbrev pub again_shape : Shape
again_shape = word_shape (codes "again") (flag_rule (codes "late") ∷ [])

abbrev pub init_shape : Shape
init_shape = word_shape (codes "init")
    (text_rule (codes "address") ∷ text_rule (codes "token") ∷ optional_row_rule (codes "staff") ∷ flag_rule (codes "office")
    ∷ optional_rule (codes "zone") ∷ [])

abbrev pub zone_shape : Shape
zone_shape = word_shape (codes "zone") (text_rule (codes "name") ∷ [])

-- ---- the whole line

abbrev pub counter_shapes : List Shape
counter_shapes = rent_shape ∷ return_shape ∷ pay_shape ∷ join_shape
    ∷ word_shape (codes "bar") customer_rules ∷ word_shape (codes "unbar") customer_rules ∷ []

abbrev pub stock_shapes : List Shape
stock_shapes = import_shape ∷ dispatch_shape ∷ receive_shape ∷ word_shape (codes "scrap") copy_rules ∷ []

abbrev pub found_shapes : List Shape
found_shapes = word_shape (codes "customer") find_rules ∷ word_shape (codes "film") find_rules
    ∷ word_shape (codes "in-stock") copy_rules ∷ word_shape (codes "held-by") copy_rules
    ∷ word_shape (codes "copies") (row_rule (codes "film") ∷ []) ∷ word_shape (codes "balance") customer_rules ∷ []

abbrev pub listed_shapes : List Shape
listed_shapes = word_shape (codes "overdue") [] ∷ word_shape (codes "arrivals") [] ∷ word_shape (codes "sent") []
    ∷ rewards_shape ∷ word_shape (codes "sales") [] ∷ []

abbrev pub till_shapes : List Shape
till_shapes = word_shape (codes "waiting") [] ∷ word_shape (codes "send") [] ∷ last_shape ∷ day_shape ∷ today_shape ∷ again_shape
    ∷ word_shape (codes "slip") [] ∷ word_shape (codes "help") [] ∷ init_shape ∷ zone_shape ∷ word_shape (codes "office") [] ∷ []

-- the command line before its words
abbrev pub top_app : App
top_app = record {
  top = record (new_shape (codes "till")) {
    rules = optional_rule (codes "book") ∷ optional_row_rule (codes "drawer") ∷ flag_rule (codes "json") ∷ optional_row_rule (codes "staff")
        ∷ flag_rule (codes "yes") ∷ [];
    no_binary_name = true;
    disable_help_subcommand = true;
  };
  subs = [];
}

abbrev pub with_shapes : App → List Shape → App
with_shapes = fold with_subcommand

abbrev pub till_app : App
till_app = with_shapes (with_shapes (with_shapes (with_shapes (with_shapes top_app counter_shapes) stock_shapes) found_shapes) listed_shapes) till_shapes
