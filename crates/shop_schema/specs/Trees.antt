-- The numbers of the tables' trees in a chain's database, by the order in which its schema makes them.
use Rattle.std.specs.Prelude.{ℕ}

abbrev pub country_tree : ℕ
country_tree = 1

abbrev pub language_tree : ℕ
language_tree = 4

abbrev pub category_tree : ℕ
category_tree = 7

abbrev pub city_tree : ℕ
city_tree = 10

abbrev pub actor_tree : ℕ
actor_tree = 12

abbrev pub film_tree : ℕ
film_tree = 14

abbrev pub film_actor_tree : ℕ
film_actor_tree = 16

abbrev pub branch_tree : ℕ
branch_tree = 18

abbrev pub staff_tree : ℕ
staff_tree = 21

abbrev pub customer_tree : ℕ
customer_tree = 23

abbrev pub copy_tree : ℕ
copy_tree = 25

abbrev pub rental_tree : ℕ
rental_tree = 27

abbrev pub payment_tree : ℕ
payment_tree = 30

abbrev pub lot_tree : ℕ
lot_tree = 32

abbrev pub consignment_tree : ℕ
consignment_tree = 34

abbrev pub consignment_line_tree : ℕ
consignment_line_tree = 37

abbrev pub kept_tree : ℕ
kept_tree = 39

abbrev pub counter_tree : ℕ
counter_tree = 41

abbrev pub out_copy_tree : ℕ
out_copy_tree = 43

abbrev pub pair_count_tree : ℕ
pair_count_tree = 50

abbrev pub rental_terms_tree : ℕ
rental_terms_tree = 57

abbrev pub chain_rule_tree : ℕ
chain_rule_tree = 59
