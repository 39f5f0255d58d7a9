-- What the statements put that give new tables of version 1 their first rows.
use Rattle.shop_schema.proofs.Common.{◌≡◌, ℕ, pos, List, [], ◌∷◌, map, Ok, refl, sym, ap, subst, ◌∙◌, Null, Int, Term, lit, col, Values, Insert, Database}
use Rattle.shop_schema.proofs.Common.{State, ExecutesInside, Table, Means, AreKeyed, HasPut, has_put, Books, version_1_schema, chain_table, counter_table}
use Rattle.shop_schema.proofs.Common.{first_version, versioned_columns, counter_columns, counts_of, office_count, IsFirstShop, IsFirstKeyed, HaveNoFirstRows}
use Rattle.shop_schema.proofs.Common.{HoldsVersion1, IsNewFirst, StandsForVersion1, first_books, HaveRows}
use Rattle.sqlite.specs.declared.types.Value.TheVariants.{Text}
use Rattle.sqlite_value.specs.Order as sql
use Rattle.sqlite_tied.specs.Compute.{everything}
use Rattle.sqlite.specs.Listing.{understood}
use Rattle.shop_model.specs.Values as model
use Rattle.shop_schema.specs.declared.first.TheConstants.{FIRST_CHAIN, FIRST_COUNT}
use Rattle.shop_schema.proofs.Stands.{with_rows, none_have, has_at, one_changed, first_named}
use Rattle.shop_schema.specs.Trees.{branch_tree}

abbrev chain_terms : List Term
chain_terms = lit Null ∷ lit (Int (pos 1)) ∷ col 0 0 ∷ []

chain_means : Means version_1_schema FIRST_CHAIN.now (Insert 0 (Values chain_terms 3))
unfolding understood everything
chain_means = record { is = refl; plain = (refl, refl) }

abbrev count_terms : List Term
count_terms = lit Null ∷ lit (Int (pos 0)) ∷ lit (Int (pos 4)) ∷ lit (Int (pos 0)) ∷ []

count_means : Means version_1_schema FIRST_COUNT.now (Insert 18 (Values count_terms 4))
unfolding understood everything
count_means = record { is = refl; plain = (refl, refl) }

abbrev count_row : model.Text → sql.Row
count_row token = counter_columns (office_count (first_books token))

chain_put : (old new : State) (token : model.Text) (n : ℕ) → ExecutesInside 0 FIRST_CHAIN.now (Text token ∷ []) old new (Ok n)
    → IsFirstShop old → HasPut version_1_schema chain_table 2 (versioned_columns first_version token) old new
chain_put old new token n ran shop =
    has_put version_1_schema FIRST_CHAIN.now 0 chain_table chain_terms 2 chain_means (record { place = refl; uncounted = refl; unstamped = refl })
    (Text token ∷ []) (versioned_columns first_version token) old new n ran refl refl refl (λ id. refl) shop

count_put : (old new : State) (token : model.Text) (n : ℕ) → ExecutesInside 0 FIRST_COUNT.now [] old new (Ok n)
    → IsFirstShop old → HasPut version_1_schema counter_table 3 (count_row token) old new
count_put old new token n ran shop =
    has_put version_1_schema FIRST_COUNT.now 18 counter_table count_terms 3 count_means
    (record { place = refl; uncounted = refl; unstamped = refl }) [] (count_row token) old new n ran refl refl refl (λ id. refl) shop

pub first_filled : (old mid new : State) (token : model.Text) (m n : ℕ)
    → ExecutesInside 0 FIRST_CHAIN.now (Text token ∷ []) old mid (Ok m) → ExecutesInside 0 FIRST_COUNT.now [] mid new (Ok n)
    → IsFirstShop old → IsFirstKeyed old → HaveNoFirstRows old.now.trees → HoldsVersion1 new (first_books token)
first_filled old mid new token m n told counted shop keyed empty =
    let tables = version_1_schema.tables in
    let none : List (List sql.Row) = map (λ (t : Table). []) tables in
    let chain = chain_put old mid token m told shop in
    let count = count_put mid new token n counted chain.schema_is in
    let had : HaveRows tables old.now.trees none = none_have tables old.now.trees empty in
    let row = versioned_columns first_version token ∷ [] in
    let one : HaveRows tables mid.now.trees (with_rows 0 row none) =
    one_changed 0 old.now.trees mid.now.trees 0 tables none chain_table row refl refl chain.others
    (chain.rows [] (has_at 0 tables old.now.trees none chain_table refl had)) had in
    let counts = count_row token ∷ [] in
    let two : HaveRows tables new.now.trees (with_rows 18 counts (with_rows 0 row none)) =
    one_changed 41 mid.now.trees new.now.trees branch_tree tables (with_rows 0 row none) counter_table counts refl refl count.others
    (count.rows [] (has_at 18 tables mid.now.trees (with_rows 0 row none) counter_table refl one)) one in
    record {
      schema_is = count.schema_is;
      keyed = count.keyed (chain.keyed keyed);
      stands =
          first_named first_version (λ _ its. (its.terms ≡ []) × (its.catalogue.rule ≡ model.ByCode))
          (counts_of (first_books token)) new.now.trees (first_books token) two (refl, refl);
    }

-- new tables that were committed
pub new_first : (last end : State) (books : Books) → HoldsVersion1 last books → end.now ≡ last.now → end.committed ≡ last.now → IsNewFirst end books
new_first last end books holds now committed = record {
  holds = record {
    schema_is = ap (λ (d : Database). d.schema) now ∙ holds.schema_is;
    keyed = subst (λ (d : Database). AreKeyed version_1_schema d.trees) (sym now) holds.keyed;
    stands = subst (λ (d : Database). StandsForVersion1 d.trees books) (sym now) holds.stands;
  };
  settled = committed ∙ sym now;
}
