-- What the INSERT of a count makes of the counts.
use Rattle.shop_schema.proofs.Common.{ℕ, Ok, refl, ap, ⊤, map_push, State, ExecutesInside, counter_table, counter_columns, Count, add_count, Tallies}
use Rattle.sqlite_tied.specs.Compute.{everything}
use Rattle.sqlite.specs.Listing.{understood}
use Rattle.shop_schema.proofs.Stands.{rows_of, with_rows}
use Rattle.shop_schema.proofs.Listed.{tallies_put}
use Rattle.shop_ledger.specs.declared.counts.TheConstants.{INSERT_COUNT}

pub tallies_put_count : (old new : State) (c : Count) (count : ℕ)
    → ExecutesInside 0 INSERT_COUNT.now (counter_columns c) old new (Ok count) → Tallies old new (λ _. ⊤) (add_count c) (λ _. ⊤)
unfolding understood everything
tallies_put_count old new c =
    tallies_put 18 counter_table (record { place = refl; uncounted = refl; unstamped = refl }) refl INSERT_COUNT.now
    (record { is = refl; plain = (refl, refl) }) (counter_columns c) refl refl refl (λ id. refl) (add_count c)
    (λ counts books. ap (λ rows. with_rows 18 rows (rows_of counts books)) (map_push counter_columns counts.counters c)) old new
