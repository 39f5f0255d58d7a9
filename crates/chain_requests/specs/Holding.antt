-- The state of a chain, as its callers see it.
use Rattle.std.specs.Prelude.{ℕ, Bool, refl}
use Rattle.std.specs.Coded.{Coded, code_by, coded×, coded_ℕ, coded_bool}
use Rattle.sqlite.specs.Held.{Held, held_code}
use Rattle.chain_caches.specs.Films.{KnownFilms, entries_code}
use Rattle.chain_caches.specs.Callers.{KnownCallers, callers_code}
use Rattle.shop_types.specs.LimitValues.{Limits}
use Rattle.shop_model.specs.Books.{Books}

-- the limits, whether the store has failed, the films and callers that the chain knows, and the connection to the store
pub record Chained (S : Type 0) : Type 0 where
  pub limits : Limits
  pub is_failed : Bool
  pub films : KnownFilms
  pub callers : KnownCallers
  pub conn : Held S

-- two chains are the same if all their parts are
abbrev pub chained_code : {S : Type 0} → Coded S → Coded (Chained S)
chained_code {S} store =
    code_by ((ℕ × ℕ) × (Bool × (KnownFilms × (KnownCallers × Held S))))
    (coded× (coded× coded_ℕ coded_ℕ) (coded× coded_bool (coded× entries_code (coded× callers_code (held_code store)))))
    (λ c. ((c.limits.commands, c.limits.copies), (c.is_failed, (c.films, (c.callers, c.conn)))))
    (λ p. record { limits = record { commands = p.0.0; copies = p.0.1 }; is_failed = p.1.0; films = p.1.1.0; callers = p.1.1.1.0; conn = p.1.1.1.1 })
    (λ _. refl)

-- The same state, with the books of all branches instead of the store and of the known films and callers. Once the store has failed, a crash leaves `books` or
-- `besides`. Until then both are the same.
pub record Holding : Type 0 where
  pub limits : Limits
  pub is_failed : Bool
  pub books : Books
  pub besides : Books

abbrev pub holding : {S : Type 0} → Chained S → Books → Books → Holding
holding chain books besides = record { limits = chain.limits; is_failed = chain.is_failed; books = books; besides = besides }
