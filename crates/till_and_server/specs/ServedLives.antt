-- The lives of a served chain.
use Rattle.std.specs.Prelude.{Bool, List, map}
use Rattle.shop_model.specs.Stops.{Life}
use Rattle.counter_routes.specs.Words.{Meaning}
use Rattle.counter_http.specs.Exchanges.{Exchange, events_of, answers_of}

-- A chain's exchanges over all its connections, from its opening until it was closed or stopped, and the meaning of head office's words then.
-- `acted` says whether the request at which the store failed had acted all the same.
pub record ServedLife : Type 0 where
  pub meaning : Meaning
  pub exchanges : List Exchange
  pub acted : Bool

abbrev pub life_of : ServedLife → Life
life_of life = record { events = events_of life.meaning life.exchanges; answers = answers_of life.exchanges; acted = life.acted }

abbrev pub lives_of : List ServedLife → List Life
lives_of lives = map life_of lives
