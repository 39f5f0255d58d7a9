-- The books that a chain has after one call or several.
use Rattle.shop_schema.proofs.Common.{Ghosts, Books}
use Rattle.chain_requests.specs.Holding.{Chained, Holding, holding}
use Rattle.chain_requests.specs.Chains.{Takes}

-- nothing is done, whatever the books are
pub takes_still : {S : Type 0} {g : Ghosts S} {chain : Chained S} {P : Holding → Holding → Type 0}
    → ((books besides : Books) → P (holding chain books besides) (holding chain books besides)) → Takes g chain chain P
takes_still {S} {g} {chain} {P} is = record {
  clean = λ now. now;
  goes = λ now books besides at. (books, besides, is books besides, at);
}

-- nothing is done
pub takes_same : {S : Type 0} {g : Ghosts S} {chain : Chained S} {P : Holding → Holding → Type 0} → ((held : Holding) → P held held) → Takes g chain chain P
takes_same {S} {g} {chain} {P} is = takes_still (λ books besides. is (holding chain books besides))

-- a weaker statement holds, too
pub takes_as : {S : Type 0} {g : Ghosts S} {old new : Chained S} {P Q : Holding → Holding → Type 0}
    → Takes g old new P → ((before after : Holding) → P before after → Q before after) → Takes g old new Q
takes_as {S} {g} {old} {new} {P} {Q} taken tell = record {
  clean = taken.clean;
  goes = λ now books besides at. let it = taken.goes now books besides at in (it.0, it.1, tell (holding old books besides) (holding new it.0 it.1) it.2, it.3);
}

-- one after another
pub takes_then : {S : Type 0} {g : Ghosts S} {old mid new : Chained S} {P Q R : Holding → Holding → Type 0}
    → Takes g old mid P → Takes g mid new Q → ((before between after : Holding) → P before between → Q between after → R before after) → Takes g old new R
takes_then {S} {g} {old} {mid} {new} {P} {Q} {R} first second tell = record {
  clean = λ now. first.clean (second.clean now);
  goes = λ now books besides at.
      let one = first.goes (second.clean now) books besides at in
      let two = second.goes now one.0 one.1 one.3 in
      (two.0, two.1, tell (holding old books besides) (holding mid one.0 one.1) (holding new two.0 two.1) one.2 two.2, two.3);
}
