use Rattle.shop_schema.proofs.Common.{refl, false≢true, empty_sound}
use Rattle.chain_caches.proofs.FilmRows.{no_rows}
use Rattle.chain_caches.proofs.CallerSteps.{no_callers}
use Rattle.chain_requests.specs.Chains.{widest_rules}
use Rattle.chain_engine.proofs.chain.Chain+MemStore.memory.Goals as goal

pub returns-in-Ok-clause-made : goal.returns-in-Ok-clause-made
returns-in-Ok-clause-made c =
    rw c.over.ensures (
      refl,
      refl,
      record {
        sound = empty_sound widest_rules c.args.office.now;
        values = c.first_values.ensures;
        films = no_rows _ _ refl;
        callers = no_callers _ _ refl;
        rests = λ _. c.in-Ok.ensures.made;
        alone = λ _. refl;
        left = λ failed. absurd (false≢true failed);
      },
    )

pub returns-in-Ok-clause-well : goal.returns-in-Ok-clause-well
returns-in-Ok-clause-well c = rw c.over.ensures (record { works = refl; ready = c.in-Ok.ensures.ready })
