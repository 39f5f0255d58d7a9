use Rattle.shop_types.proofs.Common.{◌≡◌, refl, map, string_bytes, None}
use Rattle.shop_types.specs.declared.line.Usage.TheVariants.{Memory}
use Rattle.shop_model.specs.Refusals.{Usage}
use Rattle.counter_routes.proofs.office.read_words.Goals as goal
use Rattle.counter_routes.proofs.office.read_words.Goals.{in-Words, in-Memory}

pub returns-in-None : goal.returns-in-None
returns-in-None g c = (Usage, refl, rw (c.in-Ok.ensures.ok, ← c.in-None.ensures) refl, refl)

pub returns-after-fault : goal.returns-after-fault
returns-after-fault g c = elim c.match-fault.branch [
  | in-Words w ↦
      let other : ¬ (c.in-Err.fault ≡ Memory) = λ e. let is = w.in-Words.is in cc in
      let none : g.O.OfficeWords.meaning c.args.words.now (map string_bytes c.args.texts.now) ≡ None = c.in-Err.ensures.refused other in
      rw w.result-is (Usage, refl, rw none refl, refl)
  | in-Memory w ↦ rw w.result-is tt
]
