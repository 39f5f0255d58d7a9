-- Chains that are well in memory.
use Rattle.shop_schema.proofs.Common.{inl, inr, refl, arith, no_doubt}
use Rattle.chain_engine.specs.Laws.{StaysWellInMemory}

-- over memory a chain that is well stays well
pub stays_well_in_memory : StaysWellInMemory
stays_well_in_memory old new books besides at well it = elim (it.stays (no_doubt _ refl) books besides at well) [
  | inl still ↦ still
  | inr met ↦ absurd (omega (arith, met))
]
