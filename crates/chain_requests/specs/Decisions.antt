-- What the store answers instead of a decision.
use Rattle.std.specs.Prelude.{◌≡◌, ◌⊎◌, true, false, Some, Bool, Result, Ok, Err, List, ℕ}
use Rattle.shop_model.specs.Machine.{Request}
use Rattle.shop_model.specs.Books.{Caller, caller_of}
use Rattle.shop_types.specs.declared.audit.Audit.{Audit}
use Rattle.shop_types.specs.declared.request.Caller.{Caller as Known}
use Rattle.shop_types.specs.declared.refusal.Refusal.{Refusal}
use Rattle.shop_types.specs.declared.refusal.Refusal.TheVariants.{Memory, Size, StoreFailed}
use Rattle.shop_types.specs.Seen.{seen_caller}
use Rattle.sql_rows.specs.declared.fault.StoreFault.{StoreFault}
use Rattle.sql_rows.specs.declared.fault.StoreFault.TheVariants as fault
use Rattle.chain_requests.specs.Holding.{Holding}
use Rattle.chain_requests.specs.Chains.{failed_at}
use Rattle.chain_requests.specs.Audits.{IsAuditOfBooks}

-- out of memory or room, the chain stays as it was; once the store has failed, it fails at all later calls
abbrev pub IsStoreRefusal : Refusal → Holding → Holding → Type 0
IsStoreRefusal refusal old new =
    (((refusal ≡ Memory) ⊎ (refusal ≡ Size)) × (new ≡ old) × (old.is_failed ≡ false)) ⊎ ((refusal ≡ StoreFailed) × (new ≡ record old { is_failed = true }))

-- the same at a request: if the store fails at the request, a crash may leave the books after the request, too
abbrev pub IsStoreRefusalAt : Caller → Request → Refusal → Holding → Holding → Type 0
IsStoreRefusalAt caller request refusal old new =
    (((refusal ≡ Memory) ⊎ (refusal ≡ Size)) × (new ≡ old) × (old.is_failed ≡ false)) ⊎ ((refusal ≡ StoreFailed) × (new ≡ failed_at caller request old))

-- the token's caller is found, and nothing changes; or the store refuses
abbrev pub FindsCaller : List ℕ → Result Known Refusal → Holding → Holding → Type 0
FindsCaller token (Ok caller) old new = (seen_caller caller ≡ caller_of (Some token) old.books.catalogue) × (new ≡ old) × (old.is_failed ≡ false)
FindsCaller token (Err refusal) old new = IsStoreRefusal refusal old new

-- the audit says that the chain's books are sound, and counts them, and nothing changes; or the store refuses
abbrev pub FindsAudit : Result Audit Refusal → Holding → Holding → Type 0
FindsAudit (Ok audit) old new = IsAuditOfBooks audit old.books × (new ≡ old) × (old.is_failed ≡ false)
FindsAudit (Err refusal) old new = IsStoreRefusal refusal old new

-- a refusal that the store gives
abbrev pub IsOfStore : Refusal → Type 0
IsOfStore refusal = (refusal ≡ Memory) ⊎ ((refusal ≡ Size) ⊎ (refusal ≡ StoreFailed))

-- the refusal for a fault of the store, and whether the fault is permanent
abbrev pub refusal_for : StoreFault → Refusal
refusal_for fault.Memory = Memory
refusal_for fault.Size = Size
refusal_for fault.Failed = StoreFailed

abbrev pub is_final : StoreFault → Bool
is_final fault.Memory = false
is_final fault.Size = false
is_final fault.Failed = true
