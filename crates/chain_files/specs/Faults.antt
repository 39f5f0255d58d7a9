-- The faults that stop the opening of a chain: each fault's name, and the fault of opening for each fault of the store.
use Rattle.std.specs.Prelude.{◌≡◌, ◌⊎◌, ℕ, Bool, true, false, List, codes}
use Rattle.chain_files.specs.declared.faults.OpenFault.{OpenFault}
use Rattle.chain_files.specs.declared.faults.OpenFault.TheVariants as fault
use Rattle.sql_rows.specs.declared.fault.StoreFault.{StoreFault}
use Rattle.sql_rows.specs.declared.fault.StoreFault.TheVariants as stored

abbrev pub fault_name : OpenFault → List ℕ
fault_name fault.Memory = codes "memory"
fault_name fault.Size = codes "size"
fault_name fault.Store = codes "store_failed"
fault_name fault.NotAChain = codes "not_a_chain"
fault_name fault.OtherVersion = codes "other_version"
fault_name fault.Damaged = codes "damaged"
fault_name fault.Already = codes "already"

abbrev pub open_fault_for : StoreFault → OpenFault
open_fault_for stored.Memory = fault.Memory
open_fault_for stored.Size = fault.Size
open_fault_for stored.Failed = fault.Store

-- the store couldn't do its part
abbrev pub is_store_fault : OpenFault → Bool
is_store_fault fault.Memory = true
is_store_fault fault.Size = true
is_store_fault fault.Store = true
is_store_fault _ = false

-- a path has no file
abbrev pub IsMissing : OpenFault → Type 0
IsMissing why = why ≡ fault.NotAChain

-- a path's files couldn't be opened
abbrev pub IsUnopened : OpenFault → Type 0
IsUnopened why = (why ≡ fault.Memory) ⊎ (why ≡ fault.Store)
