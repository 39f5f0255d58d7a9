-- The fault of a book for each fault of the store.
use Rattle.till_files.specs.declared.faults.BookFault.{BookFault}
use Rattle.till_files.specs.declared.faults.BookFault.TheVariants as fault
use Rattle.sql_rows.specs.declared.fault.StoreFault.{StoreFault}
use Rattle.sql_rows.specs.declared.fault.StoreFault.TheVariants as stored

abbrev pub book_fault_for : StoreFault → BookFault
book_fault_for stored.Memory = fault.Memory
book_fault_for stored.Size = fault.Size
book_fault_for stored.Failed = fault.Store
