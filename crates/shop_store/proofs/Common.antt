-- The names that most proofs on statements cite, passed on from one place. Declares nothing.
unfoldable pub use Rattle.sqlite.specs.Listing.{understood}
unfoldable pub use Rattle.sqlite_tied.specs.Compute.{everything}
pub use Rattle.sqlite.specs.State.{Shown}
pub use Rattle.sqlite.specs.declared.types.Value.TheVariants.{Text}
pub use Rattle.shop_schema.proofs.Common.{◌≡◌, ◌==◌, ◌&&◌, ℕ, List, [], ◌∷◌, Bool, true, arith, refl, col, column, number_value, flag_value, moment_value}
pub use Rattle.shop_schema.proofs.Common.{state_value, number_test, number_tested, two_tested, Row, is_of, Reads}
pub use Rattle.shop_schema.proofs.Listed.{PutsLast, PutsNext, puts_last, puts_next}
pub use Rattle.shop_ledger.proofs.Doing.{does_first, does_so}
pub use Rattle.shop_ledger.proofs.Equals.{equals, of_two}
pub use Rattle.shop_store.proofs.BranchRows.{PutsRow, ReadsOne, ReadsWhich, SetsWhere, puts_row, reads_one, reads_sorted, reads_which, sets_held, sets_one}
pub use Rattle.shop_store.proofs.BranchRows.{wide}
pub use Rattle.shop_store.proofs.BranchTables.{copies, customers, lots, payments, rentals, terms}
pub use Rattle.shop_store.proofs.ByNumber.{actors, branches, categories, cities, countries, films, languages, staff}
pub use Rattle.shop_store.proofs.SharedReads.{ReadsFirst, ReadsWhether, reads_first, reads_whether}
pub use Rattle.shop_store.proofs.SharedSets.{SetsByNumber, sets_by_number}
pub use Rattle.shop_store.proofs.Whether.{ReadsName, any_own, reads_any, reads_name, reads_text, tells}
