-- The names that most proofs cite from here on, passed on from one place. Declares nothing.
pub use Rattle.std.proofs.Common.{Bool, Bor, Equal, Err, Greater, IsPermutation, IsSorted, IsTrue, Less, List, None, Ok, OnOk, Option, Ordering, Result, Some}
pub use Rattle.std.proofs.Common.{[], add-one, ap, append-nil, append_assoc, arith, codes, cond, drop, false, filter, get_or, inl, inr, int_cmp, is_eq, is_lt}
pub use Rattle.std.proofs.Common.{length, map, negsuc, not, pos, refl, rules, slice_get, subst, subst₂, suc, sum_by, sym, take, true, true≢false, zero, ℕ, ℤ}
pub use Rattle.std.proofs.Common.{◌&&◌, ◌++◌, ◌+◌, ◌/◌, ◌<ℤ◌, ◌<◌, ◌==◌, ◌^◌, ◌||◌, ◌∙◌, ◌∷◌, ◌≡◌, ◌≢◌, ◌≤◌, ◌⊎◌}
pub use Rattle.std.proofs.Math.Logic.{∥∥₁_elim, ∥∥₁_map}
pub use Rattle.std.proofs.lemmas.Bool.{and_parts, cases_Bool, cases_eq, false≢true, not-true}
pub use Rattle.std.proofs.lemmas.Bool.Decides.{nat_tests}
pub use Rattle.std.proofs.lemmas.Int.{ints}
pub use Rattle.std.proofs.lemmas.List.{map_push, take_more}
pub use Rattle.std.proofs.lemmas.List.Sorted.{IsPermutation-cons, IsPermutation-map, IsPermutation-middle, IsPermutation-refl, IsPermutation-sym}
pub use Rattle.std.proofs.lemmas.List.Sorted.{IsPermutation-to_front, IsPermutation-trans, length_permutation, sum_by-IsPermutation}
pub use Rattle.std.proofs.lemmas.Result.{IfOk-weaker}
pub use Rattle.std.specs.Borrow.{MutBor}
pub use Rattle.std.specs.List.{AllByRecursion, AllZip, filter_map, flat_map, list_all}
pub use Rattle.std.specs.Option.{option_to_list}
pub use Rattle.std.specs.Ordering.{is_ge, is_gt, match_ordering, nat_cmp}
pub use Rattle.std.specs.Prelude.{IfOk, IsErr, IsErrAnd, IsOk, if◌then◌else◌, option_map, ⊤}
pub use Rattle.sqlite.proofs.Callers.{IsPlain, command_of, one_permutation, one_step, reads_as, runs_as, statement_of, survives_begin, unchanged_then}
pub use Rattle.sqlite.proofs.InsideLemmas.{keeps_then}
pub use Rattle.sqlite.proofs.StateLemmas.{survives_then, survives_weaker}
pub use Rattle.sqlite.specs.Change.{created, next_tree}
pub use Rattle.sqlite.specs.Command.{Command}
pub use Rattle.sqlite.specs.Command.TheVariants.{CreateIndex, CreateTable, Delete, Insert, InsertOr, Select, Update}
pub use Rattle.sqlite.specs.Does.{Concludes, Defines, Does, OnRows, Tally, lacks_sequence}
pub use Rattle.sqlite.specs.Effect.{Answers, Database, value_rows}
pub use Rattle.sqlite.specs.Given.{Advances, HasBegun, HasGiven, Returns}
pub use Rattle.sqlite.specs.Held.{Held, state}
pub use Rattle.sqlite.specs.Listing.{IsSourceOf, if_select, is_select, listing_schema, reads_listing}
pub use Rattle.sqlite.specs.Rows.{Clears, Counts, Deletes, Edited, Inserts, InsertsOr, Judged, Meets, Task, Tries, TriesEach, Updates, Upserts, Written}
pub use Rattle.sqlite.specs.Rows.{count_of, joined, nothing, rowids_for, shown, stamped}
pub use Rattle.sqlite.specs.Schema.{Schema}
pub use Rattle.sqlite.specs.Source.TheVariants.{Values}
pub use Rattle.sqlite.specs.State.{Executes, ExecutesInside, Fails, FailsToShow, HasCleanDisk, IsRolledBack, IsTooLate, IsUnchanged, KeepsCommit, Shows}
pub use Rattle.sqlite.specs.State.{ShowsRows, State, Survives, Writes, mode_of}
pub use Rattle.sqlite.specs.Table.{Table}
pub use Rattle.sqlite.specs.Values.{bound, or_null}
pub use Rattle.sqlite.specs.declared.error.Error.{Error}
pub use Rattle.sqlite.specs.declared.error.Error.TheVariants.{SqliteFailure}
pub use Rattle.sqlite.specs.declared.error.ErrorCode.TheVariants.{TransactionState}
pub use Rattle.sqlite.specs.declared.run.Mode.{Mode}
pub use Rattle.sqlite.specs.declared.types.Value.{Value}
pub use Rattle.sqlite.specs.declared.types.Value.TheVariants.{Blob, Int, Null, Real, Text}
pub use Rattle.sqlite_catalog.specs.Listing.{AreListed, IsDefined, IsIndexRow, IsSound, IsTableRow, IsViewRow, automatic, is_index_row, is_table_row}
pub use Rattle.sqlite_catalog.specs.Listing.{is_view_row}
pub use Rattle.sqlite_keyed.proofs.KeyedLemmas.{Less-from_lt, lt_from_Less}
pub use Rattle.sqlite_keyed.proofs.ListLemmas.{IsPermutation-filter, IsPermutation-flat_map, IsPermutation-flat_map_each, all-append, all-filter, all-map}
pub use Rattle.sqlite_keyed.proofs.ListLemmas.{all-slice_get, all_unmap, along_permutation, ascending-map, ascending_weaker, filter-map, filter_same}
pub use Rattle.sqlite_keyed.proofs.ListLemmas.{flat_map-map, flat_map_same_on, map-flat_map, map-map, map_same}
pub use Rattle.sqlite_keyed.proofs.SortLemmas.{sort_by-map, sorted_is-sort_by}
pub use Rattle.sqlite_keyed.specs.Keyed.{IsKeyedBy}
pub use Rattle.sqlite_keyed.specs.Lists.{delete_where, insert_sorted, sort_by, update_where}
pub use Rattle.sqlite_resolve.specs.declared.compiled.Compiled.{Compiled}
pub use Rattle.sqlite_resolve.specs.declared.error.CompileError.{CompileError}
pub use Rattle.sqlite_rules.proofs.ActionLemmas.{no_works}
pub use Rattle.sqlite_rules.specs.Calls.{ids_of}
pub use Rattle.sqlite_rules.specs.Cast.{cast, cast_all, cast_row}
pub use Rattle.sqlite_rules.specs.Edit.{Applies, Edit, are_fresh, edit_of, edited, have_rowids, id_in, is_taken, left_by, next_rowid, numbered, put_all}
pub use Rattle.sqlite_rules.specs.Edit.{taken_by, with_rowid, without_all}
pub use Rattle.sqlite_rules.specs.Lists.{Has}
pub use Rattle.sqlite_rules.specs.declared.error.Rowids.{Rowids}
pub use Rattle.sqlite_rules.specs.declared.error.Rowids.TheVariants.{Chosen, Given}
pub use Rattle.sqlite_schema.specs.declared.command.Returning.{Returning}
pub use Rattle.sqlite_schema.specs.declared.program.Program.{Program}
pub use Rattle.sqlite_schema.specs.declared.schema.Index.{Index}
pub use Rattle.sqlite_schema.specs.declared.schema.Keys.TheVariants.{Enforced}
pub use Rattle.sqlite_sql.proofs.QueryLemmas.{output_cmp_total}
pub use Rattle.sqlite_sql.specs.Ops.{from_truth, is_true}
pub use Rattle.sqlite_sql.specs.Program.{overlay}
pub use Rattle.sqlite_sql.specs.Query.{IsAnswer, Join, Output, Query, counted, end, folded, inner, left, made, matches, or_nulls, output, output_cmp, page}
pub use Rattle.sqlite_sql.specs.Term.{Env, Term, col, eval_all, holds, lit, op2}
pub use Rattle.sqlite_sql.specs.declared.ops.BinaryOp.TheVariants.{Compare}
pub use Rattle.sqlite_sql.specs.declared.ops.CompareOp.TheVariants.{Eq, Ge, Lt}
pub use Rattle.sqlite_trees.proofs.ListLemmas.{all-permutation}
pub use Rattle.sqlite_trees.specs.Objects.{catalog_tree}
pub use Rattle.sqlite_trees.specs.Tree.{IsAscending, Trees, has_rowid, put_row, rowid, without_rowid}
pub use Rattle.sqlite_trees.specs.View.{IsShaped, is_int}
pub use Rattle.sqlite_trees.specs.declared.store.Store.{Ghosts}
pub use Rattle.sqlite_value.proofs.OrderLemmas.{then-Equal, value_cmp-Int, value_cmp-Text}
pub use Rattle.sqlite_value.specs.Keys.{ascending}
pub use Rattle.sqlite_value.specs.Order.{Row, column, value_cmp}
pub use Rattle.sqlite_value.specs.declared.keys.Collation.TheVariants.{Binary}
pub use Rattle.sqlite_value.specs.declared.keys.Key.{Key}
pub use Rattle.sql_rows.specs.Books.{Changes, IsKeyed, IsOf, no_schema}
pub use Rattle.sql_rows.specs.Builds.{Builds, MakeAll, Makes, MakesIndex, Means}
pub use Rattle.sql_rows.specs.Calls.{DoesInside, DoesWithin, Holds, StaysInside, StaysSame, StaysWithin}
pub use Rattle.sql_rows.specs.Fault.{IsToldOf, OneGave, StatementGave}
pub use Rattle.sql_rows.specs.Rows.{AreKeyed, Differ, HasRows, PicksOne, SameBut, by, columns_from, columns_of, flag_value, number_value}
pub use Rattle.sql_rows.specs.Texts.{IsQuery, ShowsOnly}
pub use Rattle.sql_rows.specs.declared.fault.StoreFault.{StoreFault}
