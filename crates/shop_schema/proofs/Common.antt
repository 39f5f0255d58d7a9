-- The names that most proofs cite from here on, passed on from one place. Declares nothing.
pub use Rattle.std.proofs.ByRecursion.{All-append, All-map, All-push, All-weaker}
pub use Rattle.std.proofs.Common.{Bool, Bor, Equal, Err, Greater, IsAscii, IsPermutation, IsSorted, IsTrue, IsUtf8, Less, List, None, Ok, OnOk, Option}
pub use Rattle.std.proofs.Common.{Ordering, Result, Some, [], add-one, add-zero, ap, append-nil, append_assoc, ap₂, arith, codes, cond, decimal, drop}
pub use Rattle.std.proofs.Common.{drop-cons, eqb-true, false, filter, get_or, inl, inr, is_eq, is_gt, is_lt, length, length-append, map, negsuc, not}
pub use Rattle.std.proofs.Common.{option_map, pos, refl, replicate, rules, set, subst, subst₂, suc, sym, take, true, true≢false, vec_capacity, vec_len, zero, ℕ}
pub use Rattle.std.proofs.Common.{ℤ, ◌%◌, ◌&&◌, ◌*◌, ◌++◌, ◌+◌, ◌-◌, ◌/◌, ◌<◌, ◌==◌, ◌^◌, ◌||◌, ◌↔◌, ◌∙◌, ◌∷◌, ◌≡◌, ◌≢◌, ◌≤◌}
pub use Rattle.std.proofs.KnownBytes.{Keeps-refl}
pub use Rattle.std.proofs.Math.Bool.{and_comm, or-false, or-true}
pub use Rattle.std.proofs.Math.Logic.{∥∥₁_elim, ∥∥₁_map}
pub use Rattle.std.proofs.lemmas.Bool.{and_parts, cases_Bool, cases_eq, cases_lt, false≢true, le-leb, leb-true, ltb-true, ne_eqb, not-true, or_left, or_right}
pub use Rattle.std.proofs.lemmas.Bool.Decides.{Decides-like, nat_tests, same_from_decides}
pub use Rattle.std.proofs.lemmas.Cmp.{back_total, nat_cmp_total, nat_eq_equiv, nat_list_cmp_total, on_total, then_total, tied_itself}
pub use Rattle.std.proofs.lemmas.Fmt.{IsAscii-decimal}
pub use Rattle.std.proofs.lemmas.Grind.{flat_map-append}
pub use Rattle.std.proofs.lemmas.List.{drop-set, drop_all, length-replicate, length-take-le, length_push, map-append, map-id, map_more, map_push}
pub use Rattle.std.proofs.lemmas.List.{replicate-append-replicate, take-append-drop, take-set, take_all, take_more}
pub use Rattle.std.proofs.lemmas.List.Elements.{All-nil, filter-append, filter_more}
pub use Rattle.std.proofs.lemmas.List.Folds.{list_all-append, list_any-append, list_any_more}
pub use Rattle.std.proofs.lemmas.List.Sorted.{IsNonDecreasingBy-from_sort, IsPermutation-append, IsPermutation-append_comm, IsPermutation-append_left}
pub use Rattle.std.proofs.lemmas.List.Sorted.{IsPermutation-append_right, IsPermutation-cons, IsPermutation-map, IsPermutation-middle, IsPermutation-refl}
pub use Rattle.std.proofs.lemmas.List.Sorted.{IsPermutation-sym, IsPermutation-to_front, IsPermutation-trans, answers_always, length_permutation}
pub use Rattle.std.proofs.lemmas.List.Sorted.{list_any-IsPermutation, ranks_by, searched}
pub use Rattle.std.proofs.lemmas.List.Sums.{sum_by-append, sum_by-cons, sum_by_push}
pub use Rattle.std.proofs.lemmas.Option.{cond_some}
pub use Rattle.std.proofs.lemmas.Result.{IfOk-weaker, on_err_weaker}
pub use Rattle.std.proofs.lemmas.Slice.Eq.{bytes_eq-Decides}
pub use Rattle.std.proofs.lemmas.Str.{IsAscii-append, IsUtf8-from_ascii}
pub use Rattle.std.proofs.lemmas.Str.Ascii.{IsAscii-cons, IsAscii-nil}
pub use Rattle.std.specs.Borrow.{MutBor}
pub use Rattle.std.specs.Cmp.{IsTotalOrder, nat_cmp_is, ranks}
pub use Rattle.std.specs.Cmp.Lexicographic.{slice_cmp}
pub use Rattle.std.specs.List.{All, AllByRecursion, AllZip, flat_map, fold, join_by, list_all, list_any, remove}
pub use Rattle.std.specs.List.Sorted.{IsBinarySearchResult, IsSortedByKey}
pub use Rattle.std.specs.Option.{option_copied, option_to_list}
pub use Rattle.std.specs.Ordering.{MatchOrdering, is_ge, is_le, nat_cmp, ordering_reverse, ordering_then}
pub use Rattle.std.specs.Prelude.{IfErr, IfOk, IfSome, IsErrAnd, IsOk, MatchResult, Vec, if◌then◌else◌, int_le, is_none, is_ok, is_some, nat_le, nat_lt}
pub use Rattle.std.specs.Prelude.{slice_get, string_bytes, sum_by, unwrap_or, zip, ⊤, ◌⊎◌}
pub use Rattle.std.specs.Str.{bytes_eq}
pub use Rattle.std.specs.declared.alloc.Global.{Global}
pub use Rattle.sqlite.proofs.Callers.{one_permutation, survives_begin, unchanged_then}
pub use Rattle.sqlite.proofs.StateLemmas.{survives_then, survives_weaker}
pub use Rattle.sqlite.proofs.Theorems.{opens_again}
pub use Rattle.sqlite.specs.Command.TheVariants.{Delete, Insert, Update}
pub use Rattle.sqlite.specs.Effect.{Database, value_rows}
pub use Rattle.sqlite.specs.Files.{Finds, HoldsDatabase, IsEmpty, IsOpened, file_state, image_of, over_files}
pub use Rattle.sqlite.specs.Held.{AreDatabases, Held, state}
pub use Rattle.sqlite.specs.Schema.{Schema}
pub use Rattle.sqlite.specs.Source.TheVariants.{Values}
pub use Rattle.sqlite.specs.State.{ExecutesInside, HasCleanDisk, IsRolledBack, IsUnchanged, KeepsCommit, State, Survives}
pub use Rattle.sqlite.specs.Table.{Table}
pub use Rattle.sqlite.specs.Values.{or_null}
pub use Rattle.sqlite.specs.declared.types.Value.{Value}
pub use Rattle.sqlite.specs.declared.types.Value.TheVariants.{Blob, Int, Null, Real}
pub use Rattle.sqlite_catalog.specs.Listing.{AreListed, IsIndexRow, IsTableRow, IsViewRow}
pub use Rattle.sqlite_keyed.proofs.ListLemmas.{IsPermutation-filter, IsPermutation-flat_map, IsPermutation-flat_map_each, IsPermutation-same, all-append}
pub use Rattle.sqlite_keyed.proofs.ListLemmas.{all-filter, all-flat_map, all-map, all-slice_get, all_both, all_from_test, all_map, all_of, all_weaker}
pub use Rattle.sqlite_keyed.proofs.ListLemmas.{along_permutation, ascending-append, ascending-filter, ascending-map, ascending_weaker, filter-map, filter_none}
pub use Rattle.sqlite_keyed.proofs.ListLemmas.{filter_same, flat_map-map, flat_map_none, flat_map_same_on, map-flat_map, map-map, none_from_any}
pub use Rattle.sqlite_keyed.proofs.SortLemmas.{IsPermutation-sort_by, sorted_unique}
pub use Rattle.sqlite_keyed.specs.Lists.{insert_sorted, sort_by, update_where}
pub use Rattle.sqlite_rules.specs.Cast.{cast, cast_all, cast_row}
pub use Rattle.sqlite_schema.specs.declared.schema.Index.{Index}
pub use Rattle.sqlite_sql.specs.Ops.{from_int, int_or, is_true, real_arith}
pub use Rattle.sqlite_sql.specs.Program.{overlay}
pub use Rattle.sqlite_sql.specs.Query.{IsAnswer, Join, Output, Query, end, inner, left, or_nulls, output, output_cmp}
pub use Rattle.sqlite_sql.specs.Term.{Term, col, eval_all, holds, lit, op2}
pub use Rattle.sqlite_sql.specs.declared.ops.ArithOp.TheVariants.{Add}
pub use Rattle.sqlite_sql.specs.declared.ops.BinaryOp.TheVariants.{Arith, Compare}
pub use Rattle.sqlite_sql.specs.declared.ops.CompareOp.TheVariants.{Eq, Ge, Lt}
pub use Rattle.sqlite_trees.proofs.Doubt.{no_doubt}
pub use Rattle.sqlite_trees.proofs.ListLemmas.{all-permutation}
pub use Rattle.sqlite_trees.specs.Props.{Trees-set}
pub use Rattle.sqlite_trees.specs.Tree.{IsAscending, Trees, rowid}
pub use Rattle.sqlite_trees.specs.View.{IsClean, IsShaped}
pub use Rattle.sqlite_trees.specs.declared.store.Store.{Ghosts}
pub use Rattle.sqlite_value.proofs.OrderLemmas.{then-Equal, value_cmp-Text}
pub use Rattle.sqlite_value.specs.Keys.{ascending}
pub use Rattle.sqlite_value.specs.Order.{column, value_cmp}
pub use Rattle.sqlite_value.specs.declared.keys.Collation.TheVariants.{Binary}
pub use Rattle.sqlite_value.specs.declared.keys.Key.{Key}
pub use Rattle.shop_model.proofs.CustodyLemmas.{apart_weight, low_none, made_once, total-append}
pub use Rattle.shop_model.proofs.EditLemmas.{AskedOfEach, by_none, by_table, each_keeps, grown, rows_edited}
pub use Rattle.shop_model.proofs.FoundLemmas.{at_one, found_none, found_some}
pub use Rattle.shop_model.proofs.GoodShops.{edits_small, length_set}
pub use Rattle.shop_model.proofs.Histories.{decided_failure, decided_is, failed_failure, failed_more, last_append, memory_failure, run_append, run_more}
pub use Rattle.shop_model.proofs.Histories.{run_none, size_failure}
pub use Rattle.shop_model.proofs.Isolation.{alone}
pub use Rattle.shop_model.proofs.Accepted.{catalogue_stays}
pub use Rattle.shop_model.proofs.Migration.{all_rows_have_one, migrated_sound, without_terms_sound}
pub use Rattle.shop_model.proofs.Resends.{failure_undecided, runs_resend}
pub use Rattle.shop_model.proofs.ActLaws.{bytes_same, command_same, flag_same, moment_same, option_same, person_same}
pub use Rattle.shop_model.proofs.RowLemmas.{differ_if, differ_test, equal_test, filter_filter, filter_map, length_map, map_at, map_map, more_no, more_yes}
pub use Rattle.shop_model.proofs.RowLemmas.{numbered_push, one_more, put_all_own, put_own, row_at, same_if, same_test, set_rows_counted}
pub use Rattle.shop_model.proofs.Soundness.{after_sound, empty_sound, opening_books_sound}
pub use Rattle.shop_model.specs.Answers.{Answer, accepted_answer, answer_of, arrivals_text, holder_text, problem_answer, problem_text, sent_text, transit_text}
pub use Rattle.shop_model.specs.Books.{Append, Arrived, BookCopy, Books, Caller, Consignment, CopyRows, Counter, Customers, Edit, Event, HeadOffice, Line}
pub use Rattle.shop_model.specs.Books.{LineState, Mark, Missing, Nobody, Payments, Put, PutLot, Rentals, RowOf, RowsOf, Set, TermRows, UnderWay, after}
pub use Rattle.shop_model.specs.Books.{after_for, all_edited, as_arrival, as_parcel, between, book_acted, book_done, branch_after, branch_with, caller_in}
pub use Rattle.shop_model.specs.Books.{caller_of, checked, checked_line, come, edited, edits_of, head, imported, is_consignment, is_counter, known_caller}
pub use Rattle.shop_model.specs.Books.{last_books, new_consignment, office_after, put_state, replies_to, reply_for, rows_at, rows_of, run, set_last, shop_of}
pub use Rattle.shop_model.specs.Books.{state_of, under_way, unmarked, unpacked, with_rows, opening}
pub use Rattle.shop_model.specs.Calendar.{IsMoment, Moment, days_in_month, days_in_year, digit, is_by, is_earlier, is_leap_year, moment_text, month_before}
pub use Rattle.shop_model.specs.Calendar.{month_days, same_moment}
pub use Rattle.shop_model.specs.Histories.{IsRun, IsStep, counted_in, fails_for_good, has_failed, is_answer, is_decided, is_store_failure}
pub use Rattle.shop_model.specs.Json.{array, comma_if, flag_text, items_text, numbers_text, object}
pub use Rattle.shop_model.specs.Links.{IsGoodCatalogue, NamesRowsOf, are_different, has_row, is_parcel}
pub use Rattle.shop_model.specs.Machine.{BalanceIs, CopiesAre, CustomerIs, CustomersAre, Do, Done, FilmIs, Gone, HereAt, HolderIs, InStockIs, Look, Office}
pub use Rattle.shop_model.specs.Machine.{OfficeLook, Reply, Request, Shows, Sorry, UnderWayTo, Unread, given, if_accepted, look, office_done, office_text}
pub use Rattle.shop_model.specs.Machine.{reply_by, reply_text, reply_to}
pub use Rattle.shop_model.specs.Migration.{IsSoundWithoutTerms, migrated, row_terms, without_terms}
pub use Rattle.shop_model.specs.Office.{custody_of, goes_before, office_look, place_of}
pub use Rattle.shop_model.specs.Opening.{north_light, opening_books, opening_branch, opening_catalogue, opening_staff, river_dawn, token_of}
pub use Rattle.shop_model.specs.Refusals.{BadThreshold, Decision, NoBranch, NoCopy, NoCounter, NoCustomer, NoFilm, NoRoute, Problem, StoreFailed}
pub use Rattle.shop_model.specs.Refusals.{problem_status}
pub use Rattle.shop_model.specs.Rows.{AreNumbered, IsCounted, Owned, Row, arrived, at, is_empty, is_of, is_row, lacks, mem, next, numbered, numbered_from, of}
pub use Rattle.shop_model.specs.Rows.{owned_by, put_all, set_at, set_row, set_rows, total}
pub use Rattle.shop_model.specs.Shop.{Catalogue, Kept, OfficeKept, Shop, same_numbers, same_option, same_person, same_rule}
pub use Rattle.shop_model.specs.OfficeActs.{same_branch, same_film, same_office, same_office_act, office_acted, office_told}
pub use Rattle.shop_model.specs.Acts.{same_act, same_command, arrival, is_away, is_film_withdrawn, films_in, here, incoming, numbers_from, parcels_to}
pub use Rattle.shop_model.specs.Sound.{HasCustody, HasNumbers, HasOwners, IsSound, all_lines, copy_is, is_mark, is_origin, line_is, made, one, places, rows_in}
pub use Rattle.shop_model.specs.Sound.{rows_made, transit, widest}
pub use Rattle.shop_model.specs.Stock.{balance, film_in_stock, film_not_in_stock, film_of, film_terms, held_by, in_stock, is_here, is_overdue, keeps_out}
pub use Rattle.shop_model.specs.Stock.{rewarded, rewarded_in, termed, terms_now}
pub use Rattle.shop_model.specs.Values.{Act, Actor, AddActor, AddBranch, AddCast, AddCategory, AddCity, AddCountry, AddCustomer, AddFilm, AddLanguage, AddStaff}
pub use Rattle.shop_model.specs.Values.{Arrival, Ask, Balance, Branch, ByCode, ByComment, Cast, ChooseRule, City, Command, Copies, Copy, CopyState, Customer}
pub use Rattle.shop_model.specs.Values.{Dispatch, Film, FilmInStock, FilmNotInStock, HeldBy, Here, Import, InStock, OfficeAct, OfficeAsk, OfficeCommand}
pub use Rattle.shop_model.specs.Values.{OneCustomer, OneFilm, Parcel, Pay, Payment, Person, PriceFilm, Receive, Rent, Rental, Rewards, Rule, Rules, Scrap}
pub use Rattle.shop_model.specs.Values.{Scrapped, Sent, SetActive, SetManager, Staff, StaffLeaves, Stock, TakeBack, Terms, Text, WithdrawFilm}
pub use Rattle.shop_model.specs.Verdict.{Accepted, Again, Refused, Verdict, office_verdict, verdict}
pub use Rattle.shop_model.specs.Views.{ActorRow, FilmRow, PersonRow, StoreRow, actor_row, categories_by_name, category_name, city_name, country_name}
pub use Rattle.shop_model.specs.Views.{customer_list, film_row, films_of, full_name, insert_by, is_before_text, is_cast, manager_name, overdue_list}
pub use Rattle.shop_model.specs.Views.{overdue_row, paid_rentals, person_name, person_row, sales_by_category, sales_of, sells_more, sorted_by, staff_list}
pub use Rattle.shop_model.specs.Views.{takings}
pub use Rattle.shop_types.proofs.AsciiTexts.{token_is_utf8}
pub use Rattle.shop_types.proofs.MomentLemmas.{moment_text-utf8}
pub use Rattle.shop_types.specs.LimitValues.{Limits, most_limits}
pub use Rattle.shop_types.specs.Texts.{is_key, is_text, is_token}
pub use Rattle.shop_types.specs.Decisions.{IsVerdict}
pub use Rattle.shop_types.specs.Films.{features_of, features_text, rating_of, rating_text}
pub use Rattle.shop_types.specs.Replies.{seen_reply}
pub use Rattle.shop_types.specs.Seen.{seen_act, seen_ask, seen_branch, seen_caller, seen_command, seen_customer, seen_line_state, seen_mark, seen_office}
pub use Rattle.shop_types.specs.Seen.{seen_office_act, seen_office_ask, seen_parcel_line, seen_payment, seen_person, seen_refusal, seen_rental, seen_request}
pub use Rattle.shop_types.specs.Seen.{seen_rule, seen_state, seen_terms}
pub use Rattle.shop_types.specs.declared.audit.Audit.{Audit}
pub use Rattle.shop_types.specs.declared.change.Change.{Change}
pub use Rattle.shop_types.specs.declared.film.Features.{Features}
pub use Rattle.shop_types.specs.declared.film.Rating.{Rating}
pub use Rattle.shop_types.specs.declared.parcel.ParcelLine.{ParcelLine}
pub use Rattle.shop_types.specs.declared.refusal.Refusal.{Refusal}
pub use Rattle.shop_types.specs.declared.refusal.Refusal.TheVariants.{BadCsv}
pub use Rattle.sql_rows.proofs.Appends.{are_kept, id_of, is_kept}
pub use Rattle.sql_rows.proofs.Bags.{all_typed, length-map, number_total, short_bag}
pub use Rattle.sql_rows.proofs.Chaining.{and_last, and_then, call, does_such, done, some_calls}
pub use Rattle.sql_rows.proofs.ColumnTests.{before_test, before_tested, from_test, from_tested, kept_or_null, number_or_null, number_test, number_tested}
pub use Rattle.sql_rows.proofs.ColumnTests.{one_tested, same_flag, same_number, same_or_null, test_of, text_test, text_tested, three_tested, two_tested}
pub use Rattle.sql_rows.proofs.Creates.{indexes_one, makes_one, next_of}
pub use Rattle.sql_rows.proofs.Deciding.{Decided, decided, in_any, one_bag}
pub use Rattle.sql_rows.proofs.Found.{found_then}
pub use Rattle.sql_rows.proofs.Inside.{on_ok_then, shown_same, survives_nothing}
pub use Rattle.sql_rows.proofs.Joins.{Climbs, are_equal, equals, few_list, joined_bag, joined_query, joined_rows, left_bag, left_key, left_no_key, left_no_pair}
pub use Rattle.sql_rows.proofs.Joins.{left_pair, or_blank, shown_of}
pub use Rattle.sql_rows.proofs.OfKind.{unmapped_kind}
pub use Rattle.sql_rows.proofs.Opened.{opened_keyed}
pub use Rattle.sql_rows.proofs.Projects.{projects_bag, projects_count, projects_one, projects_sorted, still_holds, writes_by}
pub use Rattle.sql_rows.proofs.Puts.{IsPlainTable}
pub use Rattle.sql_rows.proofs.Queries.{Selects, answers, kept_as_map, number_cmp, plain_query, reads_sorted, unmapped}
pub use Rattle.sql_rows.proofs.Showing.{MeansShowing}
pub use Rattle.sql_rows.proofs.Stays.{clean_before, clean_within, inside_as, inside_err, inside_then, inside_when, same_as, same_err, same_then, survives_more}
pub use Rattle.sql_rows.proofs.Stays.{was_clean, within_as, within_err, within_none, within_of, within_then, within_when}
pub use Rattle.sql_rows.proofs.Steps.{HasPut, has_put, selects_bag, selects_one, selects_sorted, sets_row}
pub use Rattle.sql_rows.proofs.TextLemmas.{is_query}
pub use Rattle.sql_rows.proofs.Unique.{one_schema}
pub use Rattle.sql_rows.proofs.Upserts.{passing, upserting, upserts_and_tells}
pub use Rattle.sql_rows.proofs.Whole.{crash_new, dropped}
pub use Rattle.sql_rows.specs.Books.{Changes, IsOf, no_schema}
pub use Rattle.sql_rows.specs.Builds.{Builds, MakeAll, Makes, MakesIndex, Means}
pub use Rattle.sql_rows.specs.Calls.{DoesWithin, StaysInside, StaysWithin}
pub use Rattle.sql_rows.specs.Files.{HoldsNoTable, HoldsOne, IsFoundIn, IsHeldIn, OpenFailed}
pub use Rattle.sql_rows.specs.Rows.{AreKeyed, Differ, HasRows, PicksOne, SameBut, by, columns_from, columns_of, flag_value, number_value}
pub use Rattle.sql_rows.specs.Terms.{cols, values}
pub use Rattle.sql_rows.specs.Texts.{IsQuery}
pub use Rattle.sql_rows.specs.declared.fault.StoreFault.{StoreFault}
pub use Rattle.sql_rows.specs.declared.fault.StoreFault.TheVariants.{Failed, Memory, Size}
pub use Rattle.shop_schema.specs.Bare.{HaveFirst, IsPlain, begun}
pub use Rattle.shop_schema.specs.Counts.{Count, Counts, Out, Pair, add_count, add_pair, branch_counts, count_in, count_of, count_pair, counts_of, drop_out}
pub use Rattle.shop_schema.specs.Counts.{is_count, is_open, is_out, is_out_by, is_pair, last_of, new_count, no_counts, office_count, out_of, pairs_of, put_out}
pub use Rattle.shop_schema.specs.Counts.{raise, raised, with_branch}
pub use Rattle.shop_schema.specs.First.{TellsFirst}
pub use Rattle.shop_schema.specs.Forms.{FormsAreOneToOne, OfficeFormsAreOneToOne, act_form, branch_form, command_form, film_form, flag_form, joined}
pub use Rattle.shop_schema.specs.Forms.{number_form, numbers_form, office_command_form, office_form, option_form, person_form, rule_form, text_form}
pub use Rattle.shop_schema.specs.Forms.{kept_columns, kept_rows, office_kept_columns, AreBytes, AreNumbers, IsAct, IsCommand, IsKept, IsNumberList, IsOfficeAct}
pub use Rattle.shop_schema.specs.Forms.{IsOfficeKept}
pub use Rattle.shop_schema.specs.Held.{HasFewShared, IsHeld, AreCatalogueValues, AreShared, AreValues}
pub use Rattle.shop_schema.specs.Kinds.{FitEach, Fits, Kind, value_of}
pub use Rattle.shop_schema.specs.RowValues.{AreRowValues, IsActor, IsBranch, IsCast, IsCity, IsConsignment, IsCopy, IsCustomer, IsFeatures, IsFilm, IsKey}
pub use Rattle.shop_schema.specs.RowValues.{IsLast, IsLine, IsLot, IsName, IsNumber, IsPayment, IsRating, IsRental, IsRow, IsRowOf, IsShared, IsStaff, IsTerms}
pub use Rattle.shop_schema.specs.RowValues.{IsText, IsToken, actor_columns, branch_columns, cast_columns, chain_columns, city_columns, consignment_columns}
pub use Rattle.shop_schema.specs.RowValues.{copy_columns, counter_columns, customer_columns, film_columns, first_version, line_columns, line_rows, line_value}
pub use Rattle.shop_schema.specs.RowValues.{lot_columns, moment_value, named_columns, out_columns, pair_columns, payment_columns, rental_columns, rule_columns}
pub use Rattle.shop_schema.specs.RowValues.{rule_value, staff_columns, state_value, terms_columns, this_version, versioned_columns}
pub use Rattle.shop_schema.specs.Shop.{AreTermed, HasVersion, HaveNoFirstRows, HaveNoRows, Holds, HoldsVersion1, HoldsWith, IsFirstKeyed, IsFirstShop, IsKeyed}
pub use Rattle.shop_schema.specs.Shop.{IsNewFirst, IsNewShop, IsShop, LeavesNew, LeavesNewFirst, MoreRows, Reads, StandsAs, StandsBy, StandsFor}
pub use Rattle.shop_schema.specs.Shop.{StandsForVersion1, StandsWith, Tallies, TermedRows, Writes, begins_so, first_books, term_rows, actor_table, branch_table}
pub use Rattle.shop_schema.specs.Shop.{category_table, chain_rule_table, chain_table, city_table, consignment_line_table, consignment_table, copy_table}
pub use Rattle.shop_schema.specs.Shop.{counter_table, country_table, customer_table, film_actor_table, film_table, kept_table, language_table, later_tables}
pub use Rattle.shop_schema.specs.Shop.{lot_table, out_copy_table, pair_count_table, payment_table, rental_table, rental_terms_table, shop_schema, staff_table}
pub use Rattle.shop_schema.specs.Shop.{version_1_schema, HaveRows, later_rows}
pub use Rattle.shop_schema.specs.Steps.{FilmsFit, FitsTables}
pub use Rattle.shop_schema.specs.TableOf.{TableOf, person_kinds}
pub use Rattle.shop_schema.specs.Versions.{version_of, version_told}
pub use Rattle.shop_schema.specs.declared.known.KnownVersion.{KnownVersion}
pub use Rattle.shop_schema.specs.declared.known.KnownVersion.TheVariants.{First, Other, This}
