-- The names that most proofs cite from here on, passed on from one place. Declares nothing.
pub use Rattle.std.proofs.Common.{Bool, Contains, Equal, Err, FitsSigned, Greater, IfSome, IsPermutation, IsSorted, Less, List, None, Ok, OnErr, OnOk, Option}
pub use Rattle.std.proofs.Common.{Ordering, Some, [], add-one, ap, append-nil, append_assoc, arith, codes, cond, decimal, drop, drop-cons, eqb-true, false}
pub use Rattle.std.proofs.Common.{filter, get_or, inl, inr, is_eq, is_lt, is_some, le-ltb, length, length-append, lit<, lt-ltb, map, map-id, nat_eq, nat_le}
pub use Rattle.std.proofs.Common.{nat_lt, ne_eqb, negsuc, not, pos, refl, replicate, rules, slice_index, slice_index_or, string_bytes, subst, subst₂, suc, sym}
pub use Rattle.std.proofs.Common.{take, true, true≢false, unsigned_abs, vec_capacity, vec_len, w16, w32, w64, w8, zero, zero-add, ℕ, ℤ, ◌%◌, ◌&&◌, ◌*◌, ◌++◌}
pub use Rattle.std.proofs.Common.{◌+◌, ◌-◌, ◌/◌, ◌<ℤ◌, ◌<◌, ◌==◌, ◌^◌, ◌||◌, ◌↔◌, ◌∙◌, ◌∷◌, ◌≡◌, ◌≢◌, ◌≤ℤ◌, ◌≤◌, ◌⊎◌}
pub use Rattle.std.proofs.KnownBytes.{Appends-nil, Appends-trans, Consumes-kept, Consumes-nil, Consumes-trans, Keeps-refl}
pub use Rattle.std.proofs.Math.Bool.{and_assoc, or-false, or-true, or_self}
pub use Rattle.std.proofs.Math.Seq.{paste, take-append-add, take-append_seam}
pub use Rattle.std.proofs.lemmas.Bool.{and_parts, cases_Bool, cond-false, cond_both, eqb-false, false_from_ne_true, false≢true, iff_false, le-leb, leb-true}
pub use Rattle.std.proofs.lemmas.Bool.{ltb-false, ltb-true, not-true, or_left, or_parts}
pub use Rattle.std.proofs.lemmas.Bool.Decides.{Decides-eqb, nat_tests}
pub use Rattle.std.proofs.lemmas.Cmp.{is_eq_index, nat_cmp_total, nat_eq_equiv, nat_list_cmp_total, on_total, tied_itself}
pub use Rattle.std.proofs.lemmas.Fmt.{decimal-digits_value, decimal_by_steps, decimal_injective, decimal_nonempty, digits_decimal, digits_value-decimal}
pub use Rattle.std.proofs.lemmas.Fmt.{first_decimal, length-decimal-le}
pub use Rattle.std.proofs.lemmas.Grind.{flat_map-append}
pub use Rattle.std.proofs.lemmas.Int.{by_lt_z, to_z-of_z, to_z_pos}
pub use Rattle.std.proofs.lemmas.Iterator.{YieldsList-from_chars, YieldsList-from_slice}
pub use Rattle.std.proofs.lemmas.Iterator.Consumers.{YieldsList-end, map_from_collect}
pub use Rattle.std.proofs.lemmas.List.{append_cancel_right, at_drop_all, at_drop_more, drop-take, drop_all, drop_more, length-drop, length-map}
pub use Rattle.std.proofs.lemmas.List.{length-replicate, length-take-le, map-append, places, same_from_push, take-append-drop, take-append-le, take_all}
pub use Rattle.std.proofs.lemmas.List.{take_more, take_rest, with_items_is}
pub use Rattle.std.proofs.lemmas.List.Elements.{All-append, All-cons, All-head, All-nil, All-pop, All-push, All-tail, Contains-get_or, Contains-push_cases}
pub use Rattle.std.proofs.lemmas.List.Elements.{filter-append, recursion_from_All}
pub use Rattle.std.proofs.lemmas.List.Folds.{list_all_more, list_any-append}
pub use Rattle.std.proofs.lemmas.List.Sorted.{IsPermutation-append, IsPermutation-cons, IsPermutation-map, IsPermutation-middle, IsPermutation-refl}
pub use Rattle.std.proofs.lemmas.List.Sorted.{IsPermutation-sym, IsPermutation-trans, answers_always, length_permutation, list_any-IsPermutation, ranks_by}
pub use Rattle.std.proofs.lemmas.List.Sorted.{searchable_from_sorted}
pub use Rattle.std.proofs.lemmas.List.Sums.{fold-append, sum_by-cons}
pub use Rattle.std.proofs.lemmas.Map.Lookups.{exact_bytes}
pub use Rattle.std.proofs.lemmas.Result.{IfErr-weaker, IfOk-at_ok, IfOk-weaker}
pub use Rattle.std.proofs.lemmas.Slice.Eq.{bytes_eq-Decides, slice_eq-Decides, strip_prefix_is, strip_suffix_is}
pub use Rattle.std.proofs.lemmas.Str.{IsUtf8-from_ascii, IsUtf8-from_is_utf8, digit_value_digit, is_utf8-from_IsUtf8}
pub use Rattle.std.proofs.lemmas.Str.Parse.{IsNumeralModel, digit_from_value, numerals_by_value}
pub use Rattle.std.specs.Borrow.{Bor}
pub use Rattle.std.specs.Char.{digit_value, is_ascii_digit}
pub use Rattle.std.specs.Cmp.{IsTotalOrder}
pub use Rattle.std.specs.Cmp.Lexicographic.{other_text, pointwise, same_text, slice_cmp}
pub use Rattle.std.specs.Io.KnownBytes.{Appends, Consumes, Keeps}
pub use Rattle.std.specs.List.{AllByRecursion, IsDistinct, copy_within, flat_map, join_by, list_all, list_any, range_with_len}
pub use Rattle.std.specs.List.Sorted.{IsBinarySearchResult, IsPartitionPoint, IsSearchInRange, IsSortedByKey}
pub use Rattle.std.specs.Map.{keys_of, lookup, remove_entry}
pub use Rattle.std.specs.Option.{ok_or, option_to_list}
pub use Rattle.std.specs.Ordering.{match_ordering, nat_cmp, ordering_reverse, ordering_then}
pub use Rattle.std.specs.Prelude.{All, Decides, IfErr, IfNone, IfOk, IsTrue, IsUtf8, MatchOption, Result, String, fold, if◌then◌else◌, is_none, option_and_then}
pub use Rattle.std.specs.Prelude.{option_map, slice_get, slice_range, sum_by, unwrap_or, ⊤, ◌-ℤ◌}
pub use Rattle.std.specs.Result.{IsErrAnd, is_ok, result_ok}
pub use Rattle.std.specs.Str.{IsAscii, bytes_eq, chars, is_utf8}
pub use Rattle.std.specs.Str.Parse.{AllDigits, ExplainsUnsignedError, HasUnsignedDigitsIfOk, ParsesUnsigned, digits_value, digits_value_after}
pub use Rattle.std.specs.Str.Parse.{without_leading_plus}
pub use Rattle.std.specs.declared.alloc.Global.{Global}
pub use Rattle.shop_model.proofs.Callers.{known_same}
pub use Rattle.shop_model.proofs.FoundLemmas.{found_none, found_some}
pub use Rattle.shop_model.proofs.Histories.{failed_failure, memory_failure}
pub use Rattle.shop_model.proofs.LinkLemmas.{any_at_more, any_at_set, at_set_other}
pub use Rattle.shop_model.proofs.RowLemmas.{at_zero, differ_test, equal_test, length_map, map_at, map_map, numbered_push, put_own, row_at, same_if, same_test}
pub use Rattle.shop_model.proofs.ShopLemmas.{arrival_of, arrived_map}
pub use Rattle.shop_model.specs.Answers.{Answer, accepted_answer, answer_of, film_text, problem_answer, problem_text, shown_text}
pub use Rattle.shop_model.specs.Books.{Arrived, BookCopy, Books, Caller, Consignment, CopyRows, Counter, Customers, HeadOffice, Line, LineState, Mark, Missing}
pub use Rattle.shop_model.specs.Books.{Nobody, Payments, Rentals, RowOf, Table, TermRows, UnderWay, after_for, as_arrival, as_parcel, between, book_acted}
pub use Rattle.shop_model.specs.Books.{book_done, branch_after, caller_of, checked, head, is_consignment, known_caller, put_state, reply_for, rows_at, rows_of}
pub use Rattle.shop_model.specs.Books.{shop_of, state_of, under_way, unmarked, unpacked}
pub use Rattle.shop_model.specs.Calendar.{IsMoment, Moment, days_in_month, digit, is_by, moment_text, month_days, same_moment}
pub use Rattle.shop_model.specs.GoodShop.{IsGoodShop, are_apart, is_within, rental_by, rises, same_rental}
pub use Rattle.shop_model.specs.Histories.{has_failed, is_store_failure}
pub use Rattle.shop_model.specs.Json.{array, flag_text, items_text, numbers_text, object, quoted}
pub use Rattle.shop_model.specs.Links.{IsGoodCatalogue, IsLinkedShop, are_different, has_row, is_parcel, is_staff_of, pays_for}
pub use Rattle.shop_model.specs.Machine.{ArrivalsAre, Arrive, AuditIs, BalanceIs, CopiesAre, CustomerIs, CustomersAre, Do, FilmIs, FromOffice, Gone, HereAt}
pub use Rattle.shop_model.specs.Machine.{HolderIs, InStockIs, Input, Look, Office, OfficeLook, Own, Request, SentAre, Sorry, State, TransitIs, UnderWayTo}
pub use Rattle.shop_model.specs.Machine.{Unread, done, if_accepted, moved, office_done, replies, state_after}
pub use Rattle.shop_model.specs.Refusals.{Already, BadBody, BadLines, Decision, NoBranch, NoCounter, NoRoute, Problem, StoreFailed, TooLong, problem_name}
pub use Rattle.shop_model.specs.Refusals.{problem_number}
pub use Rattle.shop_model.specs.Rows.{AreNumbered, IsCounted, Owned, Row, arrived, at, has_double, is_empty, is_of, is_row, lacks, mem, next, numbered}
pub use Rattle.shop_model.specs.Rows.{numbered_from, of, owned_by, put_all, set_at, set_rows, total, update_where}
pub use Rattle.shop_model.specs.Shop.{Catalogue, Kept, OfficeKept, Shop, same_flag, same_option}
pub use Rattle.shop_model.specs.Sound.{AreRowsNumbered, AreRowsOwned, HasNumbers, HasOneHolder, HasOwners, HasTerms, IsInCustody, IsSound, all_lines, copy_is}
pub use Rattle.shop_model.specs.Sound.{is_made_as, is_mark, is_origin, is_settled, line_is, lines_in, one, rows_in, rows_made, widest}
pub use Rattle.shop_model.specs.Stock.{balance, fee_by, film_in_stock, film_not_in_stock, held_by, in_stock, is_here, keeps_out, paid_within, termed}
pub use Rattle.shop_model.specs.Values.{Act, AddCustomer, AddFilm, Arrival, Branch, ByCode, ByComment, Cast, City, Command, Copy, CopyState, Customer, Dispatch}
pub use Rattle.shop_model.specs.Values.{Film, Here, Import, OfficeAct, OfficeCommand, Parcel, Pay, Payment, Person, PriceFilm, Receive, Rent, Rental, Rule}
pub use Rattle.shop_model.specs.Values.{Rules, Scrap, Scrapped, Sent, SetActive, SetManager, Staff, StaffLeaves, TakeBack, Terms, Text, WithdrawFilm}
pub use Rattle.shop_model.specs.Verdict.{Accepted, Again, Refused, Verdict, first, is_before, office_resent, office_verdict, refusals, resent, staff_is}
pub use Rattle.shop_model.specs.Verdict.{verdict}
pub use Rattle.shop_model.specs.OfficeActs.{office_refusals, office_acted, rule_name}
pub use Rattle.shop_model.specs.Acts.{act_refusals, are_lines, arrival, is_away, is_film_withdrawn, new_copies, acted, incoming, numbers_from}
pub use Rattle.shop_types.proofs.CalendarLemmas.{days_from_civil-day_of}
pub use Rattle.shop_types.proofs.MomentLemmas.{moment_text-utf8}
pub use Rattle.shop_types.specs.Moments.{IsDigits, IsTextOf}
pub use Rattle.shop_types.specs.Numbers.{is_plain_number, is_row_number, is_ten_digits, row_number_of}
pub use Rattle.shop_types.specs.Texts.{is_key}
pub use Rattle.shop_types.specs.Replies.{body_bytes, has_fixed_body, seen_reply}
pub use Rattle.shop_types.specs.Seen.{seen_branch, seen_caller, seen_command, seen_film, seen_line_state, seen_mark, seen_office, seen_parcel_line}
pub use Rattle.shop_types.specs.Seen.{seen_payment, seen_person, seen_refusal, seen_rental, seen_rule, seen_staff, seen_state}
pub use Rattle.shop_types.specs.StockFiles.{is_stock_file}
pub use Rattle.shop_types.specs.Verdicts.{post_of, seen_kept}
pub use Rattle.shop_types.specs.declared.found.KeptFound.{KeptFound}
pub use Rattle.shop_types.specs.declared.line.Usage.{Usage}
pub use Rattle.shop_types.specs.declared.line.Usage.TheVariants.{Memory}
pub use Rattle.shop_types.specs.declared.parcel.ParcelLine.{ParcelLine}
pub use Rattle.shop_types.specs.declared.refusal.Refusal.{Refusal}
pub use Rattle.shop_types.specs.declared.refusal.Refusal.TheVariants.{BadCsv}
