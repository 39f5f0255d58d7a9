-- The names that most proofs cite from here on, passed on from one place. Declares nothing.
pub use Rattle.std.proofs.Common.{All, Bool, FitsSigned, IsPermutation, List, None, Option, Ordering, Some, [], add-one, add-zero, ap, append-nil, append_assoc}
pub use Rattle.std.proofs.Common.{ap₂, arith, cond, eqb-true, false, filter, find, get_or, inl, inr, is_gt, length, length-append, lit<, map, not, of_z, pos}
pub use Rattle.std.proofs.Common.{refl, rules, slice_index, subst, suc, sym, take, to_z, true, w16, w32, w8, zero, ℕ, ℤ, ◌%◌, ◌*◌, ◌++◌, ◌+◌, ◌-◌, ◌/◌, ◌<◌}
pub use Rattle.std.proofs.Common.{◌^◌, ◌∙◌, ◌∷◌, ◌≡◌, ◌≢◌, ◌≤◌, ◌⊎◌}
pub use Rattle.std.proofs.Math.Bool.{or-false, or-true}
pub use Rattle.std.proofs.Math.Nat.{le_refl, pow-le-pow_right}
pub use Rattle.std.proofs.lemmas.Bool.{and_parts, cases_Bool, false≢true, leb-true, not-false, not-true, or_parts, or_right, true≢false}
pub use Rattle.std.proofs.lemmas.Bool.Decides.{nat_tests}
pub use Rattle.std.proofs.lemmas.Int.{to_z-of_z, to_z_pos}
pub use Rattle.std.proofs.lemmas.List.{append_cancel_left, map-append, map_push}
pub use Rattle.std.proofs.lemmas.List.Elements.{All-cons, All-from_recursion, All-nil, filter-append, recursion_from_All}
pub use Rattle.std.proofs.lemmas.List.Folds.{find-append, list_all_more, list_any-append, list_any_none}
pub use Rattle.std.proofs.lemmas.Slice.Eq.{bytes_eq-Decides}
pub use Rattle.std.proofs.lemmas.Str.{IsUtf8-from_ascii, digit_value_digit}
pub use Rattle.std.proofs.lemmas.Str.Ascii.{IsAscii-cons, IsAscii-nil}
pub use Rattle.std.specs.Char.{digit_value, is_ascii_digit}
pub use Rattle.std.specs.Io.KnownBytes.{Appends, Consumes}
pub use Rattle.std.specs.List.{AllByRecursion, join_by, list_all, list_any}
pub use Rattle.std.specs.Option.{option_or, option_to_list}
pub use Rattle.std.specs.Prelude.{IsUtf8, codes, decimal, flat_map, if◌then◌else◌, is_none, nat_le, nat_lt, negsuc, replicate, slice_get, unsigned_abs, zip, ⊤}
pub use Rattle.std.specs.Prelude.{◌&&◌, ◌-ℤ◌, ◌==◌, ◌||◌}
pub use Rattle.std.specs.Str.{IsAscii, bytes_eq}
pub use Rattle.shop_model.specs.Answers.{Answer, answer_of, problem_answer, problem_text}
pub use Rattle.shop_model.specs.Books.{Append, Arrived, BookCopy, Books, Caller, Consignment, CopyRows, Counter, Customers, Edit, Event, HeadOffice, Line}
pub use Rattle.shop_model.specs.Books.{LineState, Mark, Missing, Nobody, Payments, Put, PutLot, Rentals, RowOf, RowsOf, Set, Table, TermRows, UnderWay, Update}
pub use Rattle.shop_model.specs.Books.{after, after_for, all_edited, as_arrival, as_parcel, between, book_acted, book_done, branch_after, branch_with}
pub use Rattle.shop_model.specs.Books.{caller_in, caller_of, checked, checked_line, come, counted_one, edited, edits_of, head, if_same, imported}
pub use Rattle.shop_model.specs.Books.{is_consignment, is_counter, known_caller, last_books, new_consignment, office_seen, other_seen, parcel_seen, put_state}
pub use Rattle.shop_model.specs.Books.{replies_to, reply_for, reply_in, rows_at, rows_of, run, seen_of, set_last, shop_of, state_of, under_way, unmarked}
pub use Rattle.shop_model.specs.Books.{unpacked, view, with_rows, opening}
pub use Rattle.shop_model.specs.Calendar.{IsMoment, Moment, days_in_month, digit, is_by, is_earlier, is_leap_year, moment_text, month_before, same_moment}
pub use Rattle.shop_model.specs.GoodShop.{IsGoodShop, are_apart, is_within, rental_by, returned_by, rises, same_rental}
pub use Rattle.shop_model.specs.Histories.{IsRun, IsStep, counted_in, fails_for_good, has_failed, is_answer, is_decided, is_store_failure, outcome_of}
pub use Rattle.shop_model.specs.Json.{object}
pub use Rattle.shop_model.specs.Laws.{BranchesAreAlone, BranchesAreIsolated, CopiesAreInOnePlace, EmptyIsSound, IsLowest, IsToldTheSame, OfficeResentIsAgain}
pub use Rattle.shop_model.specs.Laws.{OpeningBooksAreSound, OpeningIsSound, OrderTellsNothing, RefusalsAreInOrder, RepeatsChangeNothing, ResentIsAgain}
pub use Rattle.shop_model.specs.Laws.{SoundBooksAreInCustody, StaySound, StaySoundWithin, rise_from}
pub use Rattle.shop_model.specs.Links.{HasNoDoubles, HasSharedSizes, IsGoodCatalogue, IsLinkedShop, NamesRowsOf, are_different, has_row, is_parcel, is_staff_of}
pub use Rattle.shop_model.specs.Links.{pays_for}
pub use Rattle.shop_model.specs.Machine.{Arrive, CustomersAre, Do, Done, FromOffice, Input, Look, Office, OfficeLook, Own, Reply, Request, Shows, Sorry, State}
pub use Rattle.shop_model.specs.Machine.{Unread, answers, catalogue_after, done, if_accepted, look, moved, office_done, office_text, replies, reply_by}
pub use Rattle.shop_model.specs.Machine.{reply_text, reply_to, shop_after, state_after}
pub use Rattle.shop_model.specs.Office.{office_look}
pub use Rattle.shop_model.specs.Opening.{empty_catalogue, opening_books, opening_catalogue, token_of}
pub use Rattle.shop_model.specs.Refusals.{Already, ArrivalReceived, BadBody, BadCsv, BadLines, BadThreshold, CopyNotHere, CopyOut, CustomerInactive, Decision}
pub use Rattle.shop_model.specs.Refusals.{FilmWithdrawn, Full, KeyUsed, LotIn, Memory, MomentBack, NoArrival, NoBranch, NoCopy, NoCounter, NoCustomer, NoFilm}
pub use Rattle.shop_model.specs.Refusals.{NoRental, NoRoute, NoSharedRow, NoStaff, OwnBranch, Refusal, RentalReturned, SameMoment, Size, StoreFailed}
pub use Rattle.shop_model.specs.Refusals.{TokenTaken, TooLong, Usage, WrongCustomer, refusal_number}
pub use Rattle.shop_model.specs.Repeats.{are_new, is_again, marked_ones, repeats}
pub use Rattle.shop_model.specs.Resends.{Asks, FindsCounted, GetsKeptReply, IsRepeat, Keeps, KeepsCallers, KeptRowsAreKept, RunsResend, books_at, books_next}
pub use Rattle.shop_model.specs.Resends.{is_command, is_nobody}
pub use Rattle.shop_model.specs.Rows.{AreNumbered, IsCounted, Owned, Row, arrived, at, has_double, is_empty, is_of, is_row, lacks, mem, next, numbered}
pub use Rattle.shop_model.specs.Rows.{numbered_from, of, owned_by, put_all, set_all, set_among, set_at, set_row, set_rows, total, update_where}
pub use Rattle.shop_model.specs.SameStates.{IsReordered, SameCatalogue, SameShop, SameState, rest_of_catalogue, rest_of_shop}
pub use Rattle.shop_model.specs.Shop.{Catalogue, Kept, OfficeKept, Shop, same_flag, same_option, same_person}
pub use Rattle.shop_model.specs.OfficeActs.{same_branch, same_film, same_office, same_office_act, office_refusals, office_acted, office_told}
pub use Rattle.shop_model.specs.Acts.{same_act, same_command, act_refusals, are_lines, arrival, import_refusals, is_away, is_film_withdrawn, new_copies}
pub use Rattle.shop_model.specs.Acts.{new_from, new_in, acted, films_at, films_in, here, incoming, with_state}
pub use Rattle.shop_model.specs.Sound.{AreRowsNumbered, AreRowsOwned, HasCustody, HasNumbers, HasOneHolder, HasOrigins, HasOwners, HasTerms, IsSound, IsSoundBy}
pub use Rattle.shop_model.specs.Sound.{all_lines, copy_is, gone, is_made_as, is_mark, is_origin, is_settled, line_is, lines_in, made, marked_films, one, places}
pub use Rattle.shop_model.specs.Sound.{rows_in, rows_made, transit}
pub use Rattle.shop_model.specs.Stock.{balance, fee, film_of, film_terms, in_stock, is_here, is_overdue, keeps_out, late_days, rewarded_in, terms_now}
pub use Rattle.shop_model.specs.Stops.{ActsOnce, EachActsOnce, IsKeptWith, KeepsAcknowledged, Life, Lives, LivesAreOneHistory, LivesFollow, ResentFirst}
pub use Rattle.shop_model.specs.Stops.{acted_in, answered_of, begun, decisions_of, failing, history_of, in_flight}
pub use Rattle.shop_model.specs.Values.{Act, Actor, ActorInfo, AddActor, AddBranch, AddCast, AddCategory, AddCity, AddCountry, AddCustomer, AddFilm}
pub use Rattle.shop_model.specs.Values.{AddLanguage, AddStaff, Arrival, Arrivals, Ask, Audit, BadLine, Balance, Branch, ByCode, ByComment, Cast, ChooseRule}
pub use Rattle.shop_model.specs.Values.{City, Command, Copies, Copy, CopyState, Custody, Customer, CustomerList, Dispatch, Film, FilmInStock, FilmList}
pub use Rattle.shop_model.specs.Values.{FilmNotInStock, HeldBy, Here, Import, InStock, OfficeAct, OfficeAsk, OfficeCommand, OneCustomer, OneFilm, OneView}
pub use Rattle.shop_model.specs.Values.{Overdue, Parcel, Pay, Payment, Person, PriceFilm, Receive, Rent, Rental, Rewards, Rule, Rules, Sales, SalesByCategory}
pub use Rattle.shop_model.specs.Values.{SalesByStore, Scrap, Scrapped, Sent, SentOff, SetActive, SetManager, Staff, StaffLeaves, StaffList, Stock, TakeBack}
pub use Rattle.shop_model.specs.Values.{Terms, Text, Transit, View, WithdrawFilm}
pub use Rattle.shop_model.specs.Verdict.{Accepted, Again, Refused, Verdict, first, is_before, is_full, office_resent, office_verdict, refusals, resent}
pub use Rattle.shop_model.specs.Verdict.{staff_is, verdict, resent_by}
