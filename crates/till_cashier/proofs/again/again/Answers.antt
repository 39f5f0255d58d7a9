use Rattle.std.proofs.Common.{◌≡◌, ◌∙◌, List, arith, length, rules, subst, sym, vec_len}
use Rattle.std.specs.List.{All}
use Rattle.sqlite.specs.Held.{state}
use Rattle.till_cashier.specs.Again.{AreLeft, AreLeftIn, IsRefused}
use Rattle.till_cashier.specs.declared.refused.Repeat.{Repeat}
use Rattle.till_work.specs.Exchanged.{IsExchanged}
use Rattle.till_work.proofs.GoingOn.{goes_then}
use Rattle.till_cashier.specs.Clock.{local_clock}
use Rattle.till_cashier.proofs.GoingOn.{kept_ok, kept_as, kept_goes, goes_stays}
use Rattle.till_cashier.proofs.Repeating.{if_ok_then, each_in_book, book_later, book_before}
use Rattle.till_cashier.proofs.Stops.{goes_leaves, goes_then_leaves}
use Rattle.std.proofs.Common.{[], inl, refl, string_bytes}
use Rattle.std.proofs.lemmas.Bool.{eqb-true}
use Rattle.std.proofs.lemmas.List.{nil_from_length}
use Rattle.std.proofs.lemmas.List.Elements.{All-nil}
use Rattle.sqlite.specs.State.{State}
use Rattle.till_book.specs.Ends.{IsReadAfter}
use Rattle.till_book.specs.Steps as book
use Rattle.till_book.specs.declared.lists.BookRows.{BookRows}
use Rattle.till_requests.specs.Zones.{offset_of}
use Rattle.till_cashier.specs.Again.{IsRefusedIn}
use Rattle.till_cashier.proofs.Adding.{no_repeats, repeats_before, repeats_later}
use Rattle.till_cashier.proofs.Printing.{if_ok_so}
use Rattle.till_cashier.proofs.Left.{left_in_book}
use Rattle.till_cashier.proofs.Showing.{again_shown, both_ok, three_ok}
use Rattle.till_cashier.proofs.again.again.Goals as goal

pub returns-in-Err-clause-keeps : goal.returns-in-Err-clause-keeps
returns-in-Err-clause-keeps g c clean kept =
    goes_then _ c.args.desk.now.settings.now.mark c.args.book.now.place c.args.book.now.place c.give_each.new.book.place
    (state g.S.Store c.args.conn.now) (state g.S.Store c.read.new.conn) (state g.S.Store c.give_each.new.conn)
    (kept_goes _ c.args.desk.now.settings.now.mark c.args.book.now.place (state g.S.Store c.args.conn.now) (state g.S.Store c.read.new.conn)
    (c.read.ensures.stays (c.give_each.ensures.clean clean)))
    (c.in-Err.ensures.keeps clean (kept_as c.in-Err.fault kept))

pub returns-in_err-table-clause-keeps : goal.returns-in_err-table-clause-keeps
returns-in_err-table-clause-keeps g c clean kept =
    let given = c.entries_after.ensures.clean clean in
    goes_stays _ c.args.desk.now.settings.now.mark c.args.book.now.place c.give_each.new.book.place
    (state g.S.Store c.args.conn.now) (state g.S.Store c.give_each.new.conn) (state g.S.Store c.entries_after.new.conn)
    (goes_then _ c.args.desk.now.settings.now.mark c.args.book.now.place c.args.book.now.place c.give_each.new.book.place
    (state g.S.Store c.args.conn.now) (state g.S.Store c.read.new.conn) (state g.S.Store c.give_each.new.conn)
    (kept_goes _ c.args.desk.now.settings.now.mark c.args.book.now.place (state g.S.Store c.args.conn.now) (state g.S.Store c.read.new.conn)
    (c.read.ensures.stays (c.give_each.ensures.clean given)))
    (c.in-Ok.ensures.keeps given (kept_ok _)))
    (c.entries_after.ensures.stays clean)

pub returns-clause-keeps : goal.returns-clause-keeps
returns-clause-keeps g c clean kept =
    let given = c.entries_after.ensures.clean clean in
    goes_stays _ c.args.desk.now.settings.now.mark c.args.book.now.place c.give_each.new.book.place
    (state g.S.Store c.args.conn.now) (state g.S.Store c.give_each.new.conn) (state g.S.Store c.entries_after.new.conn)
    (goes_then _ c.args.desk.now.settings.now.mark c.args.book.now.place c.args.book.now.place c.give_each.new.book.place
    (state g.S.Store c.args.conn.now) (state g.S.Store c.read.new.conn) (state g.S.Store c.give_each.new.conn)
    (kept_goes _ c.args.desk.now.settings.now.mark c.args.book.now.place (state g.S.Store c.args.conn.now) (state g.S.Store c.read.new.conn)
    (c.read.ensures.stays (c.give_each.ensures.clean given)))
    (c.in-Ok.ensures.keeps given (kept_ok _)))
    (c.entries_after.ensures.stays clean)

pub returns-clause-given : goal.returns-clause-given
returns-clause-given g c clean =
    let given = c.entries_after.ensures.clean clean in
    let read = c.give_each.ensures.clean given in
    let tells = IsExchanged (g.V.Server.opens c.args.desk.now.server.now) g.V.Reader.Read.remaining g.V.Writer.Write.contents in
    let shows = local_clock (g.K.WallClock.shows c.args.desk.now.clock.now) c.args.desk.now.settings.now.zone in
    let mark = c.args.desk.now.settings.now.mark in
    let token = c.args.desk.now.settings.now.token in
    let own = c.args.desk.now.settings.now.staff in
    let acts : List Repeat = c.as_slice.result.now in
    let same : acts ≡ c.in_ok-repeats.repeats.acts.items = search rules in
    if_ok_then c.again_said.result _ c.again_said.ensures.given
    (λ none. (
      acts,
      each_in_book acts c.in_ok-entries.entries.rows (state g.S.Store c.args.conn.now) (state g.S.Store c.read.new.conn)
          (c.in_ok-entries.ensures.found read)
          (subst (λ (its : List Repeat). All (IsRefused c.in_ok-entries.entries.rows.entries c.in_ok-entries.entries.rows.replies) its) (sym same)
          c.in_ok-repeats.ensures.refused),
      book_before tells shows mark token own (length acts) acts c.args.book.now.place c.give_each.new.book.place
          (state g.S.Store c.args.conn.now) (state g.S.Store c.give_each.new.conn) (state g.S.Store c.entries_after.new.conn)
          (book_later tells shows mark token own (length acts) acts c.args.book.now.place c.give_each.new.book.place
          (state g.S.Store c.args.conn.now) (state g.S.Store c.read.new.conn) (state g.S.Store c.give_each.new.conn)
          (c.read.ensures.stays read) (c.in-Ok.ensures.given given none))
          (c.entries_after.ensures.stays clean),
    ))

pub returns-in_err-entries-clause-crash : goal.returns-in_err-entries-clause-crash
returns-in_err-entries-clause-crash g c clean =
    goes_leaves _ c.args.desk.now.settings.now.mark c.args.book.now.place c.args.book.now.place
    (state g.S.Store c.args.conn.now) (state g.S.Store c.read.new.conn)
    (kept_goes _ c.args.desk.now.settings.now.mark c.args.book.now.place (state g.S.Store c.args.conn.now) (state g.S.Store c.read.new.conn)
    (c.read.ensures.stays clean))

pub returns-in_err-repeats-clause-crash : goal.returns-in_err-repeats-clause-crash
returns-in_err-repeats-clause-crash g c clean =
    goes_leaves _ c.args.desk.now.settings.now.mark c.args.book.now.place c.args.book.now.place
    (state g.S.Store c.args.conn.now) (state g.S.Store c.read.new.conn)
    (kept_goes _ c.args.desk.now.settings.now.mark c.args.book.now.place (state g.S.Store c.args.conn.now) (state g.S.Store c.read.new.conn)
    (c.read.ensures.stays clean))

pub returns-in-Err-clause-crash : goal.returns-in-Err-clause-crash
returns-in-Err-clause-crash g c clean =
    goes_then_leaves _ c.args.desk.now.settings.now.mark c.args.book.now.place c.args.book.now.place
    (state g.S.Store c.args.conn.now) (state g.S.Store c.read.new.conn) (state g.S.Store c.give_each.new.conn)
    (kept_goes _ c.args.desk.now.settings.now.mark c.args.book.now.place (state g.S.Store c.args.conn.now) (state g.S.Store c.read.new.conn)
    (c.read.ensures.stays (c.give_each.ensures.clean clean)))
    (c.give_each.ensures.crash clean)

pub returns-in_err-table-clause-crash : goal.returns-in_err-table-clause-crash
returns-in_err-table-clause-crash g c clean =
    let given = c.entries_after.ensures.clean clean in
    goes_leaves _ c.args.desk.now.settings.now.mark c.args.book.now.place c.give_each.new.book.place
    (state g.S.Store c.args.conn.now) (state g.S.Store c.entries_after.new.conn)
    (goes_stays _ c.args.desk.now.settings.now.mark c.args.book.now.place c.give_each.new.book.place
    (state g.S.Store c.args.conn.now) (state g.S.Store c.give_each.new.conn) (state g.S.Store c.entries_after.new.conn)
    (goes_then _ c.args.desk.now.settings.now.mark c.args.book.now.place c.args.book.now.place c.give_each.new.book.place
    (state g.S.Store c.args.conn.now) (state g.S.Store c.read.new.conn) (state g.S.Store c.give_each.new.conn)
    (kept_goes _ c.args.desk.now.settings.now.mark c.args.book.now.place (state g.S.Store c.args.conn.now) (state g.S.Store c.read.new.conn)
    (c.read.ensures.stays (c.give_each.ensures.clean given)))
    (c.in-Ok.ensures.keeps given (kept_ok _)))
    (c.entries_after.ensures.stays clean))

pub returns-clause-crash : goal.returns-clause-crash
returns-clause-crash g c clean =
    let given = c.entries_after.ensures.clean clean in
    goes_leaves _ c.args.desk.now.settings.now.mark c.args.book.now.place c.give_each.new.book.place
    (state g.S.Store c.args.conn.now) (state g.S.Store c.entries_after.new.conn)
    (goes_stays _ c.args.desk.now.settings.now.mark c.args.book.now.place c.give_each.new.book.place
    (state g.S.Store c.args.conn.now) (state g.S.Store c.give_each.new.conn) (state g.S.Store c.entries_after.new.conn)
    (goes_then _ c.args.desk.now.settings.now.mark c.args.book.now.place c.args.book.now.place c.give_each.new.book.place
    (state g.S.Store c.args.conn.now) (state g.S.Store c.read.new.conn) (state g.S.Store c.give_each.new.conn)
    (kept_goes _ c.args.desk.now.settings.now.mark c.args.book.now.place (state g.S.Store c.args.conn.now) (state g.S.Store c.read.new.conn)
    (c.read.ensures.stays (c.give_each.ensures.clean given)))
    (c.in-Ok.ensures.keeps given (kept_ok _)))
    (c.entries_after.ensures.stays clean))

-- ---- nothing is given once more

pub returns-then-is_empty-clause-keeps : goal.returns-then-is_empty-clause-keeps
returns-then-is_empty-clause-keeps g c clean kept =
    kept_goes _ c.args.desk.now.settings.now.mark c.args.book.now.place
    (state g.S.Store c.args.conn.now) (state g.S.Store c.read.new.conn) (c.read.ensures.stays clean)

pub returns-then-is_empty-clause-given : goal.returns-then-is_empty-clause-given
returns-then-is_empty-clause-given g c clean =
    if_ok_so c.nothing_said.result _ _ c.nothing_said.ensures.said
    (λ said says low. (
      [],
      All-nil _,
      λ journal commands at. (
        journal,
        commands,
        record { rests = c.read.ensures.stays clean journal at.rests; book = at.book; entries = at.entries; replies = at.replies },
        (refl, refl),
      ),
    ))

pub returns-then-is_empty-clause-says : goal.returns-then-is_empty-clause-says
returns-then-is_empty-clause-says g c clean =
    let old = state g.S.Store c.args.conn.now in
    let acts : List Repeat = c.in_ok-repeats.repeats.acts.items in
    let count : vec_len c.in_ok-repeats.repeats.acts ≡ 0 = eqb-true _ 0 (sym c.is_empty.ensures ∙ c.if-is_empty.true) in
    let counted : length acts ≡ vec_len c.in_ok-repeats.repeats.acts = search rules in
    let none : acts ≡ [] = nil_from_length acts (counted ∙ count) in
    both_ok c.nothing_said.result _ _ _ c.nothing_said.ensures.said c.nothing_said.ensures.left
    (λ said says left. inl (
      c.read.ensures.stays clean,
      says,
      λ zero. subst (λ (its : List Repeat). AreLeftIn old its) none
          (left_in_book acts c.in_ok-entries.entries.rows old (state g.S.Store c.read.new.conn) (c.in_ok-entries.ensures.found clean)
          (c.in_ok-repeats.ensures.left (sym c.as_str.ensures.value ∙ left zero))),
    ))

pub returns-then-is_empty-clause-crash : goal.returns-then-is_empty-clause-crash
returns-then-is_empty-clause-crash g c clean =
    goes_leaves _ c.args.desk.now.settings.now.mark c.args.book.now.place c.args.book.now.place
    (state g.S.Store c.args.conn.now) (state g.S.Store c.read.new.conn)
    (kept_goes _ c.args.desk.now.settings.now.mark c.args.book.now.place (state g.S.Store c.args.conn.now) (state g.S.Store c.read.new.conn)
    (c.read.ensures.stays clean))

-- ---- what is entered

pub returns-in_err-entries-clause-adds : goal.returns-in_err-entries-clause-adds
returns-in_err-entries-clause-adds g c clean kept = (
  [],
  All-nil _,
  0,
  no_repeats (local_clock (g.K.WallClock.shows c.args.desk.now.clock.now) c.args.desk.now.settings.now.zone)
      c.args.desk.now.settings.now.mark c.args.desk.now.settings.now.token [] c.args.book.now.place
      (state g.S.Store c.args.conn.now) (state g.S.Store c.read.new.conn) (c.read.ensures.stays clean),
)

pub returns-in_err-repeats-clause-adds : goal.returns-in_err-repeats-clause-adds
returns-in_err-repeats-clause-adds g c clean kept = (
  [],
  All-nil _,
  0,
  no_repeats (local_clock (g.K.WallClock.shows c.args.desk.now.clock.now) c.args.desk.now.settings.now.zone)
      c.args.desk.now.settings.now.mark c.args.desk.now.settings.now.token [] c.args.book.now.place
      (state g.S.Store c.args.conn.now) (state g.S.Store c.read.new.conn) (c.read.ensures.stays clean),
)

pub returns-then-is_empty-clause-adds : goal.returns-then-is_empty-clause-adds
returns-then-is_empty-clause-adds g c clean kept = (
  [],
  All-nil _,
  0,
  no_repeats (local_clock (g.K.WallClock.shows c.args.desk.now.clock.now) c.args.desk.now.settings.now.zone)
      c.args.desk.now.settings.now.mark c.args.desk.now.settings.now.token [] c.args.book.now.place
      (state g.S.Store c.args.conn.now) (state g.S.Store c.read.new.conn) (c.read.ensures.stays clean),
)

-- each act is of an entry that was refused
refused : (acts items : List Repeat) (rows : BookRows) (old new : State) → acts ≡ items → book.FindsAtRest (IsReadAfter 0 rows) old new
    → All (IsRefused rows.entries rows.replies) items → All (IsRefusedIn old) acts
refused acts items rows old new same finds each =
    each_in_book acts rows old new finds (subst (λ (its : List Repeat). All (IsRefused rows.entries rows.replies) its) (sym {A = List Repeat} same) each)

pub returns-in-Err-clause-adds : goal.returns-in-Err-clause-adds
returns-in-Err-clause-adds g c clean kept =
    let read = c.give_each.ensures.clean clean in
    let acts : List Repeat = c.as_slice.result.now in
    let adds = c.in-Err.ensures.adds clean (kept_as c.in-Err.fault kept) in (
      acts,
      refused acts c.in_ok-repeats.repeats.acts.items c.in_ok-entries.entries.rows
          (state g.S.Store c.args.conn.now) (state g.S.Store c.read.new.conn) (search rules)
          (c.in_ok-entries.ensures.found read) c.in_ok-repeats.ensures.refused,
      adds.0,
      repeats_later (local_clock (g.K.WallClock.shows c.args.desk.now.clock.now) c.args.desk.now.settings.now.zone)
          c.args.desk.now.settings.now.mark c.args.desk.now.settings.now.token adds.0 acts c.args.book.now.place c.give_each.new.book.place
          (state g.S.Store c.args.conn.now) (state g.S.Store c.read.new.conn) (state g.S.Store c.give_each.new.conn)
          (c.read.ensures.stays read) adds.1,
    )

pub returns-in_err-table-clause-adds : goal.returns-in_err-table-clause-adds
returns-in_err-table-clause-adds g c clean kept =
    let given = c.entries_after.ensures.clean clean in
    let read = c.give_each.ensures.clean given in
    let acts : List Repeat = c.as_slice.result.now in
    let adds = c.in-Ok.ensures.adds given (kept_ok _) in (
      acts,
      refused acts c.in_ok-repeats.repeats.acts.items c.in_ok-entries.entries.rows
          (state g.S.Store c.args.conn.now) (state g.S.Store c.read.new.conn) (search rules)
          (c.in_ok-entries.ensures.found read) c.in_ok-repeats.ensures.refused,
      adds.0,
      repeats_before (local_clock (g.K.WallClock.shows c.args.desk.now.clock.now) c.args.desk.now.settings.now.zone)
          c.args.desk.now.settings.now.mark c.args.desk.now.settings.now.token adds.0 acts c.args.book.now.place c.give_each.new.book.place
          (state g.S.Store c.args.conn.now) (state g.S.Store c.give_each.new.conn)
          (state g.S.Store c.entries_after.new.conn)
          (repeats_later (local_clock (g.K.WallClock.shows c.args.desk.now.clock.now) c.args.desk.now.settings.now.zone)
          c.args.desk.now.settings.now.mark c.args.desk.now.settings.now.token adds.0 acts c.args.book.now.place c.give_each.new.book.place
          (state g.S.Store c.args.conn.now) (state g.S.Store c.read.new.conn) (state g.S.Store c.give_each.new.conn)
          (c.read.ensures.stays read) adds.1)
          (c.entries_after.ensures.stays clean),
    )

pub returns-clause-adds : goal.returns-clause-adds
returns-clause-adds g c clean kept =
    let given = c.entries_after.ensures.clean clean in
    let read = c.give_each.ensures.clean given in
    let acts : List Repeat = c.as_slice.result.now in
    let adds = c.in-Ok.ensures.adds given (kept_ok _) in (
      acts,
      refused acts c.in_ok-repeats.repeats.acts.items c.in_ok-entries.entries.rows
          (state g.S.Store c.args.conn.now) (state g.S.Store c.read.new.conn) (search rules)
          (c.in_ok-entries.ensures.found read) c.in_ok-repeats.ensures.refused,
      adds.0,
      repeats_before (local_clock (g.K.WallClock.shows c.args.desk.now.clock.now) c.args.desk.now.settings.now.zone)
          c.args.desk.now.settings.now.mark c.args.desk.now.settings.now.token adds.0 acts c.args.book.now.place c.give_each.new.book.place
          (state g.S.Store c.args.conn.now) (state g.S.Store c.give_each.new.conn)
          (state g.S.Store c.entries_after.new.conn)
          (repeats_later (local_clock (g.K.WallClock.shows c.args.desk.now.clock.now) c.args.desk.now.settings.now.zone)
          c.args.desk.now.settings.now.mark c.args.desk.now.settings.now.token adds.0 acts c.args.book.now.place c.give_each.new.book.place
          (state g.S.Store c.args.conn.now) (state g.S.Store c.read.new.conn) (state g.S.Store c.give_each.new.conn)
          (c.read.ensures.stays read) adds.1)
          (c.entries_after.ensures.stays clean),
    )

-- ---- what is printed

pub returns-clause-says : goal.returns-clause-says
returns-clause-says g c clean =
    let given = c.entries_after.ensures.clean clean in
    let read = c.give_each.ensures.clean given in
    let tells = IsExchanged (g.V.Server.opens c.args.desk.now.server.now) g.V.Reader.Read.remaining g.V.Writer.Write.contents in
    let shows = local_clock (g.K.WallClock.shows c.args.desk.now.clock.now) c.args.desk.now.settings.now.zone in
    let mark = c.args.desk.now.settings.now.mark in
    let token = c.args.desk.now.settings.now.token in
    let own = c.args.desk.now.settings.now.staff in
    let old = state g.S.Store c.args.conn.now in
    let acts : List Repeat = c.as_slice.result.now in
    let rows = c.in_ok-entries.entries.rows in
    let same : acts ≡ c.in_ok-repeats.repeats.acts.items = search rules in
    three_ok c.again_said.result _ _ _ _ c.again_said.ensures.text c.again_said.ensures.left c.again_said.ensures.given
    (λ said more left whole. again_shown tells c.args.desk.now.wall (offset_of c.args.desk.now.settings.now.zone) own shows mark token
    c.args.book.now.place c.give_each.new.book.place old (state g.S.Store c.give_each.new.conn)
    (state g.S.Store c.entries_after.new.conn) (string_bytes c.in_ok-table.table.text) (string_bytes said.text) said.status
    (λ zero. (
      acts,
      left_in_book acts rows old (state g.S.Store c.read.new.conn) (c.in_ok-entries.ensures.found read)
          (subst (λ (its : List Repeat). AreLeft rows.entries rows.replies (length rows.entries) its) (sym same)
          (c.in_ok-repeats.ensures.left (sym c.as_str-2.ensures.value ∙ left zero))),
      book_before tells shows mark token own (length acts) acts c.args.book.now.place c.give_each.new.book.place
          old (state g.S.Store c.give_each.new.conn) (state g.S.Store c.entries_after.new.conn)
          (book_later tells shows mark token own (length acts) acts c.args.book.now.place c.give_each.new.book.place
          old (state g.S.Store c.read.new.conn) (state g.S.Store c.give_each.new.conn)
          (c.read.ensures.stays read) (c.in-Ok.ensures.given given (whole (omega (arith, zero)))))
          (c.entries_after.ensures.stays clean),
    ))
    (goes_then _ mark c.args.book.now.place c.args.book.now.place c.give_each.new.book.place old (state g.S.Store c.read.new.conn)
    (state g.S.Store c.give_each.new.conn)
    (kept_goes _ mark c.args.book.now.place old (state g.S.Store c.read.new.conn) (c.read.ensures.stays read))
    (c.in-Ok.ensures.keeps given (kept_ok _)))
    (c.entries_after.ensures.stays clean) (c.in_ok-table.ensures.says clean) more)
