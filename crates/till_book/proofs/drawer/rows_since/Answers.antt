use Rattle.sql_rows.proofs.Common.{◌≡◌, ◌∙◌, ◌+◌, ◌<◌, ℕ, List, true, false, map, sym, ap, subst}
use Rattle.sql_rows.proofs.Chaining.{first_done, and_then, one_call}
use Rattle.shop_model.specs.Values.{Command}
use Rattle.till_model.specs.Laws.{entries_of}
use Rattle.till_book.specs.Saying.{Say}
use Rattle.till_book.specs.Seen.{seen_reply}
use Rattle.till_book.specs.Journal.{Finds}
use Rattle.till_book.specs.Read.{in_order}
use Rattle.till_book.specs.Drawer.{late_of, is_among, counted_from}
use Rattle.till_book.proofs.Drawers.{is_since}
use Rattle.till_book.proofs.drawer.rows_since.Goals as goal

pub returns : goal.returns
returns g c =
    let n = c.args.replies in
    let known = c.args.known.now in
    let from = c.first_needed-from.result in
    let late = c.in_ok-late.late.items in
    let answers = map seen_reply c.as_slice-answers.result.now in
    let low = c.first_needed-from.ensures.low in
    let before : (m : ℕ) → 0 < m → is_among m late ≡ true → is_among m known ≡ false → from < m =
    subst (λ l. (m : ℕ) → 0 < m → is_among m l ≡ true → is_among m known ≡ false → from < m) c.as_slice-2.ensures.value c.first_needed-from.ensures.before in
    first_done {P = λ it. Finds (λ journal. it ≡ in_order journal.settled)}
    (record { inside = c.in_ok-settled.ensures.inside; says = c.in_ok-settled.ensures.found })
    (and_then (one_call c.in_ok-rows.ensures) (one_call c.in_ok-replies.ensures)) (λ said more journal holds.
    let settled = said journal holds in
    let rows = more.0 journal settled.0 in
    let replies = more.1 journal rows.0 in (
      replies.0,
      is_since n known from c.in_ok-replies.replies c.in_ok-rows.rows journal c.in_ok-settled.settled _ holds.stands.is.once settled.1
          (c.in_ok-late.ensures ∙ ap late_of c.as_slice.ensures) low before rows.1
          (λ commands say.
          c.in_ok-came.ensures commands (subst (λ l. Say l commands) (sym c.as_slice-entries.ensures) say)
          ∙ ap (λ l. counted_from n known l (from + 1) (entries_of commands answers)) c.as_slice-3.ensures.value
          ∙ ap (λ l. counted_from n known late (from + 1) (entries_of commands l)) c.as_slice-answers.ensures)
          replies.1,
    ))
