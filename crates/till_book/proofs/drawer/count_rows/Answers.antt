use Rattle.sql_rows.proofs.Common.{◌≡◌, ◌∙◌, ◌+◌, ◌++◌, ◌<◌, ◌≤◌, ℕ, List, Some, length, slice_get, map, sym, ap, subst, arith, refl, option_to_list}
use Rattle.shop_model.specs.Values.{Command}
use Rattle.till_book.specs.Saying.{Says}
use Rattle.till_book.specs.Seen.{seen_reply}
use Rattle.till_book.specs.Drawer.{Came, counts, counted_from}
use Rattle.till_model.specs.Laws.{entries_of}
use Rattle.sql_rows.proofs.Bags.{length-map}
use Rattle.std.specs.Prelude.{drop}
use Rattle.till_book.proofs.Drawers.{one_counted, all_counted, at_place}
use Rattle.till_book.proofs.drawer.count_rows.Goals as goal

pub loop-at-preserved : goal.loop-at-preserved
loop-at-preserved c commands say =
    let n = c.args.replies in
    let known = c.args.known.now in
    let late = c.args.late.now in
    let k : ℕ = c.args.from + 1 in
    let i = c.loop-at.at in
    let entry = c.index-entries-at.result in
    let requests = map (λ row. row.request) c.args.entries.now in
    let answers = map seen_reply c.args.answers.now in
    let low : i < length c.args.entries.now = omega (arith, c.loop-at-test.true) in
    let there : slice_get requests i ≡ Some entry.request = at_place (λ row. row.request) c.args.entries.now i entry low c.index-entries-at.is in
    let place : c.in_ok-number.number ≡ k + i = omega (arith, c.in_ok-number.ensures) in
    let asked : c.as_slice-request.result.now ≡ entry.request = c.as_slice-request.ensures in
    let counts_it : (command : Command) → Says entry.request command
    → option_to_list c.in_ok-it.it ≡ counts n known late (k + i) (record { command = command; reply = slice_get answers i }) =
    λ command says.
    c.in_ok-it.ensures command (subst (λ (bytes : List ℕ). Says bytes command) (sym asked) says)
    ∙ ap (λ o. counts n known late c.in_ok-number.number (record { command = command; reply = o })) c.reply_at-reply.ensures
    ∙ ap (λ (m : ℕ). counts n known late m (record { command = command; reply = slice_get answers i })) place in
    ap (λ (l : List Came). l ++ counted_from n known late (k + (i + 1)) (drop (i + 1) (entries_of commands answers))) c.in_ok-push_counted.ensures
    ∙ one_counted n known late k i requests entry.request commands answers c.loop-at.all.items
    (option_to_list c.in_ok-it.it) say there counts_it (c.loop-at.invariant commands say)

pub returns : goal.returns
returns c commands say =
    let requests = map (λ row. row.request) c.args.entries.now in
    let end : length requests ≤ c.loop-at.at = omega (arith, length-map (λ row. row.request) c.args.entries.now, c.loop-at-test.false) in
    all_counted c.args.replies c.args.known.now c.args.late.now (c.args.from + 1) c.loop-at.at requests commands
    (map seen_reply c.args.answers.now) c.loop-at.all.items say end (c.loop-at.invariant commands say)
