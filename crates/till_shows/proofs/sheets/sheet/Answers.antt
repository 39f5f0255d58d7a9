use Rattle.std.proofs.Common.{◌≡◌, ◌∙◌, ◌++◌, List, ℕ, sym, ap, string_bytes}
use Rattle.serde_json.specs.View.{view}
use Rattle.till_shows.specs.Sheets.{field_line}
use Rattle.till_shows.proofs.FoundLemmas.{handed_on}
use Rattle.till_shows.proofs.SheetLemmas.{line_more, line_none, lines_done}
use Rattle.till_shows.proofs.sheets.sheet.Goals as goal

pub loop-part-preserved : goal.loop-part-preserved
loop-part-preserved c =
    let f = field_line (view c.args.value.now) in
    let before = string_bytes c.loop-part.sheet in
    let text : string_bytes c.push_str.new.self ≡ before ++ string_bytes c.in_ok-line.line =
    c.in_ok-push_str.ensures.bytes ∙ ap (λ (t : List ℕ). before ++ t) c.as_str.ensures.value in
    rw text
    (sym (line_more f before c.args.parts.now c.loop-part.part-index c.part-item.result
    (string_bytes c.in_ok-line.line) c.loop-part-test.true c.part-item.is c.in_ok-line.ensures.shown)
    ∙ c.loop-part.invariant)

pub returns-in_err-line-clause-other : goal.returns-in_err-line-clause-other
returns-in_err-line-clause-other c =
    let f = field_line (view c.args.value.now) in
    handed_on _ _ c.from_residual.ensures.1 (λ e.
    sym c.loop-part.invariant
    ∙ line_none f (string_bytes c.loop-part.sheet) c.args.parts.now c.loop-part.part-index
    c.part-item.result c.loop-part-test.true c.part-item.is (c.in_err-line.ensures.other e))

pub returns-clause-shown : goal.returns-clause-shown
returns-clause-shown c =
    let f = field_line (view c.args.value.now) in
    sym c.loop-part.invariant ∙ lines_done f (string_bytes c.loop-part.sheet) c.args.parts.now c.loop-part.part-index c.loop-part-test.false
