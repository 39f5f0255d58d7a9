use Rattle.shop_schema.proofs.Common.{◌≡◌, ◌∙◌, ◌++◌, ◌∷◌, [], sym, ap, map, not, ℕ, Bool, false, List, Some, take_all, and_then, done, some_calls, Mark}
use Rattle.shop_schema.proofs.Common.{seen_parcel_line, ParcelLine}
use Rattle.std.specs.Prelude.{◌||◌}
use Rattle.shop_store.specs.Seen.{seen_copy_row}
use Rattle.branch_core.specs.Marked.{listed_at}
use Rattle.branch_core.proofs.MarkLemmas.{is_gone}
use Rattle.consign_finds.specs.Finds.{copy_parcel}
use Rattle.consign_finds.proofs.Parcels.{one_listed, each_listed}
use Rattle.consign_finds.proofs.find_each.Goals.{then-has_away, else-has_away, then-has_out, else-has_out}
use Rattle.consign_finds.proofs.find_each.Goals as goal

pub loop-copy-preserved : goal.loop-copy-preserved
loop-copy-preserved g c =
    let xs = c.args.copies.now in
    let i = c.loop-copy.copy-index in
    let x = c.copy-item.result in
    let row = c.in_ok-row.row in
    let out = c.in_ok-row.is_out in
    let before = c.loop-copy.lines.items in
    let away : c.if-has_away.has_away ≡ (c.loop-copy.has_away || is_gone (Some (seen_copy_row row).it)) = elim c.if-has_away.branch [
      | then-has_away w ↦ w.has_away-is ∙ w.if-has_away.true ∙ sym (ap (λ b. b || is_gone (Some (seen_copy_row row).it)) w.if-has_away.true)
      | else-has_away w ↦ w.has_away-is ∙ ap not (w.is_here.ensures row.film) ∙ sym (ap (λ b. b || is_gone (Some (seen_copy_row row).it)) w.if-has_away.false)
    ] in
    let outs : c.if-has_out.has_out ≡ (c.loop-copy.has_out || out) = elim c.if-has_out.branch [
      | then-has_out w ↦ w.has_out-is ∙ w.if-has_out.true ∙ sym (ap (λ b. b || out) w.if-has_out.true)
      | else-has_out w ↦ w.has_out-is ∙ sym (ap (λ b. b || out) w.if-has_out.false)
    ] in
    let pushed : c.push.new.self.items ≡ before ++ copy_parcel row ∷ [] =
    c.in-Ok.ensures.items ∙ ap (λ (l : ParcelLine). before ++ l ∷ []) c.copy_parcel.ensures in
    done (and_then (some_calls c.loop-copy.invariant) (some_calls c.in_ok-row.ensures)) (λ said books holds held.
    let were = said.0 books holds held in
    let read = said.1 books were.0 held in (
      read.0,
      (λ j. let p : Bool × Bool × Bool × List (ℕ × Mark) = (false, away j, outs j, map seen_parcel_line (pushed j)) in p)
          ∙ one_listed c.args.branch xs i x books row c.loop-copy.has_away c.loop-copy.has_out
          out before c.loop-copy-test.true c.copy-item.is were.1 read.1.0 read.1.1,
    ))

pub returns : goal.returns
returns g c = done (some_calls c.loop-copy.invariant) (λ said books holds held.
    let xs = c.args.copies.now in
    let were = said books holds held in
    let all = were.1 ∙ ap (λ (ys : List ℕ). listed_at c.args.branch ys books) (take_all c.loop-copy.copy-index xs c.loop-copy-test.false) in
    (were.0, each_listed c.args.branch xs books c.loop-copy.has_away c.loop-copy.has_out c.loop-copy.lines.items c.new.result all c.new.ensures))
