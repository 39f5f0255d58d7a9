use Rattle.shop_schema.proofs.Common.{◌≡◌, ◌∙◌, sym, ap, Bool, list_any, and_then, done, mem}
use Rattle.sql_rows.proofs.Chaining.{one_call}
use Rattle.std.specs.Prelude.{◌||◌}
use Rattle.consign_finds.proofs.Among.{among_listed}
use Rattle.consign_finds.proofs.find_among.Goals.{then-is_sent, else-is_sent}
use Rattle.consign_finds.proofs.find_among.Goals as goal

pub returns : goal.returns
returns g c =
    done (and_then (one_call c.in_ok-sent.ensures) (and_then (one_call c.in_ok-scrapped.ensures) (one_call c.in_ok-out.ensures))) (λ said books holds held.
    let xs = c.args.copies.now in
    let sent = c.in_ok-sent.sent.items in
    let scrapped = c.in_ok-scrapped.scrapped.items in
    let either : (b : Bool) → Bool = λ b. b || list_any (λ x. mem x scrapped) xs in
    let away : c.if-is_sent.result ≡ (list_any (λ x. mem x sent) xs || list_any (λ x. mem x scrapped) xs) = elim c.if-is_sent.branch [
      | then-is_sent w ↦ w.result-is ∙ w.if-is_sent.true ∙ sym (ap either (sym c.has_any-is_sent.ensures ∙ w.if-is_sent.true))
      | else-is_sent w ↦ w.result-is ∙ c.has_any-is_scrapped.ensures ∙ sym (ap either (sym c.has_any-is_sent.ensures ∙ w.if-is_sent.false))
    ] in
    let one = said.0 books holds held in
    let two = said.1.0 books one.0 held in
    let three = said.1.1 books two.0 held in (
      three.0,
      λ known.
          among_listed c.args.branch xs books sent scrapped c.in_ok-out.out.items c.if-is_sent.result
          c.has_any.result held.numbers known one.1 two.1 three.1 away c.has_any.ensures,
    ))
