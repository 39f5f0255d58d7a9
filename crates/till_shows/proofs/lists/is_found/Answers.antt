use Rattle.std.proofs.Common.{◌≡◌, ◌∙◌, false, sym, string_bytes}
use Rattle.till_shows.specs.Lists.{stands_in}
use Rattle.till_shows.proofs.ListLemmas.{front_of, found_later}
use Rattle.till_shows.proofs.lists.is_found.Goals as goal

pub loop-text-preserved : goal.loop-text-preserved
loop-text-preserved c =
    let no : stands_in c.args.part.now (string_bytes c.text-item.result) ≡ false = cc in
    sym (found_later c.args.part.now _ _ _
    (front_of string_bytes c.args.texts.now c.loop-text.text-index c.text-item.result c.loop-text-test.true c.text-item.is) no)
    ∙ c.loop-text.invariant
