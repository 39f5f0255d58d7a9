use Rattle.shop_types.specs.Seen.{seen_act}
use Rattle.till_cashier.proofs.Saying.{untitled}
use Rattle.till_cashier.proofs.word.about_accepted.Goals as goal

pub returns-then-not-is_accepted : goal.returns-then-not-is_accepted
returns-then-not-is_accepted g c =
    rw c.nothing.ensures.title (untitled c.args.desk.now.sheet.now (seen_act c.args.act.now))
