use Rattle.sql_rows.proofs.Common.{sym}
use Rattle.till_book.specs.Seen.{seen_reply}
use Rattle.till_book.proofs.Drawers.{at_place, past}
use Rattle.till_book.proofs.drawer.reply_at.Goals as goal

pub returns-in-Some : goal.returns-in-Some
returns-in-Some c =
    let h = c.in-Some.ensures.lookup in
    sym (at_place seen_reply c.args.answers.now c.args.at c.in-Some.reply.now h.3.0 h.1)

pub returns-in-None : goal.returns-in-None
returns-in-None c = sym (past seen_reply c.args.answers.now c.args.at c.in-None.ensures.lookup.3)
