use Rattle.std.proofs.Common.{◌∙◌, sym}
use Rattle.std.proofs.lemmas.Bool.{false≢true}
use Rattle.till_book.specs.Seen.{seen_reply}
use Rattle.till_cashier.proofs.Left.{back_is, is_back}
use Rattle.till_cashier.proofs.entries.is_back.Goals as goal

pub returns-clause-back : goal.returns-clause-back
returns-clause-back c = λ is. back_is (seen_reply c.args.reply.now) (sym c.is_moment_back.ensures ∙ is)

pub returns-clause-other : goal.returns-clause-other
returns-clause-other c = λ other back. false≢true (sym other ∙ c.is_moment_back.ensures ∙ is_back (seen_reply c.args.reply.now) back)
