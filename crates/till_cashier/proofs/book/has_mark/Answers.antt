use Rattle.std.proofs.Common.{Some, None}
use Rattle.std.proofs.lemmas.Slice.Eq.{strip_prefix_is}
use Rattle.std.proofs.lemmas.Bool.Decides.{Decides-eqb}
use Rattle.till_cashier.proofs.Marks.{no_mark, mark_then}
use Rattle.till_cashier.proofs.book.has_mark.Goals as goal

pub returns-in-Some : goal.returns-in-Some
returns-in-Some c =
    mark_then c.args.mark.now c.args.key.now c.in-Some.rest.now c.starts_with.result
    (strip_prefix_is Decides-eqb c.args.key.now c.args.mark.now (Some c.in-Some.rest) c.in-Some.ensures.cases)
    c.starts_with.ensures.value

pub returns-in-None : goal.returns-in-None
returns-in-None c = no_mark c.args.mark.now c.args.key.now (strip_prefix_is Decides-eqb c.args.key.now c.args.mark.now None c.in-None.ensures.cases)
