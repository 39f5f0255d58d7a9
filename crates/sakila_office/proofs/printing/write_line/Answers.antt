use Rattle.shop_schema.proofs.Common.{[], ◌∷◌, on_err_weaker}
use Rattle.http_messages.proofs.WriteLemmas.{OnErr-all, first_front, second_front}
use Rattle.sakila_office.proofs.printing.write_line.Goals as goal

pub returns-in_err-write_whole-clause-err : goal.returns-in_err-write_whole-clause-err
returns-in_err-write_whole-clause-err g c = OnErr-all c.from_residual.result (first_front _ _ c.args.text.now (10 ∷ []) c.in_err-write_whole.ensures.err)

pub returns-clause-err : goal.returns-clause-err
returns-clause-err g c =
    on_err_weaker c.write_whole-2.result (second_front _ _ _ c.args.text.now (10 ∷ []) c.in_ok-write_whole.ensures.ok) c.write_whole-2.ensures.err
