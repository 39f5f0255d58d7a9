use Rattle.shop_schema.proofs.Common.{IfOk-weaker, inside_as}
use Rattle.shop_ledger.proofs.CountLemmas.{read_copies}
use Rattle.shop_ledger.proofs.counts.copies_out.Goals as goal

pub returns : goal.returns
returns g c = record {
  inside = inside_as c.in_ok-rows.ensures.inside;
  says = λ clean.
      let shown = rw (c.to_sql.ensures, c.get.ensures.value) at (c.in_ok-rows.ensures.shown clean) in
      IfOk-weaker c.row_numbers_in.result _ _
      (λ copies is. read_copies _ _ c.args.branch _ _ copies.items shown c.as_slice.ensures.value is) c.row_numbers_in.ensures;
}
