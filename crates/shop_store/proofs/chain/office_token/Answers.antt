use Rattle.shop_schema.proofs.Common.{rules, inside_as}
use Rattle.shop_store.proofs.TokenReads.{read_office_token}
use Rattle.shop_store.proofs.chain.office_token.Goals as goal

pub returns-in-Some : goal.returns-in-Some
returns-in-Some g c = record {
  inside = inside_as c.in_ok-query_first.ensures.inside;
  says = λ clean.
      let these = c.in_ok-query_first.ensures.shown clean in
      read_office_token (λ row token says. search rules) _ _ _ _ c.in-Some.token these.1 these.2 c.in-Some.is;
}
