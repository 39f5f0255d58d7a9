use Rattle.shop_schema.proofs.Common.{inside_as}
use Rattle.consign_store.proofs.Texts.{read_place}
use Rattle.consign_store.proofs.headers.last_place.Goals as goal

pub returns : goal.returns
returns g c = record {
  inside = inside_as c.in_ok-rows.ensures.inside;
  says = λ clean. read_place _ _ _ _ c.first_place.result (c.in_ok-rows.ensures.shown clean) c.as_slice.ensures.value c.first_place.ensures;
}
