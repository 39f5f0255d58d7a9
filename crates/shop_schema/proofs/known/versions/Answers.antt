use Rattle.shop_schema.proofs.Versions.{read_if}
use Rattle.shop_schema.proofs.known.versions.Goals as goal

pub returns-clause-read : goal.returns-clause-read
returns-clause-read g c clean has = read_if (λ rows. rows.items) c.query.result _ _ (c.query.ensures.shown clean) has
