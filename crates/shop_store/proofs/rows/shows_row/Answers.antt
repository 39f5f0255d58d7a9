use Rattle.std.proofs.Common.{◌≡◌, ◌==◌, ℕ, length, not, ap, ◌∙◌, arith}
use Rattle.std.specs.Prelude.{vec_len}
use Rattle.shop_schema.proofs.Common.{inside_as}
use Rattle.shop_store.proofs.rows.shows_row.Goals as goal

pub returns-in-Ok-clause-does : goal.returns-in-Ok-clause-does
returns-in-Ok-clause-does g c =
    let rows = c.in-Ok.rows in
    let count : vec_len rows ≡ length rows.items = omega (arith, rows.ok.0) in
    record {
      inside = inside_as c.in-Ok.ensures.inside;
      says = λ clean. (rows.items, c.in-Ok.ensures.shown clean, ap not (c.is_empty.ensures ∙ ap (λ (n : ℕ). n == 0) count));
    }
