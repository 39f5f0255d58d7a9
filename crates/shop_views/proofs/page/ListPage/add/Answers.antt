use Rattle.std.proofs.Common.{◌∙◌, ◌++◌, ap, sym, List, ℕ, string_bytes}
use Rattle.serde_json.specs.View.{view}
use Rattle.serde_json.specs.Written.{compact_text}
use Rattle.shop_views.proofs.PageLemmas.{pushed_page}
use Rattle.shop_views.proofs.page.ListPage.add.Goals as goal

pub returns-clause-added : goal.returns-clause-added
returns-clause-added c texts none is =
    pushed_page texts (compact_text (view c.args.value.now)) (string_bytes c.in_ok-piece.piece)
    (string_bytes c.self.inside.text) (string_bytes c.push_str.new.self) c.self.inside.has_items c.args.self.now is
    (sym c.self.view_is) (c.in_ok-piece.ensures none)
    (c.in_ok-push_str.ensures.bytes ∙ ap (λ (l : List ℕ). string_bytes c.self.inside.text ++ l) c.as_str.ensures.value)
