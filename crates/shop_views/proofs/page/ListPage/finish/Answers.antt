use Rattle.std.proofs.Common.{string_bytes, sym}
use Rattle.shop_views.proofs.PageLemmas.{finished}
use Rattle.shop_views.proofs.page.ListPage.finish.Goals as goal

pub returns : goal.returns
returns c texts is =
    finished texts (string_bytes c.self.inside.text) _ (string_bytes c.push_str.new.self) c.self.inside.has_items c.args.self is
    (sym c.self.view_is) c.closing.ensures c.in_ok-push_str.ensures.bytes
