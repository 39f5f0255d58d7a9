use Rattle.shop_types.proofs.Common.{sym, subst, rules, IsUtf8}
use Rattle.till_requests.proofs.MarkLemmas.{mark-utf8}
use Rattle.till_requests.proofs.marks.TillMark.as_str.Goals as goal

pub unwrap-requires : goal.unwrap-requires
unwrap-requires c =
    let utf8 : IsUtf8 c.as_slice.result.now = subst IsUtf8 (sym c.as_slice.ensures) (mark-utf8 c.self.inside.letters c.self.invariant) in
    search rules
