use Rattle.shop_schema.proofs.Common.{◌∙◌, sym, ap, List, ℕ, list_any, take_all, mem}
use Rattle.consign_finds.proofs.Among.{told_by_search, some_among, none_among}
use Rattle.consign_finds.proofs.has_any.Goals as goal

pub returns-then-is_ok : goal.returns-then-is_ok
returns-then-is_ok c =
    let numbers = c.args.numbers.items in
    let x = c.copy-item.result in
    let told =
    told_by_search numbers c.sort_unstable.new.self.items x c.binary_search.result c.sort_unstable.ensures.permutation c.sort_unstable.ensures.sorted
    (rw (sym c.deref.ensures.value) c.binary_search.ensures.position) in
    sym (some_among numbers c.args.copies.now c.loop-copy.copy-index x c.loop-copy-test.true c.copy-item.is
    (sym told ∙ sym c.is_ok.ensures.value ∙ c.if-is_ok.true))

pub loop-copy-preserved : goal.loop-copy-preserved
loop-copy-preserved c =
    let numbers = c.args.numbers.items in
    let x = c.copy-item.result in
    let told =
    told_by_search numbers c.sort_unstable.new.self.items x c.binary_search.result c.sort_unstable.ensures.permutation c.sort_unstable.ensures.sorted
    (rw (sym c.deref.ensures.value) c.binary_search.ensures.position) in
    none_among numbers c.args.copies.now c.loop-copy.copy-index x c.loop-copy-test.true c.copy-item.is
    (sym told ∙ sym c.is_ok.ensures.value ∙ c.if-is_ok.false) c.loop-copy.invariant

pub returns : goal.returns
returns c =
    sym (sym (ap (λ (xs : List ℕ). list_any (λ x. mem x c.args.numbers.items) xs) (take_all c.loop-copy.copy-index c.args.copies.now c.loop-copy-test.false))
    ∙ c.loop-copy.invariant)
