use Rattle.std.proofs.Common.{rules, ◌≡◌, ◌+◌, ◌++◌, [], ◌∷◌, ◌∙◌, map, drop, arith, refl, sym}
use Rattle.books_audit.specs.Triples.{seen_pair}
use Rattle.books_audit.proofs.PairRows.{cut_at, of_same, of_other}
use Rattle.books_audit.proofs.counts.pairs.Goals as goal

pub loop-header-preserved-then-is_same_pair : goal.loop-header-preserved-then-is_same_pair
loop-header-preserved-then-is_same_pair c =
    let cut : drop c.loop-header.header-index c.in-Some.rest.now ≡ c.header-item.result ∷ drop (c.loop-header.header-index + 1) c.in-Some.rest.now =
    cut_at c.in-Some.rest.now c.loop-header.header-index c.header-item.result c.loop-header-test.true c.header-item.is in
    let same = sym c.is_same_pair.ensures ∙ c.if-is_same_pair.true in
    record {
      follows =
          of_same c.loop-header.last.now c.header-item.result _ _ c.loop-header.count _ cut
          (map seen_pair c.loop-header.all.items) c.loop-header.invariant.follows same;
      fits = omega arith;
    }

pub loop-header-preserved : goal.loop-header-preserved
loop-header-preserved c =
    let cut : drop c.loop-header.header-index c.in-Some.rest.now ≡ c.header-item.result ∷ drop (c.loop-header.header-index + 1) c.in-Some.rest.now =
    cut_at c.in-Some.rest.now c.loop-header.header-index c.header-item.result c.loop-header-test.true c.header-item.is in
    let good : c.push.new.self.items ≡ c.loop-header.all.items ++ c.pair_of.result ∷ [] = search rules in
    let other = sym c.is_same_pair.ensures ∙ c.if-is_same_pair.false in
    record {
      follows =
          of_other c.loop-header.last.now c.header-item.result _ _ c.loop-header.count _ cut (map seen_pair c.loop-header.all.items)
          c.loop-header.invariant.follows c.loop-header.all.items c.push.new.self.items c.pair_of.result refl good c.pair_of.ensures other;
      fits = omega arith;
    }
