use Rattle.std.proofs.Common.{◌+◌, ◌∙◌, true, false, refl, sym, ap}
use Rattle.audit_rows.specs.Parts.{rows_of, are_good_from}
use Rattle.audit_rows.proofs.PartLemmas.{rests_begin, next_part, next_rests, good_step}
use Rattle.audit_rows.proofs.sound.are_parts_good.Goals as goal

pub loop-row-init : goal.loop-row-init
loop-row-init c =
    let e = c.whole-rest.ensures in
    record {
      branch = refl;
      good = refl;
      rest = rests_begin c.args.books.now c.whole-rest.result c.requires.ordered c.requires.owned e.rows e.lots e.kept e.headers;
    }

pub returns-then-not-branch : goal.returns-then-not-branch
returns-then-not-branch c =
    let loop = c.loop-row in
    let part =
    next_part c.args.books.now loop.row-index loop.branch loop.invariant.branch loop.rest loop.invariant.rest
    (rows_of c.take_branch.result.0) c.take_branch.ensures.part in
    let step =
    good_step c.args.books.now loop.branch loop.row-index c.as_slice-row-items.result.now c.row-item.result
    (rows_of c.take_branch.result.0) false c.loop-row-test.true c.row-item.is part (sym c.if-not-branch.true ∙ c.in_ok-is_good.ensures) in
    sym step ∙ loop.invariant.good ∙ ap (are_good_from c.args.books.now 1) c.as_slice-row-items.ensures.value

pub loop-row-preserved : goal.loop-row-preserved
loop-row-preserved c =
    let loop = c.loop-row in
    let part =
    next_part c.args.books.now loop.row-index loop.branch loop.invariant.branch loop.rest loop.invariant.rest
    (rows_of c.take_branch.result.0) c.take_branch.ensures.part in
    let step =
    good_step c.args.books.now loop.branch loop.row-index c.as_slice-row-items.result.now c.row-item.result
    (rows_of c.take_branch.result.0) true c.loop-row-test.true c.row-item.is part (sym c.if-not-branch.false ∙ c.in_ok-is_good.ensures) in
    record {
      branch = ap (λ n. n + 1) loop.invariant.branch;
      good = sym step ∙ loop.invariant.good;
      rest =
          next_rests c.args.books.now loop.row-index loop.branch loop.invariant.branch
          loop.rest loop.invariant.rest c.take_branch.result.1 c.take_branch.ensures.more;
    }
