use Rattle.shop_schema.proofs.Common.{◌∙◌, sym, true, subst, done, of, shop_of, unmarked, length_map}
use Rattle.sql_rows.proofs.Chaining.{one_call, and_more}
use Rattle.branch_core.specs.declared.found.ListedFound.{ListedFound}
use Rattle.consign_finds.specs.Finds.{AreListed}
use Rattle.consign_finds.proofs.Parcels.{unknown_listed}
use Rattle.consign_finds.proofs.find_listed.Goals as goal

pub returns-then-has_unknown_copy : goal.returns-then-has_unknown_copy
returns-then-has_unknown_copy g c = done (one_call c.in_ok-count.ensures.does) (λ said books holds held.
    let none : ListedFound → ListedFound = λ it. record it { has_unknown = true } in
    let read = said books holds held in
    let unknown = c.has_unknown_copy.ensures (shop_of c.args.branch books) (read.1 ∙ sym (length_map unmarked (of c.args.branch books.copies))) in (
      read.0,
      subst (λ (it : ListedFound). AreListed c.args.branch c.args.copies.now (none it) books) (sym c.none.ensures)
          (unknown_listed c.args.branch c.args.copies.now books (sym c.if-has_unknown_copy.true ∙ unknown)),
    ))

pub returns-then-copies-gt100 : goal.returns-then-copies-gt100
returns-then-copies-gt100 g c = and_more (one_call c.in_ok-count.ensures.does) c.find_among.ensures (λ said listed are books holds held.
    let read = said books holds held in
    let found = are books read.0 held in
    let unknown = c.has_unknown_copy.ensures (shop_of c.args.branch books) (read.1 ∙ sym (length_map unmarked (of c.args.branch books.copies))) in
    (found.0, found.1 (sym unknown ∙ c.if-has_unknown_copy.false)))

pub returns-else-copies-gt100 : goal.returns-else-copies-gt100
returns-else-copies-gt100 g c =
    and_more (one_call c.in_ok-count.ensures.does) c.find_each.ensures (λ said listed are books holds held. are books (said books holds held).0 held)
