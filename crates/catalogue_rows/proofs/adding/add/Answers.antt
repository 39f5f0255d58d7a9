use Rattle.shop_schema.proofs.Common.{◌≡◌, ◌+◌, ◌∙◌, ap, refl, subst, arith, length, string_bytes, state, object, office_told, accepted_answer, Books}
use Rattle.shop_schema.proofs.Common.{seen_office, counts_of, HoldsWith}
use Rattle.shop_ledger.specs.Counted.{office_counted}
use Rattle.shop_ledger.proofs.OfficeCounts.{office_counts_agreed, office_grown_once}
use Rattle.sql_rows.proofs.Chaining.{then_does, done_inside}
use Rattle.catalogue_rows.proofs.Written.{act_kept}
use Rattle.catalogue_rows.proofs.adding.add.Goals as goal

pub returns-clause-does : goal.returns-clause-does
returns-clause-does g c = done_inside (then_does c.in_ok-number.ensures c.in_ok-keep.ensures) (λ said. (
  refl,
  λ books holds held.
      let command = seen_office c.args.command.now in
      let b = length books.catalogue.branches + 1 in
      let s2 = state g.S.Store c.keep.new.tx.conn.now in
      let written = said.0 books holds held in
      let told : string_bytes c.in_ok-text.text ≡ object (office_told command.act books.catalogue) = c.in_ok-text.ensures ∙ ap object written.1 in
      let kept = said.1 _ _ written.0 (office_grown_once command.act b books (omega arith) held) in
      let reply : c.as_str.result.now ≡ string_bytes c.in_ok-text.text = c.as_str.ensures.value in
      let done =
      subst (λ (it : Books). HoldsWith (office_counted command.act b (counts_of books)) s2 it)
      (act_kept command c.as_str.result.now books (reply ∙ told)) kept in
      (office_counts_agreed s2 command books held.owners holds.stands.more.termed done, c.accepted.ensures ∙ ap accepted_answer told),
))

pub returns-clause-accepted : goal.returns-clause-accepted
returns-clause-accepted g c = (_, c.accepted.ensures)
