use Rattle.shop_schema.proofs.Common.{◌≡◌, ◌∙◌, sym, ap, subst, arith, Schema, Database, state, HasCleanDisk}
use Rattle.sql_rows.proofs.Common.{MakeAll}
use Rattle.till_files.specs.Migrations.{first_schema}
use Rattle.till_files.proofs.Filled.{first_texts, make_first}
use Rattle.till_files.proofs.old_books.make_first.Goals as goal

pub returns-in-Ok : goal.returns-in-Ok
returns-in-Ok g c = record {
  schema = λ clean none.
      let last = c.make_tables.new.tx.conn.now in
      let end = c.commit.new.self.0 in
      let same : end ≡ c.conn-2-1.given.0 = sym (c.conn-2-1.given.1 (sym (c.make_tables.ensures.same_reference ∙ c.transaction-tx.ensures.same_reference))) in
      let clean_end : HasCleanDisk (state g.S.Store end) = subst (λ h. HasCleanDisk (state g.S.Store h)) (sym same) clean in
      let clean_last : HasCleanDisk (state g.S.Store last) = omega (arith, clean_end, c.commit.ensures.survives.clean) in
      let built =
      c.in_ok-make_tables.ensures.made clean_last first_schema
      (record {
        makes = rw c.transaction-tx.ensures.begun (subst (λ (s : Schema). MakeAll first_schema s first_texts) (sym none) make_first);
        empty = rw c.transaction-tx.ensures.begun (rw none tt);
      }) in
      subst (λ h. (state g.S.Store h).now.schema ≡ first_schema) same (ap (λ (d : Database). d.schema) (c.in-Ok.ensures.ok clean_end).1.now_is ∙ built.makes);
}
