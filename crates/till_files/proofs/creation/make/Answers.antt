use Rattle.shop_schema.proofs.Common.{◌≡◌, ◌∙◌, sym, ap, subst, arith, Database, state, HasCleanDisk, Survives}
use Rattle.till_book.specs.Tables.{book_schema}
use Rattle.till_book.specs.Steps.{Rests}
use Rattle.till_files.specs.Files.{LeavesMade, empty_journal}
use Rattle.till_files.proofs.Making.{rests_after, made_new}
use Rattle.till_files.proofs.creation.make.Goals as goal

pub returns-in-Ok-clause-made : goal.returns-in-Ok-clause-made
returns-in-Ok-clause-made g c clean none =
    let last = c.make_journal.new.tx.conn.now in
    let end = c.commit.new.self.0 in
    let same : end ≡ c.conn-2-1.given.0 = sym (c.conn-2-1.given.1 (sym (c.make_journal.ensures.same_reference ∙ c.transaction-tx.ensures.same_reference))) in
    let clean_end : HasCleanDisk (state g.S.Store end) = subst (λ h. HasCleanDisk (state g.S.Store h)) (sym same) clean in
    let clean_last : HasCleanDisk (state g.S.Store last) = omega (arith, clean_end, c.commit.ensures.survives.clean) in
    let holds = c.in_ok-make_journal.ensures.made clean_last (rw c.transaction-tx.ensures.begun none) in
    subst (λ h. Rests (state g.S.Store h) empty_journal) same
    (rests_after g.S.Store c.args.conn.now last end empty_journal g.met.S.Store.settled holds (c.in-Ok.ensures.ok clean_end).1)

pub returns-in-Ok-clause-schema : goal.returns-in-Ok-clause-schema
returns-in-Ok-clause-schema g c clean none =
    let last = c.make_journal.new.tx.conn.now in
    let end = c.commit.new.self.0 in
    let same : end ≡ c.conn-2-1.given.0 = sym (c.conn-2-1.given.1 (sym (c.make_journal.ensures.same_reference ∙ c.transaction-tx.ensures.same_reference))) in
    let clean_end : HasCleanDisk (state g.S.Store end) = subst (λ h. HasCleanDisk (state g.S.Store h)) (sym same) clean in
    let clean_last : HasCleanDisk (state g.S.Store last) = omega (arith, clean_end, c.commit.ensures.survives.clean) in
    let holds = c.in_ok-make_journal.ensures.made clean_last (rw c.transaction-tx.ensures.begun none) in
    subst (λ h. (state g.S.Store h).now.schema ≡ book_schema) same (ap (λ (d : Database). d.schema) (c.in-Ok.ensures.ok clean_end).1.now_is ∙ holds.schema_is)

pub returns-in-Ok-clause-crash : goal.returns-in-Ok-clause-crash
returns-in-Ok-clause-crash g c =
    let old = c.args.conn.now in
    let end = c.commit.new.self.0 in
    let same : end ≡ c.conn-2-1.given.0 = sym (c.conn-2-1.given.1 (sym (c.make_journal.ensures.same_reference ∙ c.transaction-tx.ensures.same_reference))) in
    subst (λ h. Survives (state g.S.Store old) (state g.S.Store h) (LeavesMade (state g.S.Store old))) same
    (made_new g.S.Store old c.make_journal.new.tx.conn.now end (λ clean none. c.in_ok-make_journal.ensures.made clean (rw c.transaction-tx.ensures.begun none))
    (rw c.transaction-tx.ensures.begun at c.make_journal.ensures.survives) c.commit.ensures.survives)

pub returns-in-Err-clause-crash : goal.returns-in-Err-clause-crash
returns-in-Err-clause-crash g c =
    let old = c.args.conn.now in
    let end = c.commit.new.self.0 in
    let same : end ≡ c.conn-2-1.given.0 = sym (c.conn-2-1.given.1 (sym (c.make_journal.ensures.same_reference ∙ c.transaction-tx.ensures.same_reference))) in
    subst (λ h. Survives (state g.S.Store old) (state g.S.Store h) (LeavesMade (state g.S.Store old))) same
    (made_new g.S.Store old c.make_journal.new.tx.conn.now end (λ clean none. c.in_ok-make_journal.ensures.made clean (rw c.transaction-tx.ensures.begun none))
    (rw c.transaction-tx.ensures.begun at c.make_journal.ensures.survives) c.commit.ensures.survives)
