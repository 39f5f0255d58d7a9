use Rattle.shop_types.proofs.Common.{Ok, IfErr-weaker, IfOk-weaker}
use Rattle.csv.specs.Records.{fields_of}
use Rattle.csv.specs.Reading.{strip_bom}
use Rattle.csv.specs.declared.parser.State.TheVariants as st
use Rattle.stock_csv.proofs.RowLemmas.{fault_under_header, no_record, other_header, under_header}
use Rattle.stock_csv.proofs.LimitLemmas.{rows_are_stock}
use Rattle.stock_csv.proofs.read_stock.Goals as goal

pub returns-then-not-branch-clause-fault : goal.returns-then-not-branch-clause-fault
returns-then-not-branch-clause-fault c =
    let found = rw c.if-not-branch.true at c.in_ok-next.ensures.found in
    no_record _ (found st.StartRecord (strip_bom c.args.text.now) c.start-reader.ensures)

pub returns-then-not-is_header-clause-fault : goal.returns-then-not-is_header-clause-fault
returns-then-not-is_header-clause-fault c =
    let found = rw c.if-not-branch.false at c.in_ok-next.ensures.found in
    let f = found st.StartRecord (strip_bom c.args.text.now) c.start-reader.ensures in
    other_header _ f.0 (fields_of c.next.new.fields) f.1 f.2 c.if-not-is_header.ensures

pub returns-clause-rows : goal.returns-clause-rows
returns-clause-rows c =
    let found = rw c.if-not-branch.false at c.in_ok-next.ensures.found in
    let f = found st.StartRecord (strip_bom c.args.text.now) c.start-reader.ensures in
    IfOk-weaker c.read_rows.result _ _
    (λ v h. under_header _ f.0 (fields_of c.next.new.fields) f.1 f.2 c.if-not-is_header.ensures (Ok v.items) (h f.0.1 f.0.2 f.3)) c.read_rows.ensures.rows

pub returns-clause-limits : goal.returns-clause-limits
returns-clause-limits c =
    let found = rw c.if-not-branch.false at c.in_ok-next.ensures.found in
    let f = found st.StartRecord (strip_bom c.args.text.now) c.start-reader.ensures in
    IfOk-weaker c.read_rows.result _ _
    (λ v h.
    rows_are_stock c.args.text.now v.items
    (under_header _ f.0 (fields_of c.next.new.fields) f.1 f.2 c.if-not-is_header.ensures (Ok v.items) (h f.0.1 f.0.2 f.3)))
    c.read_rows.ensures.rows

pub returns-clause-fault : goal.returns-clause-fault
returns-clause-fault c =
    let found = rw c.if-not-branch.false at c.in_ok-next.ensures.found in
    let f = found st.StartRecord (strip_bom c.args.text.now) c.start-reader.ensures in
    IfErr-weaker c.read_rows.result _ _
    (λ e h. fault_under_header _ f.0 (fields_of c.next.new.fields) f.1 f.2 c.if-not-is_header.ensures e (h f.0.1 f.0.2 f.3)) c.read_rows.ensures.fault
