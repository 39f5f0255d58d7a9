use Rattle.shop_types.proofs.Common.{IfOk-weaker, option_map}
use Rattle.csv.specs.Reading.{strip_bom}
use Rattle.csv.specs.declared.parser.State.TheVariants as st
use Rattle.till_requests.specs.SheetSeen.{seen_row}
use Rattle.till_requests.proofs.SheetLemmas.{under_header}
use Rattle.till_requests.proofs.sheet.find_row.Goals as goal

pub returns-clause-row : goal.returns-clause-row
returns-clause-row c =
    IfOk-weaker c.row_among.result _ _
    (λ row found.
    under_header c.args.copy c.args.text.now (option_map seen_row row) c.if-not-has_header.ensures
    (found st.StartRecord (strip_bom c.args.text.now) c.start-reader.ensures))
    c.row_among.ensures.row
