use Rattle.shop_types.proofs.Common.{IfOk-weaker}
use Rattle.csv.specs.Reading.{strip_bom}
use Rattle.csv.specs.declared.parser.State.TheVariants as st
use Rattle.till_requests.proofs.SheetLemmas.{number_under_header}
use Rattle.till_requests.proofs.sheet.find_number.Goals as goal

pub returns-clause-number : goal.returns-clause-number
returns-clause-number g c =
    IfOk-weaker c.number_among.result _ _
    (λ number found.
    number_under_header c.args.kind.now c.args.name.now c.args.text.now number c.if-not-has_header.ensures
    (found st.StartRecord (strip_bom c.args.text.now) c.start-reader.ensures))
    c.number_among.ensures.number
