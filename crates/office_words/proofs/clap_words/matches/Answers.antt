use Rattle.shop_types.proofs.Common.{◌≡◌, ◌∙◌, ap, subst, map, List, string_bytes, IfOk-weaker}
use Rattle.clap.specs.Words.{App, FailsBy, Text, app_of, fault_of, is_simple, is_simple_and_free, matches_of, subcommand_of}
use Rattle.office_words.specs.CommandLine.{office_app}
use Rattle.office_words.proofs.OfficeIsSimple.{office_is_simple, office_is_simple_and_free}
use Rattle.office_words.proofs.clap_words.matches.Goals as goal

pub returns-clause-fails : goal.returns-clause-fails
returns-clause-fails c =
    let is : app_of c.in_ok-office.field-0 ≡ office_app = c.in_ok-office.ensures.app in
    let words : List Text = map string_bytes c.args.words.now in
    subst (λ (a : App). FailsBy (fault_of a words) c.try_get_matches_from.result) is
    (c.try_get_matches_from.ensures.kinds (ap is_simple_and_free is ∙ office_is_simple_and_free))

pub returns-clause-ok : goal.returns-clause-ok
returns-clause-ok c =
    let is : app_of c.in_ok-office.field-0 ≡ office_app = c.in_ok-office.ensures.app in
    let words : List Text = map string_bytes c.args.words.now in
    IfOk-weaker c.try_get_matches_from.result _ _ (λ m h. let e = h (ap is_simple is ∙ office_is_simple) in
    (e.0 ∙ ap (λ (a : App). matches_of a words) is, e.1 ∙ ap (λ (a : App). subcommand_of a words) is)) c.try_get_matches_from.ensures.matches
