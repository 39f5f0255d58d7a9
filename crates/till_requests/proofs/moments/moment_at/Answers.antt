use Rattle.shop_types.proofs.Common.{◌≡◌, ◌∙◌, ◌/◌, ◌%◌, sym, subst, arith, pos, w64, to_z_pos, IsUtf8, moment_text, moment_text-utf8}
use Rattle.jiff_core.specs.Date.{epoch_day}
use Rattle.till_requests.specs.Moments.{civil_of}
use Rattle.till_requests.proofs.CivilLemmas.{civil_is, read_seconds}
use Rattle.till_requests.proofs.moments.moment_at.Goals as goal

pub returns-in_default-from_utf8-clause-none : goal.returns-in_default-from_utf8-clause-none
returns-in_default-from_utf8-clause-none c =
    let written : moment_text (civil_of c.in-Ok.date (c.args.seconds % 86400)) ≡ c.as_slice.result.now = sym (c.as_slice.ensures ∙ c.text_of-text.ensures) in
    let utf8 : IsUtf8 c.as_slice.result.now = subst IsUtf8 written (moment_text-utf8 (civil_of c.in-Ok.date (c.args.seconds % 86400))) in
    absurd (c.in_default-from_utf8.ensures.cases.0 utf8)

pub returns-in_err-moment-clause-none : goal.returns-in_err-moment-clause-none
returns-in_err-moment-clause-none c =
    let days : epoch_day c.in-Ok.date ≡ pos (c.args.seconds / 86400) = c.in-Ok.ensures.value ∙ to_z_pos w64 (c.args.seconds / 86400) (omega arith) in
    let written : moment_text (civil_of c.in-Ok.date (c.args.seconds % 86400)) ≡ c.in-Ok-from_utf8.text.now =
    sym (c.in-Ok-from_utf8.ensures.cases.0 ∙ c.as_slice.ensures ∙ c.text_of-text.ensures) in
    let there =
    civil_is c.in-Ok.date (c.args.seconds / 86400) (c.args.seconds % 86400)
    (c.in-Ok.date.year_in, c.in-Ok.date.month_in, c.in-Ok.date.day_in) days (omega arith) in
    absurd (c.in_err-moment.ensures.none (civil_of c.in-Ok.date (c.args.seconds % 86400)) there.0 written)

pub returns-else-seconds-clause-none : goal.returns-else-seconds-clause-none
returns-else-seconds-clause-none c =
    let days : epoch_day c.in-Ok.date ≡ pos (c.args.seconds / 86400) = c.in-Ok.ensures.value ∙ to_z_pos w64 (c.args.seconds / 86400) (omega arith) in
    let written : moment_text (civil_of c.in-Ok.date (c.args.seconds % 86400)) ≡ c.in-Ok-from_utf8.text.now =
    sym (c.in-Ok-from_utf8.ensures.cases.0 ∙ c.as_slice.ensures ∙ c.text_of-text.ensures) in
    let read = read_seconds c.in-Ok.date (c.args.seconds / 86400) (c.args.seconds % 86400) c.in-Ok-from_utf8.text.now c.in_ok-moment.moment
    (c.in-Ok.date.year_in, c.in-Ok.date.month_in, c.in-Ok.date.day_in) days (omega arith) written c.in_ok-moment.ensures.some in
    absurd (c.if-seconds.false (c.seconds.ensures ∙ read ∙ omega arith))
