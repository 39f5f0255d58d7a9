use Rattle.std.proofs.Common.{ap, subst, sym, map, string_bytes, Option, List}
use Rattle.clap.specs.Words.{Row, Text}
use Rattle.word_tables.specs.Given.{Reads}
use Rattle.till_words.specs.Places.{office_words}
use Rattle.till_words.specs.Line.{entered_act}
use Rattle.till_words.proofs.LineLemmas.{entered, not_entered}
use Rattle.till_words.proofs.clap_words.entered.Goals as goal

pub returns-in-Some : goal.returns-in-Some
returns-in-Some c = subst (λ (o : Option (Text × List Row)). Reads c.act.result (entered_act (office_words (map string_bytes c.args.words.now)) o))
    (sym (entered _ _ _ _ _ c.in-Some.ensures.name c.in-Some.ensures.rows)) c.act.ensures

pub returns-in-None : goal.returns-in-None
returns-in-None c = ap (entered_act (office_words (map string_bytes c.args.words.now))) (not_entered _ _ _ c.in-None.ensures.name)
