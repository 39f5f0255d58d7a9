use Rattle.std.proofs.Common.{◌∙◌, ap, subst, map, string_bytes}
use Rattle.word_tables.specs.Given.{Reads}
use Rattle.till_words.proofs.LineLemmas.{by_spoken}
use Rattle.till_words.proofs.ReadingLemmas.{reads_ok, reads_err}
use Rattle.till_words.proofs.clap_words.read_till_words.Goals as goal

pub returns-in-Ok-clause-ok : goal.returns-in-Ok-clause-ok
returns-in-Ok-clause-ok c =
    reads_ok c.read_full.result _
    (subst (Reads c.read_full.result)
    (by_spoken (map string_bytes c.args.words.now) _ (ap (map string_bytes) c.as_slice.ensures.value ∙ c.in-Ok.ensures)) c.read_full.ensures)

pub returns-in-Ok-clause-refused : goal.returns-in-Ok-clause-refused
returns-in-Ok-clause-refused c =
    reads_err c.read_full.result _
    (subst (Reads c.read_full.result)
    (by_spoken (map string_bytes c.args.words.now) _ (ap (map string_bytes) c.as_slice.ensures.value ∙ c.in-Ok.ensures)) c.read_full.ensures)
