use Rattle.std.proofs.Common.{◌∙◌, ap, subst, map, string_bytes}
use Rattle.word_tables.specs.Given.{Reads}
use Rattle.till_words.proofs.LineLemmas.{by_names}
use Rattle.till_words.proofs.clap_words.read_full.Goals as goal

pub returns-in-Ok : goal.returns-in-Ok
returns-in-Ok c =
    subst (Reads c.read_named.result)
    (by_names (map string_bytes c.args.words.now) _ (ap (map (λ s. s.now)) c.as_slice.ensures.value ∙ c.in-Ok.ensures)) c.read_named.ensures
