use Rattle.std.proofs.Common.{subst, sym, map, string_bytes, inl, inr}
use Rattle.word_tables.specs.Given.{Reads}
use Rattle.till_words.specs.Places.{office_words}
use Rattle.till_words.specs.Line.{line_from, read_of}
use Rattle.till_words.proofs.LineLemmas.{faulty, taken}
use Rattle.till_words.proofs.clap_words.read_named.Goals as goal

pub returns-in-Ok : goal.returns-in-Ok
unfolding read_of
returns-in-Ok c = subst (Reads c.told_line.result)
    (sym (taken (line_from (office_words (map string_bytes c.args.words.now))) _ _ _ _ _ c.in-Ok.ensures.fails c.in-Ok.ensures.ok.0 c.in-Ok.ensures.ok.1))
    c.told_line.ensures

pub returns-in-Err : goal.returns-in-Err
unfolding read_of
returns-in-Err c = λ told. elim c.in-Err.ensures.fails [
  | inl memory ↦ absurd (told (c.refused.ensures memory))
  | inr among ↦ faulty _ _ _ among
]
