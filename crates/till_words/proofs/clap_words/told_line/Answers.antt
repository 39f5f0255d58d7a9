use Rattle.till_words.proofs.clap_words.told_line.Goals as goal

pub returns-in-Err : goal.returns-in-Err
returns-in-Err c = λ other. c.in-Err.ensures (λ memory. other (c.with_usage.ensures memory))
