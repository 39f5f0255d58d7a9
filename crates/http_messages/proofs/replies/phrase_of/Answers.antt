use Rattle.std.proofs.Common.{rules, ◌≡◌}
use Rattle.http_messages.specs.Text.{phrase}
use Rattle.http_messages.proofs.PhraseLemmas.{phrase_short}
use Rattle.http_messages.proofs.replies.phrase_of.Goals as goal

pub returns-in-Ok-clause-short : goal.returns-in-Ok-clause-short
returns-in-Ok-clause-short c =
    let same : c.unwrap_or.result.now ≡ phrase c.args.status = search rules in
    rw same (phrase_short c.args.status c.in-Ok.ensures.0.1)
