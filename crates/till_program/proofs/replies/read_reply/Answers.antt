use Rattle.std.proofs.Common.{◌≡◌, ℕ, List, Ok, subst, arith, rules}
use Rattle.std.proofs.lemmas.List.{take_rest}
use Rattle.till_program.specs.Frames.{most_said}
use Rattle.till_program.specs.Reading.{field_at}
use Rattle.till_program.proofs.FrameLaws.{reply_parts}
use Rattle.till_program.proofs.replies.read_reply.Goals as goal

pub returns-else-not-is_empty-clause-found : goal.returns-else-not-is_empty-clause-found
returns-else-not-is_empty-clause-found c =
    reply_parts c.args.bytes.now c.in_ok-out-in-len1-up.out.now c.in_ok-out-in-len1-up.rest.now c.in_ok-err-in-len1-up.err.now c.in_ok-err-in-len1-up.rest.now
    (λ i. omega (arith, c.type_inv.bytes i)) (omega arith)
    (subst (λ (r : List ℕ). field_at most_said r ≡ Ok (c.in_ok-out-in-len1-up.out.now, c.in_ok-out-in-len1-up.rest.now))
    (take_rest c.args.bytes.now 1) c.in_ok-out-in-len1-up.ensures)
    c.in_ok-err-in-len1-up.ensures (search rules)
