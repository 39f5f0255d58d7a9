use Rattle.shop_schema.proofs.Common.{◌≤◌, arith, refl, map, length, and_then, done, some_calls, within_none}
use Rattle.till_book.specs.Seen.{seen_reply}
use Rattle.till_files.proofs.Played.{at_place, length_mapped, marks_none, one_reply, all_replies}
use Rattle.till_files.proofs.migrating.mark_replies.Goals as goal

pub loop-reply-init : goal.loop-reply-init
loop-reply-init g c = (refl, record { inside = within_none; says = λ clean. marks_none _ _ })

pub loop-reply-preserved : goal.loop-reply-preserved
loop-reply-preserved g c =
    let inv = c.loop-reply.invariant in
    let i = c.loop-reply.reply-index in
    let reply = c.reply-item.result in (
      omega (arith, inv.0),
      done (and_then (some_calls inv.1) (some_calls c.in_ok-mark_reply.ensures)) (λ said.
          one_reply _ (map seen_reply c.args.replies.now) i (seen_reply reply) _ _ _
          (at_place seen_reply c.args.replies.now i reply c.loop-reply-test.true c.reply-item.is) said.0 (rw inv.0 at said.1)),
    )

pub returns : goal.returns
returns g c =
    let all : length (map seen_reply c.args.replies.now) ≤ c.loop-reply.reply-index =
    omega (arith, length_mapped seen_reply c.args.replies.now, c.loop-reply-test.false) in
    done (some_calls c.loop-reply.invariant.1) (λ said. all_replies _ (map seen_reply c.args.replies.now) c.loop-reply.reply-index _ _ all said)
