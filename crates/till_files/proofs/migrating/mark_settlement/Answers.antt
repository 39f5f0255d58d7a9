use Rattle.shop_schema.proofs.Common.{◌≡◌, ◌≢◌, ◌+◌, ℕ, arith, Answer}
use Rattle.std.specs.Prelude.{◌-◌}
use Rattle.sql_rows.proofs.Chaining.{one_call, and_more}
use Rattle.till_book.specs.Seen.{seen_reply, seen_settlement}
use Rattle.till_files.proofs.Played.{at_place, settlement_marked}
use Rattle.till_files.proofs.migrating.mark_settlement.Goals as goal

pub returns : goal.returns
returns g c =
    let it = c.args.it.now in
    let entry = c.index-entries-at.result in
    let reply = c.index-replies-at.result in
    let at : ℕ = it.number - 1 in
    let place : it.number ≡ at + 1 = omega arith in
    let other : reply.status ≢ 200 = omega arith in
    let asked : c.as_slice.result.now ≡ entry.request = c.as_slice.ensures in
    let body : c.as_slice-2.result.now ≡ it.reply.body = c.as_slice-2.ensures in
    let status : c.from-status.result ≡ it.reply.status = omega arith in
    let told : ◌≡◌ {A = Answer} (record { status = c.from-status.result; body = c.as_slice-2.result.now }) (seen_reply it.reply) =
    λ i. record { status = status i; body = body i } in
    and_more (one_call c.in_ok-drop_unsure.ensures) c.put_mark.ensures
    (λ dropped _ marks. settlement_marked _ _ (seen_settlement it) _ at _ _ _ c.in_ok-mark.mark _ _ _ place
    (at_place seen_reply c.args.replies.now at reply (omega arith) c.index-replies-at.is) other
    (at_place _ c.args.entries.now at entry (omega arith) c.index-entries-at.is) asked told c.in_ok-mark.ensures dropped marks)
