use Rattle.shop_schema.proofs.Common.{◌≡◌, arith, Answer}
use Rattle.sql_rows.proofs.Chaining.{does_such}
use Rattle.till_book.specs.Seen.{seen_reply}
use Rattle.till_files.proofs.Played.{at_place, reply_marked}
use Rattle.till_files.proofs.migrating.mark_reply.Goals as goal

pub returns : goal.returns
returns g c =
    let entry = c.index-entries-at.result in
    let reply = c.args.reply.now in
    let asked : c.as_slice.result.now ≡ entry.request = c.as_slice.ensures in
    let body : c.as_slice-2.result.now ≡ reply.body = c.as_slice-2.ensures in
    let status : c.from-status.result ≡ reply.status = omega arith in
    let told : ◌≡◌ {A = Answer} (record { status = c.from-status.result; body = c.as_slice-2.result.now }) (seen_reply reply) =
    λ i. record { status = status i; body = body i } in
    does_such c.put_mark.ensures (λ _ old new marks. reply_marked _ c.args.at c.in_ok-number.number _ _ _ _ c.in_ok-mark.mark old new c.in_ok-number.ensures
    (at_place _ c.args.entries.now c.args.at entry (omega arith) c.index-entries-at.is) asked told c.in_ok-mark.ensures marks)
