use Rattle.shop_types.proofs.Common.{rules, ◌≡◌, ◌≤◌, length, take, arith, ◌-◌, with_items_is, places}
use borrow.Rule.Slice.PartMut.{put_mid}
use Rattle.counter_http.proofs.KnownBytes.{filled_more}
use Rattle.counter_http.proofs.inbox.Inbox.read_once.Goals as goal

pub returns-clause-ok : goal.returns-clause-ok
returns-clause-ok g c =
    let n_fits : c.in_ok-n.n ≤ length c.read.new.buf = omega (arith, c.in_ok-n.ensures.bound) in
    let len : length (take c.in_ok-n.n c.read.new.buf) ≡ c.in_ok-n.n = omega (arith, c.in_ok-n.ensures.bound) in
    let fits : c.self.inside.filled ≤ length c.make_room.new.bytes.items = search rules in
    let there : c.self.inside.filled ≤ length c.deref_mut.result.now = search rules in
    let whole : length (put_mid c.self.inside.filled (length c.deref_mut.result.now - c.self.inside.filled) c.deref_mut.result.now c.read.new.buf)
    ≡ c.make_room.new.bytes.len =
    search (rules, places, there) in (
      take c.in_ok-n.n c.read.new.buf,
      c.in_ok-n.ensures.bytes.0,
      rw (
        with_items_is c.make_room.new.bytes
            (put_mid c.self.inside.filled (length c.deref_mut.result.now - c.self.inside.filled) c.deref_mut.result.now c.read.new.buf) whole,
        c.deref_mut.ensures.value,
        ← c.self.view_is,
        ← c.make_room.ensures.same,
      )
          (filled_more c.make_room.new.bytes.items c.read.new.buf _ c.self.inside.filled c.in_ok-n.n fits n_fits),
      len,
    )
