use Rattle.std.proofs.Common.{◌≡◌, ◌∙◌, sym, true, take, drop, rules, arith}
use Rattle.till_program.specs.Frames.{beginning}
use Rattle.till_program.proofs.FrameLaws.{head_parts, same_lists}
use Rattle.till_program.proofs.frames.after_head.Goals as goal

pub returns-clause-found : goal.returns-clause-found
returns-clause-found c =
    let first : take 12 c.args.bytes.now ≡ beginning =
    sym c.split_at.ensures.front ∙ same_lists c.split_at.result.0.now c.as_slice.result.now c.ne.result c.ne.ensures c.if-ne.false ∙ c.as_slice.ensures in
    let second : take 32 (drop 12 c.args.bytes.now) ≡ c.args.secret.now =
    cc (
      c.in-Ok.ensures.1.same,
      c.is_same.ensures.differs c.if-not-is_same.false,
      c.as_bytes-wanted.ensures.value,
      c.split_at-2.ensures.front,
      c.split_at.ensures.back,
    ) in
    rw (c.split_at-2.ensures.back, c.split_at.ensures.back) (head_parts c.args.bytes.now c.args.secret.now first second)
