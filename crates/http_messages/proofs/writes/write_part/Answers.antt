use Rattle.http_messages.proofs.WriteLemmas.{written_kept, written_more}
use Rattle.http_messages.proofs.writes.write_part.Goals as goal
use Rattle.http_messages.proofs.writes.write_part.Goals.{in-Ok, in-Err+in-Interrupted}

pub write-preserved : goal.write-preserved
write-preserved g c =
    elim c.match-write.branch [
      | in-Ok w ↦ rw w.at-is (written_more _ _ _ c.args.bytes.now _ c.write.at _ c.write.invariant w.in-Ok.ensures.bytes)
      | in-Err+in-Interrupted w ↦ rw w.at-is (written_kept _ _ _ _ _ c.write.invariant w.in-Err.ensures.bytes)
    ]
