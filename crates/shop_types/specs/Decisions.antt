-- What a decision on a command says of the verdict.
use Rattle.std.specs.Prelude.{◌≡◌, Some, Result, Ok, Err}
use Rattle.shop_model.specs.Verdict.{Verdict, Again, Accepted}
use Rattle.shop_types.specs.declared.change.Change.{Change}
use Rattle.shop_types.specs.declared.change.Change.TheVariants as change
use Rattle.shop_types.specs.declared.refusal.Refusal.{Refusal}
use Rattle.shop_types.specs.Verdicts.{verdict_by}

-- a decision is the verdict, with the kept reply where the command came before
abbrev pub IsVerdict : Verdict → Result Change Refusal → Type 0
IsVerdict verdict (Ok (change.Again reply)) = verdict ≡ Again reply.now
IsVerdict verdict (Ok change.Accepted) = verdict ≡ Accepted
IsVerdict verdict (Err refusal) = Some verdict ≡ verdict_by (Some refusal)
