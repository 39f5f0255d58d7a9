-- How much a shop's database holds at most.
use Rattle.std.specs.Prelude.{ℕ, Bool, ◌&&◌, nat_le, Option, Some, None, if◌then◌else◌}

pub record Limits : Type 0 where
  pub commands : ℕ
  pub copies : ℕ

-- from 1 to a million
abbrev pub is_limit : ℕ → Bool
is_limit n = nat_le 1 n && nat_le n 1_000_000

abbrev pub is_limits : Limits → Bool
is_limits limits = is_limit limits.commands && is_limit limits.copies

-- the limits with the two numbers, or none if a number is out of range
abbrev pub limits_of : ℕ → ℕ → Option Limits
limits_of commands copies = if is_limit commands && is_limit copies then Some (record { commands = commands; copies = copies }) else None

-- the largest limits, which hold if none are asked for
abbrev pub most_limits : Limits
most_limits = record { commands = 1_000_000; copies = 1_000_000 }
