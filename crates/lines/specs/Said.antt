-- The verdict that counts, or a number and a place, say. Assumes nothing.
use Rattle.std.specs.Prelude.{ℕ, Result, Ok, Err}
use Rattle.rules.specs.declared.Counts.{Counts}
use Rattle.rules.specs.Refusals.{Verdict, Accepted, Refused}

abbrev pub verdict_said : Result Counts (ℕ × ℕ) → Verdict
verdict_said (Ok c) = Accepted c.terms c.names c.functions c.instructions
verdict_said (Err e) = Refused e.0 e.1
