use mathlib.Core.Path.{◌≡◌}
use Rattle.rules.specs.Decode.{code_at}
use Rattle.typing.specs.Walk.{skip}
use Rattle.functions.proofs.readers.place_in.Given as goal

abbrev pub invariant-loop : goal.invariant-loop
invariant-loop l = l.r ≡ skip l.f (code_at l.f l.h) l.counter
