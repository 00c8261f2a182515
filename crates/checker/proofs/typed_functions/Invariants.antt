use mathlib.Core.Path.{◌≡◌}
use Prim.Native.Nat.{◌-◌}
use Rattle.instructions.specs.Scan.{typed_from}
use Rattle.framing.specs.Outcome.{IsFirst}
use Rattle.rules.specs.Decode.{module_of}
use Rattle.rules.specs.Verdict.{last_test}
use Rattle.instructions.specs.Known.{Remembered}
use Rattle.checker.proofs.typed_functions.Given as goal

abbrev pub invariant-loop-g : goal.invariant-loop-g
invariant-loop-g l = (typed_from l.f l.g (l.c - l.g) ≡ typed_from l.f 0 l.c) × (Remembered l.f l.known) × IsFirst l.g (last_test (module_of l.f)) l.runs_on
