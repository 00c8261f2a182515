use mathlib.Core.Path.{◌≡◌}
use Prim.Native.Nat.{ℕ, ◌<◌, ◌-◌}
use mathlib.Core.Bool.{true}
use Rattle.instructions.specs.Known.{Remembered}
use Rattle.rules.specs.Decode.{module_of, code_at}
use Rattle.functions.specs.Functions.{function_at, place_in}
use Rattle.rules.specs.Verdict.{instruction_test}
use Rattle.rules.specs.File.{record_of}
use Rattle.typing.specs.Walk.{skip}
use Rattle.instructions.proofs.scan.first_instruction.Given as goal

abbrev pub invariant-loop-i : goal.invariant-loop-i
invariant-loop-i l = record {
  place : l.r ≡ skip l.f (code_at l.f l.h) l.i;
  kept : (j : ℕ) → j < l.i → instruction_test (module_of l.f) (function_at l.f l.h) j ≡ true;
  remembered : Remembered l.f l.known;
  last : 0 < l.i → l.last ≡ place_in l.f l.h (l.i - 1);
  none : l.i ≡ 0 → l.last ≡ 0;
  byte : (record_of l.f l.h).c < 256;
}
