-- `functions::readers::register_term` meets its contract: the entry of its record 9.
use mathlib.Core.Path.{◌≡◌, ◌∙◌}
use Prim.Native.Nat.{ℕ, ◌+◌, ◌%◌}
use native.Mathlib.Numerals.{add-one}
use Rattle.functions.specs.Functions.{register_term}
use Rattle.rules.specs.File.{entry_of}
use Rattle.rules.specs.declared.Record.{Record}
use Rattle.walk.specs.Code.{registers_far}
use Rattle.walk.specs.Record.{byte_of}
use native.Mathlib.Omega.{arith}
use Rattle.functions.proofs.readers.register_term.Goals as goal

byte-entry : (x : Record) (i : ℕ) → byte_of x (i + 1) ≡ entry_of x i
byte-entry x i = rw add-one

pub overflow_add-from : goal.overflow_add-from
overflow_add-from c = omega (arith, registers_far c.args.f.now c.args.h)

pub returns : goal.returns
unfolding register_term
returns c = rw (← c.registers_at-from.ensures) (c.from.ensures ∙ c.byte_at.ensures ∙ byte-entry _ (c.args.i % 7))
