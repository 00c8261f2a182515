-- `functions::declared::function_fits` meets its contract: by the callees' contracts.
use Rattle.std.proofs.Common.{arith, ap, ◌∙◌}
use Rattle.std.proofs.Math.Path.{ap₂}
use Prim.Native.Nat.{ℕ}
use mathlib.Core.Bool.{Bool, not, ◌&&◌, ◌||◌}
use lib.Dec.{eqb}
use Rattle.functions.specs.Functions.{function_at, start_small}
use Rattle.functions.specs.Declares.{declared, entry, function_fits_law}
use Rattle.functions.proofs.declared.function_fits.Goals as goal

pub start_of-requires : goal.start_of-requires
start_of-requires c = record { fact_1 = c.requires.known.starts; fact_2 = omega (arith, c.requires.known.few) }

pub invariant_of-head : goal.invariant_of-head
invariant_of-head c = let s = start_small c.args.f.now c.requires.known.short c.args.g in record { counted = c.requires.known.counted.terms; below = omega (arith, c.start_of.ensures) }

pub returns : goal.returns
returns c = let a = c.args in ap₂ (λ (p q : Bool). p && (not (eqb a.g 0) || q)) c.declared.ensures c.entry.ensures ∙ ap (λ (h : ℕ). declared (function_at a.f.now h) && (not (eqb a.g 0) || entry (function_at a.f.now h))) c.start_of.ensures ∙ function_fits_law a.f.now a.g
