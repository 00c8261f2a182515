-- `checker::typed_rules` meets its contract: the table of extents, and refusal 7 by it.
use native.Mathlib.Omega.{arith}
use Rattle.checker.specs.Ranges.{ranged, tight}
use Rattle.checker.proofs.typed_rules.Goals as goal

pub extents-tab-requires : goal.extents-tab-requires
extents-tab-requires c = let p = c.requires in (p.fact_1.counted, ranged c.args.f.now p.fact_2 c.args.n p.fact_1.counted.terms.are)

pub typed_functions-requires : goal.typed_functions-requires
typed_functions-requires c = let p = c.requires in record { fact_1 = p.fact_1; fact_2 = c.extents-tab.ensures; fact_3 = λ g l. tight c.args.f.now p.fact_2 g (omega (arith, p.fact_1.functions, l)) (p.fact_3 g l) }
