-- `terms::place_of` meets its contract: by its one test.
use Rattle.terms.specs.Heads.{place_of}
use Rattle.words.specs.Choose.{cond_lt, cond_nlt}
use mathlib.Core.Path.{sym, ◌∙◌}
use native.Mathlib.Numerals.{add-one}
use native.Mathlib.Omega.{arith}
use Rattle.terms.proofs.place_of.Goals as goal

pub returns-then-t-n : goal.returns-then-t-n
unfolding place_of
returns-then-t-n c = (add-one _ ∙ sym (cond_lt _ _ c.if-t-n.true), omega arith, omega arith)

pub returns-else-t-n : goal.returns-else-t-n
unfolding place_of
returns-else-t-n c = (sym (cond_nlt _ _ c.if-t-n.false), omega arith, omega arith)
