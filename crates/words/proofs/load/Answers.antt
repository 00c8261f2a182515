-- `words::load` meets its contract: by the width, one read in each arm. Assumes nothing.
use native.Mathlib.Omega.{arith}
use Rattle.words.specs.ByteLaws.{number_one}
use Rattle.words.specs.Widths.{width_one, width_two, width_four}
use Rattle.words.proofs.load.Goals as goal

pub word_at-requires : goal.word_at-requires
word_at-requires c = let h = width_four c.args.w c.if-w.true in omega arith

pub bounds-s-i : goal.bounds-s-i
bounds-s-i c = let h = width_one c.args.w c.if-w-eq1.true in omega arith

pub half_at-requires : goal.half_at-requires
half_at-requires c = let h = width_two c.args.w c.if-w.false c.if-w-eq1.false in omega arith

pub returns-then-w : goal.returns-then-w
returns-then-w c = rw (width_four _ c.if-w.true) c.word_at.ensures

pub returns-then-w-eq1 : goal.returns-then-w-eq1
returns-then-w-eq1 c = rw (width_one _ c.if-w-eq1.true, number_one) c.from.ensures

pub returns-else-w-eq1 : goal.returns-else-w-eq1
returns-else-w-eq1 c = rw (width_two _ c.if-w.false c.if-w-eq1.false) c.half_at.ensures.0
