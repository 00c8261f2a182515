-- By the size; a whole number of objects before the address keeps within its page.
use Rattle.std.proofs.Common.{sym}
use Rattle.words.specs.Choose.{cond_eq, cond_ne}
use Rattle.rules.specs.Host.{part_numbers}
use Rattle.rcm.proofs.part_numbers.Goals as goal

pub returns-then-size-eq0 : goal.returns-then-size-eq0
unfolding part_numbers
returns-then-size-eq0 c = sym (cond_eq _ _ c.if-size-eq0.true)

pub returns : goal.returns
unfolding part_numbers
returns c = rw c.page_place.ensures (sym (cond_ne _ _ c.if-size-eq0.false))
