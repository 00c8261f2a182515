-- `check` meets its contract: zero stops, and so does an address where nothing stands.
use Rattle.effects.specs.Does.{means, being, assign_done}
use Rattle.pointers.specs.Checks.{check_means, check_zero, check_stands, check_none}
use Rattle.pointers.proofs.check.Goals as goal

pub returns-then-a-eq0 : goal.returns-then-a-eq0
returns-then-a-eq0 c = means (c.stop_for.ensures _) (check_zero _ _ _ _ _ (check_means _ _ _ _ _ c.requires.1) c.register_b.ensures c.register-a.ensures c.if-a-eq0.true)

pub returns-then-stands_at : goal.returns-then-stands_at
returns-then-stands_at c = being (check_stands _ _ _ _ _ (check_means _ _ _ _ _ c.requires.1) c.register_b.ensures c.register-a.ensures c.if-a-eq0.false c.stands_at.ensures c.if-stands_at.true) assign_done

pub returns-else-stands_at : goal.returns-else-stands_at
returns-else-stands_at c = means (c.stop_for-else-stands_at.ensures _) (check_none _ _ _ _ _ (check_means _ _ _ _ _ c.requires.1) c.register_b.ensures c.register-a.ensures c.if-a-eq0.false c.stands_at.ensures c.if-stands_at.false)
