-- `check_bytes` meets its contract: zero stops, and so does an address whose bytes are not in one page of the region.
use Rattle.effects.specs.Does.{means, being, assign_done}
use Rattle.pointers.specs.Checks.{bytes_variable_at, untyped_is, bytes_mean, check_zero, check_stands, check_none}
use Rattle.pointers.proofs.check_bytes.Goals as goal

pub returns-then-z-eq0 : goal.returns-then-z-eq0
returns-then-z-eq0 c = λ m x. means (c.stop_for.ensures _) (check_zero _ _ _ _ _ (bytes_mean m _ _ _ x c.requires.2) c.register_b.ensures c.register-z.ensures c.if-z-eq0.true)

pub entry-r-requires : goal.entry-r-requires
entry-r-requires c = (c.requires.0.ready.size, c.requires.0.ready.frame, bytes_variable_at c.requires.0.ready c.requires.2 c.region_variable.ensures)

pub returns-then-in_untyped : goal.returns-then-in_untyped
returns-then-in_untyped c = λ m x. being (check_stands _ _ _ _ _ (bytes_mean m _ _ _ x c.requires.2) c.register_b.ensures c.register-z.ensures c.if-z-eq0.false (untyped_is m _ _ _ _ c.entry-r.ensures c.region_variable.ensures c.owner-owner.ensures c.immediate_of-n.ensures c.in_untyped.ensures) c.if-in_untyped.true) assign_done

pub returns-else-in_untyped : goal.returns-else-in_untyped
returns-else-in_untyped c = λ m x. means (c.stop_for-else-in_untyped.ensures _) (check_none _ _ _ _ _ (bytes_mean m _ _ _ x c.requires.2) c.register_b.ensures c.register-z.ensures c.if-z-eq0.false (untyped_is m _ _ _ _ c.entry-r.ensures c.region_variable.ensures c.owner-owner.ensures c.immediate_of-n.ensures c.in_untyped.ensures) c.if-in_untyped.false)
