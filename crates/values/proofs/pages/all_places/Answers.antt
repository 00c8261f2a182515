-- `values::pages::all_places` meets its contract: every page before q is right. Assumes nothing.
use Rattle.std.proofs.Common.{arith, ap, not}
use Rattle.stack.specs.Tells.{scan_none, scan_more, scan_broken, scan_ended}
use Rattle.values.proofs.pages.all_places.Goals as goal

pub loop-q-init : goal.loop-q-init
loop-q-init c = record { right = scan_none _; holds = c.requires.holds }

pub returns-then-not-owned_places : goal.returns-then-not-owned_places
returns-then-not-owned_places c = (scan_broken _ _ _ (omega arith) c.owned_places.ensures.0 (ap not c.if-not-owned_places.true), c.owned_places.ensures.1)

pub loop-q-preserved : goal.loop-q-preserved
loop-q-preserved c = record { right = scan_more _ _ c.loop-q.invariant.right c.owned_places.ensures.0 (ap not c.if-not-owned_places.false); holds = c.owned_places.ensures.1 }

pub returns : goal.returns
returns c = (scan_ended _ _ _ c.loop-q.invariant.right c.loop-q-test.false, c.loop-q.invariant.holds)
