-- `values::pages::positions_ok` meets its contract: every position before i is right. Assumes nothing.
use Rattle.std.proofs.Common.{arith, ap, not}
use Rattle.stack.specs.Tells.{scan_none, scan_more, scan_broken, scan_ended}
use Rattle.values.proofs.pages.positions_ok.Goals as goal

pub loop-i-init : goal.loop-i-init
loop-i-init c = record { right = scan_none _; last = tt }

pub position_ok-requires : goal.position_ok-requires
position_ok-requires c = record { within = (c.requires.0, c.loop-i-test.true, c.requires.1); last = c.loop-i.invariant.last }

pub returns-then-not-position_ok : goal.returns-then-not-position_ok
returns-then-not-position_ok c = scan_broken _ _ _ (omega arith) c.position_ok.ensures.0 (ap not c.if-not-position_ok.true)

pub loop-i-preserved : goal.loop-i-preserved
loop-i-preserved c = record { right = scan_more _ _ c.loop-i.invariant.right c.position_ok.ensures.0 (ap not c.if-not-position_ok.false); last = c.position_ok.ensures.1 }

pub returns : goal.returns
returns c = scan_ended _ _ _ c.loop-i.invariant.right c.loop-i-test.false
