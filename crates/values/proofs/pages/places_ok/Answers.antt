-- `values::pages::places_ok` meets its contract: every place before j is right. Assumes nothing.
use Rattle.std.proofs.Common.{arith, ap, not}
use Rattle.stack.specs.Tells.{scan_none, scan_more, scan_broken}
use Rattle.values.specs.Pages.{places_ended}
use Rattle.values.proofs.pages.places_ok.Goals as goal

pub loop-j-init : goal.loop-j-init
loop-j-init c = record { right = scan_none _; holds = c.requires.holds }

pub place_ok-requires : goal.place_ok-requires
place_ok-requires c = record { within = (c.requires.within.0, c.requires.within.1, c.places_in-j-end.ensures.inside c.loop-j.j c.loop-j-test.true); holds = c.loop-j.invariant.holds }

pub returns-then-not-place_ok : goal.returns-then-not-place_ok
returns-then-not-place_ok c = (scan_broken _ _ _ (omega (arith, c.places_in-j-end.ensures.few)) c.place_ok.ensures.0 (ap not c.if-not-place_ok.true), c.place_ok.ensures.1)

pub loop-j-preserved : goal.loop-j-preserved
loop-j-preserved c = record { right = scan_more _ _ c.loop-j.invariant.right c.place_ok.ensures.0 (ap not c.if-not-place_ok.false); holds = c.place_ok.ensures.1 }

pub returns : goal.returns
returns c = (places_ended c.places_in-j-end.ensures c.loop-j.invariant.right c.loop-j-test.false, c.loop-j.invariant.holds)
