-- `chain::frames::frame_ok` meets its contract: its three tests. Assumes nothing.
use Rattle.std.proofs.Common.{ap, not}
use Rattle.stack.specs.Tells.{tells_no, tells_and, told_yes, told_no}
use Rattle.chain.specs.Frames.{frame_by}
use Rattle.chain.proofs.frames.frame_ok.Goals as goal

pub returns-then-not-stands : goal.returns-then-not-stands
returns-then-not-stands c = tells_no (λ w. told_no c.stands.ensures (ap not c.if-not-stands.true) w.stands)

pub link_ok-link-requires : goal.link_ok-link-requires
link_ok-link-requires c = (c.requires, told_yes c.stands.ensures (ap not c.if-not-stands.false))

pub returns : goal.returns
returns c = frame_by (told_yes c.stands.ensures (ap not c.if-not-stands.false)) (tells_and c.link_ok-link.ensures c.locals_ok-locals.ensures)
