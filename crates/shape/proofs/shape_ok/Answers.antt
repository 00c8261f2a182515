-- `shape::shape_ok` meets its contract: its four tests. Assumes nothing.
use Rattle.shape.specs.Shape.{shape_by}
use Rattle.shape.proofs.shape_ok.Goals as goal

pub returns : goal.returns
returns c = shape_by c.header_ok-head.ensures c.frames_ok-frames.ensures c.pages_ok-pages.ensures c.spare_ok-spare.ensures
