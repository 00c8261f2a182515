-- `shape::header::status_ok` meets its contract: the test on what was read. Assumes nothing.
use Rattle.shape.specs.Header.{status_by}
use Rattle.shape.proofs.header.status_ok.Goals as goal

pub returns : goal.returns
returns c = status_by _ c.status-status.ensures c.frames-n.ensures c.result-result.ensures
