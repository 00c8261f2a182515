-- `shape::header::header_ok` meets its contract: its three tests. Assumes nothing.
use mathlib.Core.Path.{refl}
use Rattle.shape.specs.Header.{header_by}
use Rattle.shape.proofs.header.header_ok.Goals as goal

pub returns : goal.returns
returns c = header_by refl c.status_ok-status.ensures c.output_count-count.ensures
