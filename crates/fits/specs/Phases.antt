-- The test of a record, where the phase of the walk before it is known. Assumes nothing.
use Rattle.std.specs.Prelude.{◌≡◌}
use Rattle.std.proofs.Common.{ap}
use Rattle.words.specs.Bytes.{Bytes}
use Rattle.rules.specs.Walk.{Scan}
use Rattle.rules.specs.Records.{fits_in, fits}
use Rattle.rules.specs.declared.Record.{Record}
use Rattle.rules.specs.declared.Walk.{Walk}
use Rattle.rules.specs.declared.Phase.{Phase}

pub fits_in_law : (f : Bytes) (t : Scan) (w : Walk) (x : Record) {p : Phase} → w.phase ≡ p → fits f t w x ≡ fits_in p f t w x
unfolding fits
fits_in_law f t w x e = ap (λ (q : Phase). fits_in q f t w x) e
