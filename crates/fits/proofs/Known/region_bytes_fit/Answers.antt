-- `fits::Known::region_bytes_fit` meets its contract: by the callee, where the walk reached it. Assumes nothing.
use Rattle.rules.specs.declared.Walk.{Walk}
use Rattle.rules.specs.Records.{region_bytes_fit}
use mathlib.Core.Path.{sym, ap}
use borrow.Author.Tests.{lt-ltb, le-ltb}
use Rattle.fits.proofs.Known.region_bytes_fit.Goals as goal

pub returns-then-from-self : goal.returns-then-from-self
unfolding region_bytes_fit
returns-then-from-self c =
    rw (ap (λ (v : Walk). v.functions) (sym c.args.self.now.end_right), lt-ltb _ _ (rw c.from.ensures at c.if-from-self.true))
    (rw (c.from-then-from-self-2.ensures, c.head_of-h.ensures, c.from-then-from-self.ensures) at c.four.ensures)

pub returns-else-from-self : goal.returns-else-from-self
unfolding region_bytes_fit
returns-else-from-self c = rw (ap (λ (v : Walk). v.functions) (sym c.args.self.now.end_right), le-ltb _ _ (rw c.from.ensures at c.if-from-self.false)) c.four_loose.ensures
