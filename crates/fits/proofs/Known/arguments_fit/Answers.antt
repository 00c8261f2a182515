-- `fits::Known::arguments_fit` meets its contract: by the callee, where the walk reached it. Assumes nothing.
use mathlib.Core.Path.{sym, ap}
use borrow.Author.Tests.{lt-ltb, le-ltb}
use Rattle.rules.specs.Records.{arguments_fit}
use Rattle.rules.specs.declared.Walk.{Walk}
use Rattle.fits.proofs.Known.arguments_fit.Goals as goal
use Rattle.fits.proofs.Known.arguments_fit.Goals.{then-g-self, else-g-self}

pub returns : goal.returns
unfolding arguments_fit
returns c = elim c.if-g-self.branch [
  | then-g-self w ↦ rw (ap (λ (v : Walk). v.functions) (sym c.args.self.now.end_right), lt-ltb _ _ w.if-g-self.true, w.result-is, w.seven.ensures, w.parameters_of.ensures, w.head_of-h.ensures)
  | else-g-self w ↦ rw (ap (λ (v : Walk). v.functions) (sym c.args.self.now.end_right), le-ltb _ _ w.if-g-self.false, w.result-is, w.seven_loose.ensures)
]
