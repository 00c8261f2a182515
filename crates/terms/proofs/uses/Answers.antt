-- `terms::uses` meets its contract: the bound is what `Uses` says.
use Prim.Native.Nat.{ℕ}
use Rattle.terms.specs.Readers.{uses_reads}
use lib.Dec.{leb}
use mathlib.Core.Path.{ap, ◌∙◌}
use Rattle.terms.proofs.uses.Goals as goal

pub returns : goal.returns
returns c = ap (λ (x : ℕ). leb x c.args.most) c.bound.ensures ∙ uses_reads c.args.most _
