-- `operands::below_limits` meets its contract: the classes of its kind, and the limit of each. Assumes nothing.
use mathlib.Core.Path.{ap, ap₂, ◌∙◌}
use mathlib.Core.Bool.{◌&&◌}
use lib.Dec.{ltb}
use Rattle.operands.specs.Classes.{numbered}
use Rattle.operands.specs.Limits.{limit_in, below_limits}
use Rattle.operands.proofs.below_limits.Goals as goal

pub returns : goal.returns
unfolding below_limits
returns c =
    let l = c.args.limits.now in
    let n = numbered c.classes.ensures in
    ap₂ ◌&&◌ (ap₂ ◌&&◌ (ap₂ ltb c.from.ensures (c.limit.ensures ∙ ap (limit_in l) n.a)) (ap₂ ltb c.from-2.ensures (c.limit-2.ensures ∙ ap (limit_in l) n.b)))
    (ap₂ ◌&&◌ (ap₂ ltb c.from-3.ensures (c.limit-3.ensures ∙ ap (limit_in l) n.c)) (ap (ltb c.args.x.d) (c.limit-4.ensures ∙ ap (limit_in l) n.d)))
