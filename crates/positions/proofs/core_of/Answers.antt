-- `positions::core_of` meets its contract: arrays of one are taken off, then structs whose only field is a struct.
use Rattle.positions.specs.Cores.{core_fields}
use Rattle.terms.specs.HeadLaws.{fair_at}
use mathlib.Core.Path.{sym, ◌∙◌}
use Rattle.positions.proofs.core_of.Goals as goal

pub returns-in-Struct : goal.returns-in-Struct
returns-in-Struct c =
    let head = c.in-Struct.is in
    core_fields c.args.f.now c.args.p c.bare-c.result c.bare-c.ensures _ _ _ (sym c.head_of.ensures.0 ∙ head) (fair_at c.bare-c.result _ _ c.head_of.ensures.1 head).0
    c.own_arguments.result c.own_arguments.ensures _ _ c.innermost-x.ensures
