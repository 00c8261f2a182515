-- `positions::bare` meets its contract: an array of one is its element.
use Rattle.std.proofs.Common.{sym, ◌∙◌}
use Rattle.positions.specs.Cores.{bare_one}
use Rattle.terms.specs.HeadLaws.{fair_at}
use Rattle.positions.proofs.+bare.Goals as goal

pub returns-in-Arr-eq1-default : goal.returns-in-Arr-eq1-default
returns-in-Arr-eq1-default t c =
    let a = c.args in
    let arm = c.in-Arr-eq1-default in
    bare_one a.f.now a.p _ _ c.bare.result (sym c.head_of.ensures.0 ∙ arm.is) arm.count-test (fair_at a.p _ _ c.head_of.ensures.1 arm.is).0 c.bare.ensures
