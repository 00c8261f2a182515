-- `runs::same_prim` meets its contract: the distances, and the terms, which are one where place and substitution are.
use Rattle.rules.specs.Types.{RegionKind}
use Rattle.runs.specs.Runs.{of_kinds, placed_same, placed_alike, eqb_minus}
use Rattle.equality.specs.Equal.{places_same}
use mathlib.Core.Bool.{Bool, ◌&&◌}
use mathlib.Core.Path.{◌≡◌, ap₂, ◌∙◌}
use Rattle.runs.proofs.same_prim.Goals as goal

pub returns-then-x-y : goal.returns-then-x-y
returns-then-x-y c = λ j. let a = c.args in
    eqb_minus a.x.off a.from a.y.off c.if-x-from.false ∙ placed_alike j a.f.now a.x a.from a.y c.agree.result c.if-x-y.true c.agree.ensures

pub returns : goal.returns
returns c = λ j. let a = c.args in
    ap₂ (λ (b d : Bool). b && d) (eqb_minus a.x.off a.from a.y.off c.if-x-from.false)
    (of_kinds (λ (i : RegionKind). c.same_places.result ≡ places_same i a.f.now a.x.place a.x.to a.y.place a.y.to) c.same_places.ensures.0 c.same_places.ensures.1 j)
    ∙ placed_same j a.f.now a.x a.from a.y
