-- `positions::place_off` meets its contract: the distance of what is found.
use Rattle.positions.specs.Distances.{found_off}
use Rattle.positions.specs.Table.{term_layout}
use mathlib.Core.List.{[], ◌∷◌}
use Rattle.positions.proofs.place_off.Goals as goal

pub returns : goal.returns
returns c = let a = c.args in found_off a.f.now c.place_prim.result (255 ∷ 255 ∷ 255 ∷ 255 ∷ 255 ∷ 255 ∷ 255 ∷ 255 ∷ []) (term_layout a.f.now a.k a.p) a.i c.place_prim.ensures.0
