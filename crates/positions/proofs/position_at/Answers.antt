-- `positions::position_at` meets its contract: the first position not nearer, if it is at that distance.
use Rattle.rules.specs.Decode.{module_of}
use Rattle.rules.specs.Flat.{Layout, count, position_at, flat}
use Rattle.rules.specs.Types.{variable}
use Rattle.positions.specs.Distances.{lower_found, lower_other, lower_past, layout_rising}
use Rattle.positions.specs.Table.{term_layout}
use Rattle.positions.specs.TableLaws.{layout_term}
use Rattle.terms.specs.declared.Extent.{Extent}
use mathlib.Core.Path.{◌≡◌, sym, ap, ◌∙◌}
use native.Mathlib.Omega.{arith}
use Rattle.positions.proofs.position_at.Goals as goal
use Rattle.positions.proofs.position_at.Goals.{After-lower-i, else-i-many-via-then-i-many+else-place_off-o, else-i-many-via-else-i-many}

module _ (c : After-lower-i) where
  abbrev L : Layout variable
  L = term_layout c.args.f.now c.args.k c.place_of-p.result

  many : c.extent_in-many.result.count ≡ count L
  many = ap (λ (x : Extent). x.count) (c.extent_in-many.ensures ∙ c.requires.entries c.place_of-p.result c.place_of-p.ensures.1)

  position : position_at L c.args.o ≡ position_at (flat (module_of c.args.f.now) ((module_of c.args.f.now).term c.args.t)) c.args.o
  position = ap (λ (M : Layout variable). position_at M c.args.o) (ap (term_layout c.args.f.now c.args.k) c.place_of-p.ensures.0 ∙ layout_term c.args.f.now c.args.n c.args.k c.requires.counted c.args.t)

pub returns-then-place_off-o : goal.returns-then-place_off-o
returns-then-place_off-o c = let e = c.place_off.ensures in
    lower_found (L (goal.at.returns-then-place_off-o c).After-lower-i) c.args.o c.lower-i.result c.lower-i.ensures (let h = c.if-i-many.true in let w = many (goal.at.returns-then-place_off-o c).After-lower-i in omega arith) (sym e ∙ c.if-place_off-o.true) ∙ position (goal.at.returns-then-place_off-o c).After-lower-i

pub returns-else-i-many : goal.returns-else-i-many
returns-else-i-many c =
    let at = (goal.at.returns-else-i-many c).After-lower-i in
    elim c.else-i-many.branch [
      | else-i-many-via-then-i-many+else-place_off-o w ↦
          let e = w.place_off.ensures in
          lower_other (L at) c.args.o c.lower-i.result c.lower-i.ensures (layout_rising c.args.f.now c.args.n c.args.k c.requires.counted c.place_of-p.result) (let h = w.if-i-many.true in let m = many at in omega arith) (λ z. w.if-place_off-o.false (e ∙ z)) _ (many at) ∙ position at
      | else-i-many-via-else-i-many w ↦
          lower_past (L at) c.args.o c.lower-i.result c.lower-i.ensures (let h = w.if-i-many.false in let m = many at in omega arith) _ (many at) ∙ position at
    ]
