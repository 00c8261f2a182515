-- `positions::distance` meets its contract: that of the primitive, or 0.
use Rattle.rules.specs.Decode.{module_of}
use Rattle.rules.specs.Flat.{Layout, count, at, off, distance, flat}
use Rattle.rules.specs.Types.{variable, int}
use Rattle.positions.specs.Table.{term_layout}
use Rattle.positions.specs.TableLaws.{layout_term}
use Rattle.terms.specs.declared.Extent.{Extent}
use lib.ListN.{get_or-eq_default}
use mathlib.Core.Path.{◌≡◌, sym, ap, ◌∙◌}
use native.Mathlib.Omega.{arith}
use Rattle.positions.proofs.distance.Goals as goal
use Rattle.positions.proofs.distance.Goals.{After-extent_in}

module _ (c : After-extent_in) where
  abbrev L : Layout variable
  L = term_layout c.args.f.now c.args.k c.place_of-p.result

  many : c.extent_in.result.count ≡ count L
  many = ap (λ (x : Extent). x.count) (c.extent_in.ensures ∙ c.requires.entries c.place_of-p.result c.place_of-p.ensures.1)

  here : distance L c.args.d ≡ distance (flat (module_of c.args.f.now) ((module_of c.args.f.now).term c.args.t)) c.args.d
  here = ap (λ (M : Layout variable). distance M c.args.d) (ap (term_layout c.args.f.now c.args.k) c.place_of-p.ensures.0 ∙ layout_term c.args.f.now c.args.n c.args.k c.requires.counted c.args.t)

pub returns-then-d-extent_in : goal.returns-then-d-extent_in
returns-then-d-extent_in c = c.place_off.ensures ∙ here (goal.at.returns-then-d-extent_in c).After-extent_in

pub returns-else-d-extent_in : goal.returns-else-d-extent_in
returns-else-d-extent_in c = sym (ap off (get_or-eq_default (L (goal.at.returns-else-d-extent_in c).After-extent_in).prims (at 0 (int 0)) (let h = c.if-d-extent_in.false in let e = many (goal.at.returns-else-d-extent_in c).After-extent_in in omega arith))) ∙ here (goal.at.returns-else-d-extent_in c).After-extent_in
