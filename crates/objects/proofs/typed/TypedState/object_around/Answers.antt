-- `object_around` meets its contract: by whether the page has an owner, and its objects primitives. Assumes nothing.
use native.Mathlib.Omega.{arith}
use mathlib.Core.Path.{refl, ◌∙◌}
use Rattle.objects.specs.Homes.{object_none, object_some, object_bare}
use Rattle.objects.proofs.typed.TypedState.object_around.Goals as goal

pub returns-then-owner-eq0 : goal.returns-then-owner-eq0
returns-then-owner-eq0 c = object_none _ _ _ refl (c.from-owner.ensures ∙ c.owner.ensures) c.if-owner-eq0.true

pub returns-then-e-eq0 : goal.returns-then-e-eq0
returns-then-e-eq0 c = object_bare _ _ _ refl (c.from-owner.ensures ∙ c.owner.ensures) c.if-owner-eq0.false c.args.self.now.state.counted c.region_extent-e.ensures.0 c.if-e-eq0.true

pub object_in-requires : goal.object_in-requires
object_in-requires c = (omega arith, c.region_extent-e.ensures.1.0)

pub returns : goal.returns
returns c = object_some _ _ _ refl refl (c.from-owner.ensures ∙ c.owner.ensures) c.if-owner-eq0.false c.args.self.now.state.counted c.region_extent-e.ensures.0 c.if-e-eq0.false c.object_in.ensures
