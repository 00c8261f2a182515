-- `equality::same` meets its contract: the terms stand at their places.
use Prim.Native.Nat.{ℕ}
use Rattle.rules.specs.Types.{variable, live}
use Rattle.equality.specs.Equal.{places_same, places_terms}
use mathlib.Core.Path.{ap₂, ◌∙◌}
use Rattle.equality.proofs.same.Goals as goal

pub returns : goal.returns
returns c = let a = c.args in (
  c.same_places.ensures.0 ∙ ap₂ (λ (x y : ℕ). places_same variable a.f.now x a.p.now y a.q.now) c.place_of.ensures.0 c.place_of-2.ensures.0 ∙ places_terms variable a.f.now a.n c.requires a.a a.p.now a.b a.q.now,
  c.same_places.ensures.1 ∙ ap₂ (λ (x y : ℕ). places_same live a.f.now x a.p.now y a.q.now) c.place_of.ensures.0 c.place_of-2.ensures.0 ∙ places_terms live a.f.now a.n c.requires a.a a.p.now a.b a.q.now,
)
