-- `equality::same_places` meets its contract: what is inside the heads that are the same decides.
use Prim.Native.Nat.{ℕ}
use Rattle.rules.specs.Types.{variable, live}
use Rattle.equality.specs.Equal.{places_same, places_on, places_differ, walk_end}
use mathlib.Core.Path.{sym, ap₂, ◌∙◌}
use Rattle.equality.proofs.same_places.Goals as goal

pub loop-i-preserved : goal.loop-i-preserved
loop-i-preserved c = let a = c.args in (
  c.loop-i.invariant.0 ∙ places_on variable a.f.now a.p.now a.q.now c.loop-i.i c.loop-i.j _ _ c.head_of-x.ensures.0 c.head_of-y.ensures.0 (sym c.same_head.ensures ∙ c.if-not-same_head.false) ∙ ap₂ (λ (x y : ℕ). places_same variable a.f.now x a.p.now y a.q.now) (sym c.inner_no-i.ensures) (sym c.inner_no-j.ensures),
  c.loop-i.invariant.1 ∙ places_on live a.f.now a.p.now a.q.now c.loop-i.i c.loop-i.j _ _ c.head_of-x.ensures.0 c.head_of-y.ensures.0 (sym c.same_head.ensures ∙ c.if-not-same_head.false) ∙ ap₂ (λ (x y : ℕ). places_same live a.f.now x a.p.now y a.q.now) (sym c.inner_no-i.ensures) (sym c.inner_no-j.ensures),
)

pub returns-then-not-same_head : goal.returns-then-not-same_head
returns-then-not-same_head c = let a = c.args in (
  sym (c.loop-i.invariant.0 ∙ places_differ variable a.f.now a.p.now a.q.now c.loop-i.i c.loop-i.j _ _ c.head_of-x.ensures.0 c.head_of-y.ensures.0 (sym c.same_head.ensures ∙ c.if-not-same_head.true)),
  sym (c.loop-i.invariant.1 ∙ places_differ live a.f.now a.p.now a.q.now c.loop-i.i c.loop-i.j _ _ c.head_of-x.ensures.0 c.head_of-y.ensures.0 (sym c.same_head.ensures ∙ c.if-not-same_head.true)),
)

pub returns : goal.returns
returns c = let a = c.args in (
  sym (c.loop-i.invariant.0 ∙ walk_end variable a.f.now a.p.now a.q.now c.loop-i.i c.loop-i.j c.loop-i-test.false),
  sym (c.loop-i.invariant.1 ∙ walk_end live a.f.now a.p.now a.q.now c.loop-i.i c.loop-i.j c.loop-i-test.false),
)
