-- `instructions::known::same_known` meets its contract: one term, or as many primitives and the run from the first one.
use mathlib.Core.Path.{◌≡◌, ◌∙◌}
use native.Mathlib.Omega.{arith}
use Rattle.rules.specs.Flat.{count}
use Rattle.instructions.specs.Known.{layout_of}
use Rattle.instructions.specs.Same.{count_in_law, first_zero, same_own, same_no, same_run}
use Rattle.instructions.proofs.known.same_known.Goals as goal

pub returns-then-u-t : goal.returns-then-u-t
returns-then-u-t c =
    let a = c.args in
    let f = a.f.now in
    let p = c.requires in
    let one : c.extent_in-count.result.count ≡ count (layout_of f a.u) = count_in_law f a.n a.k a.tab.now p.fact_1 a.u c.place_of.result c.place_of.ensures.0 c.place_of.ensures.1 c.extent_in-count.result c.extent_in-count.ensures in
    (same_own f a.u a.t c.if-u-t.true c.extent_in-count.result.count one, p.fact_3)

pub returns-then-count-other : goal.returns-then-count-other
returns-then-count-other c =
    let a = c.args in
    let f = a.f.now in
    let p = c.requires in
    let one : c.extent_in-count.result.count ≡ count (layout_of f a.u) = count_in_law f a.n a.k a.tab.now p.fact_1 a.u c.place_of.result c.place_of.ensures.0 c.place_of.ensures.1 c.extent_in-count.result c.extent_in-count.ensures in
    let other : c.extent_in-other.result.count ≡ count (layout_of f a.t) = count_in_law f a.n a.k a.tab.now p.fact_1 a.t c.place_of-2.result c.place_of-2.ensures.0 c.place_of-2.ensures.1 c.extent_in-other.result c.extent_in-other.ensures in
    (same_no f a.u a.t (λ e. omega (arith, one, other, c.if-count-other.true)), p.fact_3)

pub returns : goal.returns
returns c =
    let a = c.args in
    let f = a.f.now in
    let p = c.requires in
    let one : c.extent_in-count.result.count ≡ count (layout_of f a.u) = count_in_law f a.n a.k a.tab.now p.fact_1 a.u c.place_of.result c.place_of.ensures.0 c.place_of.ensures.1 c.extent_in-count.result c.extent_in-count.ensures in
    let other : c.extent_in-other.result.count ≡ count (layout_of f a.t) = count_in_law f a.n a.k a.tab.now p.fact_1 a.t c.place_of-2.result c.place_of-2.ensures.0 c.place_of-2.ensures.1 c.extent_in-other.result c.extent_in-other.ensures in (
      c.run_known.ensures.0
          ∙ same_run f a.u a.t (omega (arith, one, other, c.if-count-other.false))
          (first_zero f a.n a.k a.tab.now p.fact_1 a.u c.place_of.result c.place_of.ensures.0 c.place_of.ensures.1),
      c.run_known.ensures.1,
    )
