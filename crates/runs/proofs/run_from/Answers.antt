-- `runs::run_from` meets its contract: no primitives, too few of them, or the comparison.
use Rattle.rules.specs.Flat.{count}
use Rattle.positions.specs.Positions.{keeps_held}
use Rattle.runs.specs.Runs.{run_is, run_empty, run_past}
use Rattle.positions.specs.Table.{term_layout}
use Rattle.terms.specs.declared.Extent.{Extent}
use mathlib.Core.Path.{◌≡◌, refl, sym, ap, ◌∙◌}
use native.Mathlib.Omega.{arith}
use Rattle.runs.proofs.run_from.Goals as goal
use Rattle.runs.proofs.run_from.Goals.{After-extent_in-many, then-many-eq0-via-then-many-eq0, then-many-eq0-via-else-many-eq0+then-most-d, then-many-eq0-via-else-many-eq0+else-most-d+then-most-d-2}

-- the two counts, once both extents are read
module _ (c : After-extent_in-many) where
  most : c.extent_in-most.result.count ≡ count (term_layout c.args.f.now c.args.k c.place_of-a.result)
  most = ap (λ (x : Extent). x.count) (c.extent_in-most.ensures ∙ c.requires.0.entries c.place_of-a.result c.place_of-a.ensures.1)

  many : c.extent_in-many.result.count ≡ count (term_layout c.args.f.now c.args.k c.place_of-b.result)
  many = ap (λ (x : Extent). x.count) (c.extent_in-many.ensures ∙ c.requires.0.entries c.place_of-b.result c.place_of-b.ensures.1)

pub returns-then-many-eq0 : goal.returns-then-many-eq0
returns-then-many-eq0 c =
    let a = c.args in
    let at = (goal.at.returns-then-many-eq0 c).After-extent_in-many in
    elim c.then-many-eq0.branch [
      | then-many-eq0-via-then-many-eq0 w ↦
          run_is a.f.now a.n a.k c.requires.0.counted a.u a.p.now a.p.now (keeps_held a.p.now a.p.now c.requires.1 (λ v. refl)) (λ v. refl) a.t a.q.now a.q.now (keeps_held a.q.now a.q.now c.requires.2 (λ v. refl)) (λ v. refl) a.d _ _ c.place_of-a.ensures.0 c.place_of-b.ensures.0 _
          (run_empty a.f.now (term_layout a.f.now a.k c.place_of-a.result) a.p.now a.d (term_layout a.f.now a.k c.place_of-b.result) a.q.now (sym (many at) ∙ w.if-many-eq0.true))
      | then-many-eq0-via-else-many-eq0+then-most-d w ↦
          run_is a.f.now a.n a.k c.requires.0.counted a.u a.p.now a.p.now (keeps_held a.p.now a.p.now c.requires.1 (λ v. refl)) (λ v. refl) a.t a.q.now a.q.now (keeps_held a.q.now a.q.now c.requires.2 (λ v. refl)) (λ v. refl) a.d _ _ c.place_of-a.ensures.0 c.place_of-b.ensures.0 _
          (run_past a.f.now (term_layout a.f.now a.k c.place_of-a.result) a.p.now a.d (term_layout a.f.now a.k c.place_of-b.result) a.q.now (omega (arith, most at, many at, w.if-most-d.true)))
      | then-many-eq0-via-else-many-eq0+else-most-d+then-most-d-2 w ↦
          run_is a.f.now a.n a.k c.requires.0.counted a.u a.p.now a.p.now (keeps_held a.p.now a.p.now c.requires.1 (λ v. refl)) (λ v. refl) a.t a.q.now a.q.now (keeps_held a.q.now a.q.now c.requires.2 (λ v. refl)) (λ v. refl) a.d _ _ c.place_of-a.ensures.0 c.place_of-b.ensures.0 _
          (run_past a.f.now (term_layout a.f.now a.k c.place_of-a.result) a.p.now a.d (term_layout a.f.now a.k c.place_of-b.result) a.q.now (omega (arith, most at, many at, w.if-most-d-2.true, w.if-most-d.false)))
    ]

pub returns : goal.returns
returns c = let a = c.args in
    run_is a.f.now a.n a.k c.requires.0.counted a.u a.p.now c.held.result (keeps_held c.held.result a.p.now c.requires.1 c.held.ensures) c.held.ensures a.t a.q.now c.held-2.result (keeps_held c.held-2.result a.q.now c.requires.2 c.held-2.ensures) c.held-2.ensures a.d _ _ c.place_of-a.ensures.0 c.place_of-b.ensures.0 _
    c.run_places.ensures
