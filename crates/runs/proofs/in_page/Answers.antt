-- `runs::in_page` meets its contract: the object's place in the page, then the run in it.
use Rattle.rules.specs.Decode.{module_of}
use Rattle.rules.specs.Flat.{flat}
use Rattle.rules.specs.Types.{RegionKind, variable, live, sub}
use Rattle.runs.specs.Runs.{page_none, page_past, page_in, size_under}
use Rattle.terms.specs.Compare.{under}
use Rattle.terms.specs.Readers.{entry_type}
use Rattle.terms.specs.declared.Extent.{Extent}
use mathlib.Core.Path.{◌≡◌, ap, ◌∙◌}
use Rattle.runs.proofs.in_page.Goals as goal
use Rattle.runs.proofs.in_page.Goals.{After-extent_at-size, then-size-eq0-via-then-size-eq0, then-size-eq0-via-else-size-eq0+then-x-size}

module _ (c : After-extent_at-size) where
  is : (j : RegionKind) → c.extent_at-size.result.size ≡ (flat (module_of c.args.f.now) (sub (under {k = j} c.args.p.now) (entry_type c.args.f.now c.args.u))).size
  is j = ap (λ (x : Extent). x.size) c.extent_at-size.ensures.0 ∙ size_under j c.args.f.now c.args.p.now c.args.n c.requires.0.counted.terms c.args.u

pub returns-then-size-eq0 : goal.returns-then-size-eq0
returns-then-size-eq0 c =
    let at = (goal.at.returns-then-size-eq0 c).After-extent_at-size in
    elim c.then-size-eq0.branch [
      | then-size-eq0-via-then-size-eq0 w ↦ (page_none _ c.args.x _ _ (is at variable) w.if-size-eq0.true, page_none _ c.args.x _ _ (is at live) w.if-size-eq0.true)
      | then-size-eq0-via-else-size-eq0+then-x-size w ↦ (page_past _ c.args.x _ _ (is at variable) w.if-size-eq0.false w.if-x-size.true, page_past _ c.args.x _ _ (is at live) w.if-size-eq0.false w.if-x-size.true)
    ]

pub returns : goal.returns
returns c = (page_in _ c.args.x _ _ (is (goal.at.returns c).After-extent_at-size variable) c.if-size-eq0.false c.if-x-size.false _ c.run_at.ensures.0, page_in _ c.args.x _ _ (is (goal.at.returns c).After-extent_at-size live) c.if-size-eq0.false c.if-x-size.false _ c.run_at.ensures.1)
