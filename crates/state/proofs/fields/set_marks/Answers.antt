-- `state::fields::set_marks` meets its contract: one mark after the other, each on the state that the last left. Assumes nothing.
use mathlib.Core.Path.{sym, ◌∙◌}
use native.Mathlib.Omega.{arith}
use Rattle.state.specs.Fields.{marks_first, marks_next, marks_last}
use borrow.Author.Rules.{rules}
use Rattle.state.proofs.fields.set_marks.Goals as goal

pub loop-i-init : goal.loop-i-init
loop-i-init c = (c.requires.0, marks_first _ _ _ _)

pub loop-i-preserved : goal.loop-i-preserved
loop-i-preserved c = (
  search rules,
  marks_next _ _ _ _ _ c.loop-i.i c.loop-i-test.true c.set_mark.ensures ∙ c.loop-i.invariant.1,
)

pub returns : goal.returns
returns c = sym (marks_last _ _ _ _ c.loop-i.i (omega arith)) ∙ c.loop-i.invariant.1
