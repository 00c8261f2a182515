-- `framing::framing` meets its contract: the length, then every test of the blocks passed holds. Assumes nothing.
use mathlib.Core.Path.{sym, ◌∙◌}
use native.Mathlib.Omega.{arith}
use Rattle.framing.specs.Framing.{few_blocks}
use Rattle.framing.specs.Outcome.{wrong_length, wrong_place, wrong_check, right_none, right_more, right_all}
use Rattle.framing.proofs.framing.Goals as goal

pub returns-then-not-length_right : goal.returns-then-not-length_right
returns-then-not-length_right c = wrong_length _ (sym c.length_right.ensures ∙ c.if-not-length_right.true)

pub loop-i-init : goal.loop-i-init
loop-i-init c = right_none _

pub place_right-requires : goal.place_right-requires
place_right-requires c = let h = few_blocks c.args.f.now (sym c.length_right.ensures ∙ c.if-not-length_right.false) in omega arith

pub check_right-requires : goal.check_right-requires
check_right-requires c = let h = few_blocks c.args.f.now (sym c.length_right.ensures ∙ c.if-not-length_right.false) in omega arith

pub returns-then-not-place_right : goal.returns-then-not-place_right
returns-then-not-place_right c = wrong_place _ (sym c.length_right.ensures ∙ c.if-not-length_right.false) (omega arith) c.loop-i.invariant (sym c.place_right.ensures ∙ c.if-not-place_right.true)

pub returns-then-not-check_right : goal.returns-then-not-check_right
returns-then-not-check_right c = wrong_check _ (sym c.length_right.ensures ∙ c.if-not-length_right.false) (omega arith) c.loop-i.invariant (sym c.place_right.ensures ∙ c.if-not-place_right.false) (sym c.check_right.ensures ∙ c.if-not-check_right.true)

pub loop-i-preserved : goal.loop-i-preserved
loop-i-preserved c = right_more _ _ c.loop-i.invariant (sym c.place_right.ensures ∙ c.if-not-place_right.false) (sym c.check_right.ensures ∙ c.if-not-check_right.false)

pub returns : goal.returns
returns c = right_all _ (sym c.length_right.ensures ∙ c.if-not-length_right.false) _ (omega arith) c.loop-i.invariant
