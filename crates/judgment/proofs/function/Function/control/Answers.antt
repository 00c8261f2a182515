-- `judgment::function::Function::control` meets its contract: each arm's kind makes the choice compute; in the last no number fits.
use mathlib.Core.Path.{refl}
use Rattle.rules.specs.Decode.{control_of}
use Rattle.rules.specs.declared.kind.Kind.TheVariants.{Input, Output, Jump, Branch, Call, Return}
use Rattle.typing.specs.Kinds.{kind_is, kind_not}
use Rattle.judgment.proofs.function.Function.control.Goals as goal

pub returns-in-Input : goal.returns-in-Input
unfolding control_of
returns-in-Input c = rw (← c.record_at-x.ensures, kind_is c.record_at-x.result.kind Return Input c.of.ensures c.unwrap_or.ensures c.in-Input.is refl, ← c.from-a.ensures, ← c.from.ensures) c.input.ensures

pub returns-in-Output : goal.returns-in-Output
unfolding control_of
returns-in-Output c = rw (← c.record_at-x.ensures, kind_is c.record_at-x.result.kind Return Output c.of.ensures c.unwrap_or.ensures c.in-Output.is refl, ← c.from-in-Output.ensures) c.output.ensures

pub returns-in-Jump : goal.returns-in-Jump
unfolding control_of
returns-in-Jump c = rw (← c.record_at-x.ensures, kind_is c.record_at-x.result.kind Return Jump c.of.ensures c.unwrap_or.ensures c.in-Jump.is refl) c.jump.ensures

pub returns-in-Branch : goal.returns-in-Branch
unfolding control_of
returns-in-Branch c = rw (← c.record_at-x.ensures, kind_is c.record_at-x.result.kind Return Branch c.of.ensures c.unwrap_or.ensures c.in-Branch.is refl, ← c.from-a.ensures) c.branch-self.ensures

pub returns-in-Call : goal.returns-in-Call
unfolding control_of
returns-in-Call c = rw (← c.record_at-x.ensures, kind_is c.record_at-x.result.kind Return Call c.of.ensures c.unwrap_or.ensures c.in-Call.is refl) c.call.ensures

pub returns-in_default : goal.returns-in_default
unfolding control_of
returns-in_default c =
    let k = c.record_at-x.result.kind in
    let o = c.of.ensures in
    let r = c.unwrap_or.ensures in
    let n = c.in_default in
    rw (← c.record_at-x.ensures, ← c.from-a.ensures) (simp (kind_not k Return Input o r n.not-Input, kind_not k Return Output o r n.not-Output, kind_not k Return Jump o r n.not-Jump, kind_not k Return Branch o r n.not-Branch, kind_not k Return Call o r n.not-Call) c.returned.ensures)
