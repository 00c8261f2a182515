-- `walk::kinds::group_of` meets its contract: a law for each range.
use mathlib.Core.Path.{sym}
use mathlib.Core.Logic.{inl, inr}
use native.Mathlib.Omega.{arith}
use Rattle.typing.specs.Groups.{group_arithmetic, group_memory, group_untyped, group_control}
use Rattle.walk.proofs.kinds.group_of.Goals as goal

pub returns-in-16-to-22 : goal.returns-in-16-to-22
returns-in-16-to-22 c = sym (group_arithmetic c.args.kind (inl (omega (arith, c.in-16-to-22.if-kind-lt23-own.true))))

pub returns-in-23-to-28 : goal.returns-in-23-to-28
returns-in-23-to-28 c = sym (group_memory c.args.kind (omega (arith, c.in-23-to-28.if-kind-lt23-own.false)) (omega (arith, c.in-23-to-28.if-kind-lt29-own.true)))

pub returns-in-29-to-34 : goal.returns-in-29-to-34
returns-in-29-to-34 c = sym (group_control c.args.kind (omega (arith, c.in-29-to-34.if-kind-lt29-own.false)) (omega (arith, c.in-29-to-34.if-kind-lt35-own.true)))

pub returns-in-36-to-39 : goal.returns-in-36-to-39
returns-in-36-to-39 c = sym (group_untyped c.args.kind (omega (arith, c.in-36-to-39.if-kind-lt36-own.false)) (omega (arith, c.in-36-to-39.if-kind-lt40-own.true)))

pub returns-in_default : goal.returns-in_default
returns-in_default c = sym (group_arithmetic c.args.kind (inl (omega (arith, c.in_default.if-kind-lt16-own.true))))

pub returns-in_default-2 : goal.returns-in_default-2
returns-in_default-2 c = sym (group_arithmetic c.args.kind (inr (inl (omega (arith, c.in_default.if-kind-lt35-own.false), omega (arith, c.in_default.if-kind-lt36-own.true)))))

pub returns-in_default-3 : goal.returns-in_default-3
returns-in_default-3 c = sym (group_arithmetic c.args.kind (inr (inr (omega (arith, c.in_default.if-kind-lt40-own.false)))))
