-- `judgment::function::Function::arithmetic` meets its contract: each arm's kind makes the choice compute; in the last no number fits.
use mathlib.Core.Path.{refl}
use Rattle.std.proofs.Common.{⊎_elim}
use Rattle.rules.specs.Decode.{arithmetic_of}
use Rattle.rules.specs.declared.kind.Kind.TheVariants.{Constant, Copy, Operate, ZeroExtend, SignExtend, Address, Check}
use Rattle.typing.specs.Kinds.{kind_is, kind_not}
use Rattle.judgment.proofs.function.Function.arithmetic.Goals as goal

pub returns-in-Constant : goal.returns-in-Constant
unfolding arithmetic_of
returns-in-Constant c = rw (kind_is c.args.x.kind Check Constant c.of.ensures c.unwrap_or.ensures c.in-Constant.is refl, ← c.from-a.ensures) c.constant.ensures

pub returns-in-Copy : goal.returns-in-Copy
unfolding arithmetic_of
returns-in-Copy c = rw (kind_is c.args.x.kind Check Copy c.of.ensures c.unwrap_or.ensures c.in-Copy.is refl, ← c.from-a.ensures, ← c.from-b.ensures) c.copy.ensures

pub returns-in-Operate : goal.returns-in-Operate
unfolding arithmetic_of
returns-in-Operate c = rw (kind_is c.args.x.kind Check Operate c.of.ensures c.unwrap_or.ensures c.in-Operate.is refl, ← c.from-a.ensures, ← c.from-b.ensures, ← c.from-c.ensures) c.operate.ensures

pub returns-in-ZeroExtend : goal.returns-in-ZeroExtend
unfolding arithmetic_of
returns-in-ZeroExtend c =
    ⊎_elim (λ e. rw (kind_is c.args.x.kind Check ZeroExtend c.of.ensures c.unwrap_or.ensures e refl, ← c.from-a.ensures, ← c.from-b.ensures) c.extend.ensures.zero)
    (λ e. rw (kind_is c.args.x.kind Check SignExtend c.of.ensures c.unwrap_or.ensures e refl, ← c.from-a.ensures, ← c.from-b.ensures) c.extend.ensures.sign) c.in-ZeroExtend.is

pub returns-in-Address : goal.returns-in-Address
unfolding arithmetic_of
returns-in-Address c = rw (kind_is c.args.x.kind Check Address c.of.ensures c.unwrap_or.ensures c.in-Address.is refl, ← c.from-a.ensures, ← c.from-b.ensures) c.address.ensures

pub returns-in_default : goal.returns-in_default
unfolding arithmetic_of
returns-in_default c =
    let k = c.args.x.kind in
    let o = c.of.ensures in
    let r = c.unwrap_or.ensures in
    let n = c.in_default in
    rw (← c.from-a.ensures, ← c.from-b.ensures) (simp (kind_not k Check Constant o r n.not-Constant, kind_not k Check Copy o r n.not-Copy, kind_not k Check Operate o r n.not-Operate, kind_not k Check ZeroExtend o r n.not-ZeroExtend, kind_not k Check SignExtend o r n.not-SignExtend, kind_not k Check Address o r n.not-Address) c.check.ensures)
