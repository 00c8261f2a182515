-- `judgment::function::Function::constant` meets its contract: by the register's type.
use mathlib.Core.Path.{ap, ap₂, ◌∙◌}
use Prim.Native.Nat.{ℕ, ◌^◌}
use native.Mathlib.Omega.{arith}
use mathlib.Core.Bool.{◌&&◌}
use lib.Dec.{ltb, eqb}
use borrow.Author.Tests.{eqb-true}
use Rattle.words.specs.Choose.{both}
use Rattle.rules.specs.Types.{form, number_of}
use Rattle.rules.specs.Decode.{module_of}
use Rattle.functions.specs.Functions.{function_at}
use Rattle.judgment.specs.Registers.{is_register, is_integer, guarded}
use Rattle.judgment.specs.Rules.{constant_test}
use Rattle.judgment.proofs.function.Function.constant.Goals as goal

pub returns : goal.returns
unfolding is_integer
returns c =
    let a = c.args in
    let m = module_of a.self.now.file.now in
    let F = function_at a.self.now.file.now a.self.now.head in
    let d = c.entry-e.ensures in
    ap₂ ◌&&◌ d.integer c.fits.ensures
    ∙ guarded (is_integer F a.a) _ (ltb a.d (256 ^ number_of (F.register_type a.a)))
    (λ q. ap (λ (w : ℕ). ltb a.d (256 ^ w)) (d.number (λ z. let i = eqb-true (form (F.register_type a.a)) 1 (both (is_register F a.a) (eqb (form (F.register_type a.a)) 1) q).1 in omega arith)))
    ∙ constant_test m F a.a a.d
