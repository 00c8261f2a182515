-- `judgment::function::Function::call_region` meets its contract: by the callees' contracts.
use mathlib.Core.Path.{ap, ap₂, ◌∙◌}
use Prim.Native.Nat.{ℕ}
use mathlib.Core.Bool.{◌&&◌}
use Rattle.words.specs.Decide.{does}
use lib.Dec.{ltb}
use Rattle.rules.specs.Types.{variable, Tree, sub, dec_tree}
use Rattle.functions.specs.Functions.{function_at}
use Rattle.judgment.specs.Registers.{region_is}
use Rattle.judgment.specs.Calls.{call_region}
use Rattle.rules.specs.Module.{regions}
use Rattle.terms.specs.HeadLaws.{digit_byte}
use Rattle.terms.specs.Compare.{under}
use Rattle.judgment.proofs.function.Function.call_region.Goals as goal

pub returns : goal.returns
unfolding call_region
returns c = let a = c.args in let f = a.self.now.file.now in let v = c.digit-v.ensures ∙ digit_byte a.x a.i in ap₂ ◌&&◌ (c.in_scope.ensures ∙ ap (λ (v : ℕ). ltb v (regions (function_at f a.self.now.head))) v) (c.types_equal.ensures ∙ ap₂ (λ (S T : Tree variable). does (dec_tree S (sub (under a.to.now) T))) (region_is f a.self.now.head _ c.region_term-s.ensures ∙ ap (function_at f a.self.now.head).region_type v) (region_is f a.e a.i c.region_term-t.ensures))
