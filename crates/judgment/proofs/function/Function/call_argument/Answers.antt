-- `judgment::function::Function::call_argument` meets its contract: by the register's type and the callee's record 9.
use mathlib.Core.Path.{ap, ap₂, ◌∙◌}
use Prim.Native.Nat.{ℕ}
use mathlib.Core.Bool.{◌&&◌}
use Rattle.words.specs.Decide.{does}
use Rattle.rules.specs.Types.{variable, Tree, sub, dec_tree}
use Rattle.rules.specs.Decode.{module_of}
use Rattle.functions.specs.Functions.{function_at}
use Rattle.terms.specs.Compare.{under}
use Rattle.judgment.specs.Registers.{is_register, register_is}
use Rattle.judgment.specs.Calls.{call_argument}
use Rattle.judgment.proofs.function.Function.call_argument.Goals as goal

pub returns : goal.returns
unfolding call_argument
returns c =
    let a = c.args in
    let f = a.self.now.file.now in
    let v = c.entry_of-a.ensures.0 in
    ap₂ ◌&&◌ (c.entry-v.ensures.register ∙ ap (is_register (function_at f a.self.now.head)) v)
    (c.equal_under.ensures
    ∙ ap₂ (λ (S T : Tree variable). does (dec_tree S (sub (under a.to.now) T)))
    (ap (λ (t : ℕ). (module_of f).term t) c.from.ensures ∙ c.entry-v.ensures.term ∙ ap (function_at f a.self.now.head).register_type v)
    (register_is f a.e a.i c.register_term-t.ensures))
