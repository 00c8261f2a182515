-- `judgment::function::Function::call_result` meets its contract: by the register's type and the callee's record 7.
use mathlib.Core.Path.{sym, ap, ap₂, ◌∙◌}
use Prim.Native.Nat.{ℕ}
use mathlib.Core.Bool.{◌&&◌}
use Rattle.words.specs.Decide.{does}
use Rattle.rules.specs.File.{return_of}
use Rattle.rules.specs.declared.Record.{Record}
use Rattle.rules.specs.Types.{variable, Tree, sub, dec_tree}
use Rattle.rules.specs.Decode.{module_of}
use Rattle.functions.specs.Functions.{function_at, result_at_law}
use Rattle.terms.specs.Compare.{under}
use Rattle.judgment.specs.Registers.{is_register}
use Rattle.judgment.specs.Calls.{call_result}
use Rattle.judgment.proofs.function.Function.call_result.Goals as goal

pub returns : goal.returns
unfolding call_result
returns c =
    let a = c.args in
    let f = a.self.now.file.now in
    ap₂ ◌&&◌ (c.entry-v.ensures.register ∙ ap (is_register (function_at f a.self.now.head)) c.from.ensures)
    (c.equal_under.ensures
    ∙ ap₂ (λ (S T : Tree variable). does (dec_tree S (sub (under a.to.now) T)))
    (ap (λ (t : ℕ). (module_of f).term t) c.from-2.ensures ∙ c.entry-v.ensures.term ∙ ap (function_at f a.self.now.head).register_type c.from.ensures)
    (ap (λ (t : ℕ). (module_of f).term t) (c.return_of-u.ensures ∙ ap (λ (x : Record). return_of x) c.record_at-z.ensures) ∙ sym (result_at_law f a.e)))
