-- `judgment::function::Function::returned` meets its contract: by the register's type and the function's record 7.
use mathlib.Core.Path.{sym, ap, ap₂, ◌∙◌}
use Prim.Native.Nat.{ℕ}
use mathlib.Core.Bool.{◌&&◌}
use Rattle.words.specs.Decide.{does}
use Rattle.rules.specs.File.{return_of}
use Rattle.rules.specs.declared.Record.{Record}
use Rattle.rules.specs.Types.{variable, Tree, dec_tree}
use Rattle.rules.specs.Decode.{module_of}
use Rattle.functions.specs.Functions.{function_at, result_at_law}
use Rattle.judgment.specs.Rules.{return_test}
use Rattle.judgment.proofs.function.Function.returned.Goals as goal

pub returns : goal.returns
returns c =
    let a = c.args in
    let m = module_of a.self.now.file.now in
    let F = function_at a.self.now.file.now a.self.now.head in
    ap₂ ◌&&◌ (c.entry-e.ensures.register)
    (c.equal.ensures
    ∙ ap₂ (λ (T U : Tree variable). does (dec_tree T U)) (ap (λ (t : ℕ). m.term t) c.from.ensures ∙ c.entry-e.ensures.term)
    (ap (λ (t : ℕ). m.term t) (c.return_of-u.ensures ∙ ap (λ (x : Record). return_of x) c.record_at-x.ensures) ∙ sym (result_at_law a.self.now.file.now a.self.now.head)))
    ∙ return_test m F a.a
