-- `judgment::function::Function::points_to` meets its contract: by the registers' types.
use mathlib.Core.Path.{ap₂, ◌∙◌}
use mathlib.Core.Bool.{◌&&◌}
use lib.Dec.{eqb}
use borrow.Author.Tests.{eqb-true}
use Rattle.words.specs.Decide.{does}
use Rattle.rules.specs.Types.{variable, Tree, form, inner, dec_tree}
use Rattle.rules.specs.Decode.{module_of}
use Rattle.functions.specs.Functions.{function_at}
use Rattle.judgment.specs.Registers.{is_register, is_pointer, points_to}
use Rattle.judgment.specs.Types.{points_in}
use Rattle.judgment.proofs.function.Function.points_to.Goals as goal

pub returns : goal.returns
unfolding points_to is_pointer
returns c =
    let a = c.args in
    let m = module_of a.self.now.file.now in
    let F = function_at a.self.now.file.now a.self.now.head in
    ap₂ (λ (x y : _). x && y)
    (ap₂ ◌&&◌ (c.entry-d.ensures.pointer) (c.entry-e.ensures.register))
    c.equal.ensures
    ∙ points_in (is_register F a.p) (eqb (form (F.register_type a.p)) 2) (is_register F a.v) _ (does (dec_tree (inner (F.register_type a.p)) (F.register_type a.v)))
    (λ q.
    ap₂ (λ (T U : Tree variable). does (dec_tree T U)) (c.entry-d.ensures.target (eqb-true (form (F.register_type a.p)) 2 q)) (c.entry-e.ensures.term))
