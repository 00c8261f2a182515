-- `judgment::function::Function::same_types` meets its contract: by the registers' types.
use mathlib.Core.Path.{ap₂, ◌∙◌}
use mathlib.Core.Bool.{◌&&◌}
use Rattle.words.specs.Decide.{does}
use Rattle.rules.specs.Types.{variable, Tree, dec_tree}
use Rattle.rules.specs.Decode.{module_of}
use Rattle.judgment.specs.Registers.{same_types}
use Rattle.judgment.proofs.function.Function.same_types.Goals as goal

pub returns : goal.returns
unfolding same_types
returns c =
    let m = module_of c.args.self.now.file.now in
    ap₂ ◌&&◌ (c.entry-d.ensures.register)
    (ap₂ ◌&&◌ (c.entry-e.ensures.register)
    (c.equal.ensures
    ∙ ap₂ (λ (T U : Tree variable). does (dec_tree T U)) (c.entry-d.ensures.term) (c.entry-e.ensures.term)))
