-- `functions::head::Head::parameter_fits` meets its contract: by the callees' contracts.
use mathlib.Core.Path.{ap, ◌∙◌}
use Rattle.functions.specs.Declares.{parameter_fits_law}
use Rattle.rules.specs.Decode.{module_of}
use Rattle.words.specs.Decide.{does}
use Rattle.rules.specs.Types.{int, dec_tree}
use Prim.Native.Nat.{ℕ}
use Rattle.functions.proofs.head.Head.parameter_fits.Goals as goal

pub returns : goal.returns
returns c = let a = c.args in c.is_integer.ensures ∙ ap (λ (t : ℕ). does (dec_tree ((module_of a.self.now.file.now).term t) (int 4))) c.register_term-t.ensures ∙ parameter_fits_law a.self.now.file.now a.self.now.place a.a
