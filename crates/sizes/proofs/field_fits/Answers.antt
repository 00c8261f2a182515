-- `sizes::field_fits` meets its contract: by the callees' contracts.
use mathlib.Core.Path.{ap₂, ◌∙◌}
use Prim.Native.Nat.{ℕ}
use Rattle.rules.specs.Decode.{module_of}
use Rattle.words.specs.Decide.{does}
use Rattle.rules.specs.Types.{dec_uses}
use Rattle.sizes.specs.Sizes.{field_fits}
use Rattle.sizes.proofs.field_fits.Goals as goal

pub returns : goal.returns
unfolding field_fits
returns c = let a = c.args in c.uses.ensures ∙ ap₂ (λ (most t : ℕ). does (dec_uses most ((module_of a.f.now).term t))) c.arity-most.ensures c.field_term-t.ensures
