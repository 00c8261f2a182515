-- `functions::head::Head::region_fits` meets its contract: by the callees' contracts.
use mathlib.Core.Path.{ap, ap₂, ◌∙◌}
use mathlib.Core.Bool.{◌||◌}
use lib.Dec.{eqb}
use Rattle.functions.specs.Functions.{scope_in}
use Rattle.functions.specs.Declares.{region_fits_law}
use Rattle.rules.specs.Decode.{module_of}
use Rattle.words.specs.Decide.{does}
use Rattle.rules.specs.File.{untyped_mark}
use Rattle.rules.specs.Types.{dec_uses}
use Rattle.rules.specs.declared.Record.{Record}
use Prim.Native.Nat.{ℕ}
use Rattle.functions.proofs.head.Head.region_fits.Goals as goal

pub returns : goal.returns
returns c = let a = c.args in ap (λ u. eqb c.region_term-t.result untyped_mark || u) c.uses.ensures ∙ ap₂ (λ (most t : ℕ). eqb t untyped_mark || does (dec_uses most ((module_of a.self.now.file.now).term t))) (c.scope_in-most.ensures ∙ ap (λ (p : ℕ). scope_in c.record_at-x.result p a.i) c.from.ensures ∙ ap (λ (x : Record). scope_in x x.a a.i) c.record_at-x.ensures) c.region_term-t.ensures ∙ region_fits_law a.self.now.file.now a.self.now.place a.i
