-- `functions::head::Head::register_fits` meets its contract: by the callees' contracts.
use mathlib.Core.Path.{ap, ap₂, ◌∙◌}
use mathlib.Core.Bool.{◌&&◌}
use Rattle.functions.specs.Functions.{scope_in}
use Rattle.functions.specs.Declares.{register_fits_law}
use Rattle.rules.specs.Decode.{module_of}
use Rattle.rules.specs.File.{parameters_of}
use Rattle.words.specs.Decide.{does}
use Rattle.rules.specs.Types.{dec_uses, dec_primitive}
use Rattle.rules.specs.declared.Record.{Record}
use Prim.Native.Nat.{ℕ}
use Rattle.functions.proofs.head.Head.register_fits.Goals as goal

pub returns : goal.returns
returns c = let a = c.args in let m = module_of a.self.now.file.now in ap₂ ◌&&◌ c.primitive.ensures c.uses.ensures ∙ ap₂ (λ (most t : ℕ). does (dec_primitive (m.term t)) && does (dec_uses most (m.term t))) (c.scope_in-most.ensures ∙ ap (λ (p : ℕ). scope_in c.record_at-x.result p a.a) c.parameters_of-params.ensures ∙ ap (λ (x : Record). scope_in x (parameters_of x) a.a) c.record_at-x.ensures) c.register_term-t.ensures ∙ register_fits_law a.self.now.file.now a.self.now.place a.a
