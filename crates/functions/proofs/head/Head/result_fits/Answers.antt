-- `functions::head::Head::result_fits` meets its contract: by the callees' contracts.
use mathlib.Core.Path.{ap, ap₂, ◌∙◌}
use mathlib.Core.Bool.{◌&&◌}
use Rattle.functions.specs.Declares.{result_fits_law}
use Rattle.rules.specs.Decode.{module_of}
use Rattle.rules.specs.File.{return_of}
use Rattle.words.specs.Decide.{does}
use Rattle.rules.specs.Types.{dec_uses, dec_primitive}
use Rattle.rules.specs.declared.Record.{Record}
use Prim.Native.Nat.{ℕ}
use Rattle.functions.proofs.head.Head.result_fits.Goals as goal

pub returns : goal.returns
returns c = let a = c.args in let m = module_of a.self.now.file.now in ap₂ ◌&&◌ c.primitive.ensures c.uses.ensures ∙ ap (λ (p : ℕ). does (dec_primitive (m.term c.return_of-t.result)) && does (dec_uses p (m.term c.return_of-t.result))) c.from-most.ensures ∙ ap (λ (t : ℕ). does (dec_primitive (m.term t)) && does (dec_uses c.record_at-x.result.a (m.term t))) c.return_of-t.ensures ∙ ap (λ (x : Record). does (dec_primitive (m.term (return_of x))) && does (dec_uses x.a (m.term (return_of x)))) c.record_at-x.ensures ∙ result_fits_law a.self.now.file.now a.self.now.place
