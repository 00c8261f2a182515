-- `functions::head::Head::entry` meets its contract: by the callees' contracts.
use mathlib.Core.Path.{ap, ap₂, ◌∙◌}
use Rattle.rules.specs.declared.Record.{Record}
use Prim.Native.Nat.{ℕ}
use mathlib.Core.Bool.{◌&&◌}
use lib.Dec.{eqb}
use Rattle.functions.specs.Declares.{entry_fits}
use Rattle.rules.specs.Decode.{module_of}
use Rattle.rules.specs.File.{return_of}
use Rattle.words.specs.Decide.{does}
use Rattle.rules.specs.Types.{int, dec_tree}
use Rattle.functions.proofs.head.Head.entry.Goals as goal

pub returns : goal.returns
returns c = let a = c.args in let m = module_of a.self.now.file.now in ap₂ ◌&&◌ (ap (λ (x : Record). eqb x.a 0) c.record_at-x.ensures) (ap₂ ◌&&◌ c.parameters_fit.ensures (c.is_integer.ensures ∙ ap (λ (t : ℕ). does (dec_tree (m.term t) (int 4))) (c.return_of-t.ensures ∙ ap (λ (x : Record). return_of x) c.record_at-x.ensures))) ∙ entry_fits a.self.now.file.now a.self.now.place
