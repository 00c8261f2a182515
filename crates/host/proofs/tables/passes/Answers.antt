-- `host::tables::passes` meets its contract: the range, then the state test. Assumes nothing.
use mathlib.Core.Path.{sym, ◌∙◌}
use mathlib.Core.Logic.{inr}
use Rattle.words.specs.Choose.{and_no}
use Rattle.words.specs.Decide.{does}
use Rattle.rules.specs.Decode.{module_of}
use Rattle.rules.specs.StateTest.{dec_passes}
use Rattle.host.specs.Testing.{and_same}
use Rattle.host.proofs.tables.passes.Goals as goal

pub returns-then-ranged : goal.returns-then-ranged
returns-then-ranged c = c.passes.ensures ∙ sym (and_same _ _ (sym c.ranged.ensures ∙ c.if-ranged.true))

pub returns-else-ranged : goal.returns-else-ranged
returns-else-ranged c =
    let start = c.args in
    sym (and_no (does (dec_passes (module_of start.file.now) start.s.now)) _ (inr (sym c.ranged.ensures ∙ c.if-ranged.false)))
