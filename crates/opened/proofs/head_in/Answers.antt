-- `opened::head_in` meets its contract: the record at the start that the tables have. Assumes nothing.
use mathlib.Core.Path.{ap, ◌∙◌}
use native.Mathlib.Omega.{arith}
use Rattle.walk.specs.Tables.{tables_starts}
use Rattle.walk.specs.declared.tables.Tables.{Tables}
use Rattle.opened.proofs.head_in.Goals as goal

pub head_of-requires : goal.head_of-requires
head_of-requires c = record { fact_1 = ap (λ (t : Tables). t.starts) c.requires ∙ tables_starts _; fact_2 = omega arith }
