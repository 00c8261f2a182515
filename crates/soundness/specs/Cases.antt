-- Document 01: "Cases C1 to C10 are proved together as one table of the definitions". The table is that of rules/Cases, which
-- computes C1 to C9; C10 is the theorem that the opened state passes the state test. Assumes nothing.
use Rattle.rules.specs.Cases.{Table}
use Rattle.rules.proofs.Cases.{table_with}
use Rattle.soundness.specs.ForCode.{budget_zero}

pub table : Table
table = table_with budget_zero
