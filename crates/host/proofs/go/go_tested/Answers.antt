-- `host::go::go_tested` meets its contract: the state test, then the status.
use mathlib.Core.Path.{refl, sym, ◌∙◌}
use Rattle.host.specs.Going.{tested, go_failed, go_over, went_refused}
use Rattle.host.proofs.go.go_tested.Goals as goal

pub go_running-requires : goal.go_running-requires
go_running-requires c = record { fact_1 = c.tables_of-t.ensures; fact_2 = tested _ _ _ c.passes.ensures c.if-not-passes.false; fact_3 = (sym c.status.ensures ∙ c.if-status-ne0.false, c.requires.fact_2.0, c.requires.fact_2.2) }

pub returns-then-status-ne0 : goal.returns-then-status-ne0
returns-then-status-ne0 c = went_refused refl refl (go_over _ _ _ _ _ _ c.requires.fact_1 c.requires.fact_2.0 c.requires.fact_2.1 c.requires.fact_2.2 c.passes.ensures c.if-not-passes.false c.status.ensures c.if-status-ne0.true)

pub returns-then-not-passes : goal.returns-then-not-passes
returns-then-not-passes c = went_refused refl refl (go_failed _ _ _ _ _ _ c.requires.fact_1 c.requires.fact_2.0 c.requires.fact_2.1 c.requires.fact_2.2 c.passes.ensures c.if-not-passes.true)
