-- `host::go::go_running` meets its contract: the run, and the outcome that it left.
use Rattle.host.specs.Going.{go_ran}
use Rattle.host.proofs.go.go_running.Goals as goal

pub returns : goal.returns
returns c =
    let p = c.requires in
    go_ran _ _ _ _ _ _ p.fact_1.accepted p.fact_3.1 (λ j. (c.type_inv.form j).fits) (λ j. (c.slice_known-1.given j).fits) p.fact_2.0 p.fact_2.1 p.fact_3.0 p.fact_3.2 c.run_sized-steps.ensures c.outcome_of-outcome.ensures
