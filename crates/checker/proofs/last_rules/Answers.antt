-- `checker::last_rules` meets its contract: refusal 8 is one stage, and accepted behind it.
use mathlib.Core.Path.{ap, ◌∙◌}
use native.Mathlib.Omega.{arith}
use Rattle.rules.specs.Limits.{bad_end}
use Rattle.rules.specs.Decode.{module_of}
use Rattle.rules.specs.Verdict.{last_stage, last_test}
use Rattle.framing.specs.Outcome.{Refused, first_passes, first_refuses}
use Rattle.functions.specs.Functions.{start_small}
use Rattle.checker.specs.Rules.{last_place_is, accepted_is, last_refused, last_passed, first_some, first_no}
use Rattle.checker.proofs.last_rules.Goals as goal

pub start_of-h-requires : goal.start_of-h-requires
start_of-h-requires c =
    let p = c.requires.fact_1 in
    let h = first_some (last_test (module_of c.args.f.now)) p.functions c.in-Some.is c.requires.fact_2 in
    record { fact_1 = p.starts; fact_2 = omega (arith, p.few, p.functions, h.1) }

pub last_place-requires : goal.last_place-requires
last_place-requires c = omega (arith, c.start_of-h.ensures, start_small c.args.f.now c.requires.fact_1.short c.in-Some.g)

pub returns-in-Some : goal.returns-in-Some
returns-in-Some c =
    let f = c.args.f.now in
    let h = first_some (last_test (module_of f)) c.requires.fact_1.functions c.in-Some.is c.requires.fact_2 in
    last_refused f (ap (Refused bad_end) (c.last_place.ensures ∙ last_place_is f _ c.in-Some.g c.start_of-h.ensures) ∙ first_refuses (last_stage f (module_of f)) h)

pub returns-in-None : goal.returns-in-None
returns-in-None c =
    let f = c.args.f.now in
    let p = c.requires.fact_1 in
    accepted_is f p.counted.terms.are p.counted.structs p.functions c.instructions.ensures
    ∙ last_passed f (first_passes (last_stage f (module_of f)) (first_no (last_test (module_of f)) p.functions c.in-None.is c.requires.fact_2))
