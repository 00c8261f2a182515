-- `walk::step::next` meets its contract: one function for each phase. Assumes nothing.
use mathlib.Core.Logic.{inl, inr}
use mathlib.Core.Path.{sym, ◌∙◌}
use Rattle.rules.specs.Walk.{step}
use Rattle.walk.specs.Scan.{next_in}
use Rattle.walk.proofs.step.next.Goals as goal

pub returns-in-Terms : goal.returns-in-Terms
returns-in-Terms c = c.in_terms.ensures ∙ sym (next_in _ _ _ c.in-Terms.is)

pub returns-in-Names : goal.returns-in-Names
unfolding step
returns-in-Names c = c.to_name.ensures ∙ sym (next_in _ _ _ c.in-Names.is)

pub returns-in-Fields : goal.returns-in-Fields
returns-in-Fields c = c.in_fields.ensures ∙ sym (next_in _ _ _ c.in-Fields.is)

pub returns-in-Functions : goal.returns-in-Functions
unfolding step
returns-in-Functions c = c.to_function.ensures ∙ sym (next_in _ _ _ c.in-Functions.is)

pub returns-in-Regions : goal.returns-in-Regions
returns-in-Regions c = c.in_regions.ensures ∙ sym (next_in _ _ _ c.in-Regions.is)

pub returns-in-Registers : goal.returns-in-Registers
returns-in-Registers c = c.in_registers.ensures ∙ sym (next_in _ _ _ c.in-Registers.is)

pub returns-in-Code : goal.returns-in-Code
returns-in-Code c = c.in_code.ensures ∙ sym (next_in _ _ _ c.in-Code.is)

pub returns-in-Arguments : goal.returns-in-Arguments
returns-in-Arguments c = c.in_arguments.ensures ∙ sym (next_in _ _ _ c.in-Arguments.is)

pub returns-in-Filler : goal.returns-in-Filler
unfolding step
returns-in-Filler c = elim c.in-Filler.is [ inl e ↦ sym (next_in _ _ _ e) | inr e ↦ sym (next_in _ _ _ e) ]
