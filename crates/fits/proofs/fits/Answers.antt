-- `fits::fits` meets its contract: one function for each phase. Assumes nothing.
use mathlib.Core.Path.{sym, ◌∙◌}
use Rattle.rules.specs.Records.{fits_in}
use Rattle.fits.specs.Phases.{fits_in_law}
use Rattle.fits.proofs.fits.Goals as goal

pub returns-in-Terms : goal.returns-in-Terms
unfolding fits_in
returns-in-Terms c = (rw c.requires.fact_2 at c.first_fits.ensures) ∙ sym (fits_in_law _ _ _ _ c.in-Terms.is)

pub returns-in-Names : goal.returns-in-Names
unfolding fits_in
returns-in-Names c = c.name_or_function_fits.ensures ∙ sym (fits_in_law _ _ _ _ c.in-Names.is)

pub returns-in-Fields : goal.returns-in-Fields
unfolding fits_in
returns-in-Fields c = c.list_fits.ensures ∙ sym (fits_in_law _ _ _ _ c.in-Fields.is)

pub returns-in-Functions : goal.returns-in-Functions
unfolding fits_in
returns-in-Functions c = c.function_or_filler_fits.ensures ∙ sym (fits_in_law _ _ _ _ c.in-Functions.is)

pub returns-in-Regions : goal.returns-in-Regions
unfolding fits_in
returns-in-Regions c = c.list_fits-in-Regions.ensures ∙ sym (fits_in_law _ _ _ _ c.in-Regions.is)

pub returns-in-Registers : goal.returns-in-Registers
unfolding fits_in
returns-in-Registers c = c.list_fits-in-Registers.ensures ∙ sym (fits_in_law _ _ _ _ c.in-Registers.is)

pub returns-in-Code : goal.returns-in-Code
unfolding fits_in
returns-in-Code c = c.instruction_fits.ensures ∙ sym (fits_in_law _ _ _ _ c.in-Code.is)

pub returns-in-Arguments : goal.returns-in-Arguments
unfolding fits_in
returns-in-Arguments c = c.arguments_fit.ensures ∙ sym (fits_in_law _ _ _ _ c.in-Arguments.is)

pub returns-in-Filler : goal.returns-in-Filler
unfolding fits_in
returns-in-Filler c = c.is_filler.ensures ∙ sym (fits_in_law _ _ _ _ c.in-Filler.is)

pub returns-in-Broken : goal.returns-in-Broken
unfolding fits_in
returns-in-Broken c = sym (fits_in_law _ _ _ _ c.in-Broken.is)
