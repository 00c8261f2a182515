-- `terms::number` meets its contract: by the term's head.
use Rattle.terms.specs.Readers.{pointer_reads, number_reads}
use mathlib.Core.Path.{sym, ◌∙◌}
use Rattle.terms.proofs.number.Goals as goal

pub returns-then-form_no-eq2 : goal.returns-then-form_no-eq2
returns-then-form_no-eq2 c = let a = c.args in c.region_no.ensures ∙ pointer_reads a.f.now a.n _ _ c.head_term-x.ensures (sym c.form_no.ensures ∙ c.if-form_no-eq2.true)

pub returns-else-form_no-eq2 : goal.returns-else-form_no-eq2
returns-else-form_no-eq2 c = let a = c.args in c.main_no.ensures ∙ number_reads a.f.now a.n _ _ c.head_term-x.ensures (λ e. c.if-form_no-eq2.false (c.form_no.ensures ∙ e))
