-- `terms::form` meets its contract: by the kind of the term's record.
use Rattle.terms.specs.Readers.{form_by, form_in, form_out}
use mathlib.Core.Path.{ap, ◌∙◌}
use native.Mathlib.Omega.{arith}
use Rattle.terms.proofs.form.Goals as goal

pub returns-then-t-n : goal.returns-then-t-n
returns-then-t-n c =
    let a = c.args in
    c.form_by.ensures ∙ ap form_by c.byte_at.ensures ∙ form_in a.f.now (λ i. omega (arith, c.type_inv.f i)) a.n c.requires a.t c.if-t-n.true

pub returns-else-t-n : goal.returns-else-t-n
returns-else-t-n c =
    let a = c.args in
    form_out a.f.now (λ i. omega (arith, c.type_inv.f i)) a.n c.requires a.t c.if-t-n.false
