-- `terms::primitive` meets its contract: integers and pointers are the lowest forms, untyped pointers have 11.
use Prim.Native.Nat.{ℕ}
use Rattle.terms.specs.Readers.{primitive_reads, term_form}
use lib.Dec.{eqb, leb}
use mathlib.Core.Bool.{◌||◌}
use mathlib.Core.Path.{ap, ◌∙◌}
use Rattle.terms.proofs.primitive.Goals as goal

pub returns : goal.returns
returns c =
    let a = c.args in
    ap (λ (x : ℕ). leb x 2 || eqb x 11) c.form-form.ensures ∙ primitive_reads _ (term_form a.f.now a.t)
