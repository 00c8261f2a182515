-- `terms::head_from` meets its contract: by the record's kind.
use Rattle.terms.specs.HeadLaws.{head_int, head_ptr, head_arr, head_untyped, head_struct}
use native.Mathlib.Omega.{arith}
use mathlib.Core.Path.{sym, ◌∙◌}
use Rattle.terms.proofs.head_from.Goals as goal

pub returns-in-1 : goal.returns-in-1
returns-in-1 c = sym (head_int _ _ c.in-1.is ∙ cc)

pub returns-in-2 : goal.returns-in-2
returns-in-2 c = sym (head_ptr _ _ c.in-2.is ∙ cc)

pub returns-in-3 : goal.returns-in-3
returns-in-3 c = sym (head_arr _ _ c.in-3.is ∙ cc)

pub returns-in-11 : goal.returns-in-11
returns-in-11 c = sym (head_untyped _ _ c.in-11.is ∙ cc)

pub returns-in_default : goal.returns-in_default
returns-in_default c = sym (head_struct _ _ (λ e. omega arith) (λ e. omega arith) (λ e. omega arith) (λ e. omega arith) ∙ cc)
