-- `sizes::counts` meets its contract: by the term's head.
use mathlib.Core.Path.{ap, ap₂, ◌∙◌}
use Prim.Native.Nat.{ℕ}
use mathlib.Core.Bool.{not, ◌||◌}
use lib.Dec.{eqb}
use Rattle.sizes.specs.Sizes.{counts_head, counts_reads, main_small, arity_of}
use Rattle.terms.specs.Heads.{form_no, args_no}
use native.Mathlib.Omega.{arith}
use Rattle.sizes.proofs.counts.Goals as goal

pub arity-regions-requires : goal.arity-regions-requires
arity-regions-requires c = record { fact_1 = c.requires; fact_2 = omega (arith, c.main_no.ensures, main_small c.args.n c.head_term-x.result c.head_term-x.ensures.fair) }

pub returns : goal.returns
unfolding counts_head
returns c = let a = c.args in ap₂ (λ (x y : ℕ). not (eqb x 4) || eqb y c.arity-regions.result) c.form_no.ensures c.args_no.ensures ∙ ap (λ (y : ℕ). not (eqb (form_no c.head_term-x.result) 4) || eqb (args_no c.head_term-x.result) y) (c.arity-regions.ensures ∙ ap (arity_of a.f.now a.n) c.main_no.ensures) ∙ counts_reads a.f.now a.n c.requires _ _ c.head_term-x.ensures
