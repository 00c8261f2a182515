-- `judgment::types::description` meets its contract: the head of its term, part by part.
use mathlib.Core.Path.{◌≡◌, sym, ap, ◌∙◌}
use mathlib.Core.Bool.{cond}
use Rattle.rules.specs.Types.{variable, Tree, form, number_of, inner, region_of}
use Rattle.rules.specs.Decode.{module_of}
use Rattle.terms.specs.Readers.{term_form, form_reads, number_reads, region_reads, inner_reads}
use Rattle.functions.specs.Functions.{function_at}
use Rattle.judgment.specs.Registers.{register_is, is_register}
use Rattle.judgment.specs.Types.{same_place, describes}
use Rattle.judgment.proofs.types.description.Goals as goal
use Rattle.judgment.proofs.types.description.Goals.{then-is_register, else-is_register}

pub returns : goal.returns
returns c =
    let a = c.args in
    let f = a.f.now in
    let terms = c.requires.fact_1 in
    let x = c.head_term-x.result in
    let e = c.head_term-x.ensures in
    let T = (module_of f).term c.register_term-t.result in
    let p = register_is f a.h a.a c.register_term-t.ensures in
    let form-is = form_reads f a.n T x e in
    let has : c.if-is_register.form ≡ cond (is_register (function_at f a.h) a.a) (form ((function_at f a.h).register_type a.a)) 0 =
    elim c.if-is_register.branch [
      | then-is_register w ↦ rw (← c.is_register.ensures, w.if-is_register.true) (w.form-is ∙ w.form_no-form.ensures ∙ form-is ∙ ap form p)
      | else-is_register w ↦ rw (← c.is_register.ensures, w.if-is_register.false) w.form-is
    ] in
    describes f a.h a.a
    (λ z. term_form f c.register_term-t.result (ap form p ∙ z))
    has
    (c.region_no.ensures ∙ region_reads f a.n T x e ∙ ap (λ (U : Tree variable). (region_of U).number) p)
    (same_place f terms c.register_term-t.result c.term_at.result (c.term_at.ensures.0 ∙ c.place_of.ensures.0) ∙ p)
    (λ q. (inner_reads f a.n T x e terms c.term_at-2.result (c.term_at-2.ensures.0 ∙ c.inner_no.ensures)).pointer (ap form p ∙ q) ∙ ap inner p)
    (λ q. c.main_no.ensures ∙ number_reads f a.n T x e (λ z. q (sym (ap form p) ∙ sym form-is ∙ z)) ∙ ap number_of p)
