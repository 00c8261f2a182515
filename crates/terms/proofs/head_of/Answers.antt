-- `terms::head_of` meets its contract: place 0, or the record below the place.
use Rattle.terms.specs.HeadLaws.{head_none, head_some, fair, Fair}
use Rattle.terms.specs.Heads.{head_of}
use Rattle.terms.specs.declared.Head.{Head}
use mathlib.Core.Path.{◌≡◌, sym, ◌∙◌, subst}
use native.Mathlib.Omega.{arith}
use Rattle.terms.proofs.head_of.Goals as goal

pub returns-then-p-eq0 : goal.returns-then-p-eq0
returns-then-p-eq0 c = let e = head_none c.args.f.now c.args.p c.if-p-eq0.true in (sym e, omega arith)

pub returns-else-p-eq0 : goal.returns-else-p-eq0
returns-else-p-eq0 c = let a = c.args in
    let e : c.head_from.result ≡ head_of a.f.now a.p = sym (head_some a.f.now a.p c.if-p-eq0.false ∙ cc) in
    (e, subst (λ (h : Head). Fair a.p h) (sym e) (fair a.f.now (λ i. let b = c.type_inv.f i in omega arith) a.p))
