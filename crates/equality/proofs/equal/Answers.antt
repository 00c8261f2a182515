-- `equality::equal` meets its contract: a term is equal to itself, and under the identity it is itself.
use Rattle.words.specs.Decide.{does}
use Rattle.rules.specs.Types.{variable, Tree, dec_tree}
use Rattle.equality.specs.Equal.{term_identity}
use mathlib.Core.Path.{ap₂, ◌∙◌}
use native.Mathlib.Omega.{arith}
use Rattle.equality.proofs.equal.Goals as goal

pub returns : goal.returns
returns c = let a = c.args in
    let same = term_identity a.f.now (λ i. let b = c.type_inv.f i in omega arith) c.identity-id.result c.identity-id.ensures a.n c.requires in
    c.same.ensures.0 ∙ ap₂ (λ (S T : Tree variable). does (dec_tree S T)) (same a.a) (same a.b)
