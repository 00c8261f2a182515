-- `equality::equal_under` meets its contract: a term under the identity is itself.
use Rattle.words.specs.Decide.{does}
use Rattle.rules.specs.Decode.{module_of}
use Rattle.rules.specs.Types.{variable, Tree, sub, dec_tree}
use Rattle.terms.specs.Compare.{under}
use Rattle.equality.specs.Equal.{term_identity}
use mathlib.Core.Path.{ap, ◌∙◌}
use native.Mathlib.Omega.{arith}
use Rattle.equality.proofs.equal_under.Goals as goal

pub returns : goal.returns
returns c = let a = c.args in
    let same = term_identity a.f.now (λ i. let b = c.type_inv.f i in omega arith) c.identity-id.result c.identity-id.ensures a.n c.requires in
    c.same.ensures.0 ∙ ap (λ (S : Tree variable). does (dec_tree S (sub (under a.q.now) ((module_of a.f.now).term a.b)))) (same a.a)
