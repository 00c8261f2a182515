-- `equality::same_args` meets its contract: `all` asks each of the first n regions.
use Rattle.std.proofs.Common.{ℕ, Bool, List, eqb, ◌∙◌, arith, rules, tests}
use Rattle.std.proofs.lemmas.Iterator.{YieldsList-from_range}
use Rattle.std.proofs.lemmas.Iterator.Search.{all_from_yields_List}
use Rattle.terms.specs.Compare.{byte_under}
use Rattle.terms.specs.Heads.{digit}
use Rattle.equality.specs.Equal.{args_same}
use Rattle.equality.specs.Ranges.{all_in_range}
use Rattle.equality.proofs.same_args.Goals as goal

abbrev test : List ℕ → ℕ → List ℕ → ℕ → ℕ → Bool
test p d q e j = eqb (byte_under p (digit d j)) (byte_under q (digit e j))

pub returns : goal.returns
unfolding args_same
returns c =
    let a = c.args in
    all_from_yields_List (test a.p.now a.d a.q.now a.e) _ _ _ c.all.ensures.ran (YieldsList-from_range 0 a.n a.n (cc) (omega arith)) (λ x b q k. search (rules, tests))
    ∙ all_in_range (test a.p.now a.d a.q.now a.e) a.n
