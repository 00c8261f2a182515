-- `regions::lowest_number` meets its contract: the first region that the search passes is not in the set, and those before it are.
use Rattle.std.proofs.Common.{◌∙◌}
use Rattle.std.specs.Prelude.{◌≡◌, ◌≢◌, ℕ, ◌+◌}
use borrow.Author.Rules.{rules}
use borrow.Author.Tests.{tests}
use Rattle.std.proofs.lemmas.Iterator.{first_from_Range}
use Rattle.words.specs.Bytes.{byte_at}
use Rattle.regions.specs.Regions.{lowest_found, lowest_in_le}
use Rattle.regions.proofs.lowest_number.Goals as goal

pub returns : goal.returns
returns c =
    let at : ℕ → ℕ = λ r. byte_at c.args.a.now (r + 1) in
    let e = c.unwrap_or.ensures ∙ lowest_found c.args.a.now c.args.n c.find.result
    (first_from_Range _ _ _ _ (λ r. at r ≡ 0) (λ r. at r ≢ 0) c.find.ensures.ran (λ x q k. search (rules, tests)) (λ x q k. (search rules, search (rules, tests)))) in
    (e, rw e (lowest_in_le c.args.a.now c.args.n))
