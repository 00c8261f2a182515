-- `pages::unowned_page` meets its contract: the first page that the search passes has no owner, and those before it have one.
use Rattle.std.specs.Prelude.{◌≡◌, ◌≢◌}
use borrow.Author.Rules.{rules}
use borrow.Author.Tests.{tests}
use Rattle.std.proofs.lemmas.Iterator.{first_from_Range}
use Rattle.rules.specs.State.{page_owner}
use Rattle.rules.specs.Step.{unowned_page}
use Rattle.pages.specs.Search.{first_zero}
use Rattle.pages.proofs.unowned_page.Goals as goal

pub returns : goal.returns
unfolding unowned_page
returns c =
    let owned = page_owner c.args.s.now in
    first_zero owned c.args.low c.args.past c.find.result
    (first_from_Range _ _ _ _ (λ q. owned q ≡ 0) (λ q. owned q ≢ 0) c.find.ensures.ran (λ x q k. search (rules, tests)) (λ x q k. (search rules, search (rules, tests))))
