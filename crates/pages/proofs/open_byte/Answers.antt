-- `pages::open_byte` meets its contract: the first byte that the search passes is not full, and those before it are.
use Rattle.std.specs.Prelude.{◌≡◌, ◌≢◌, ◌+◌, ℕ}
use borrow.Author.Rules.{rules}
use borrow.Author.Tests.{tests}
use Rattle.std.proofs.lemmas.Iterator.{first_from_Range}
use Rattle.words.specs.Bytes.{byte_at}
use Rattle.pages.specs.Places.{open_found}
use Rattle.pages.proofs.open_byte.Goals as goal

pub returns : goal.returns
returns c =
    let at : ℕ → ℕ = λ k. byte_at c.args.s.now (c.marks_place-at.result + k) in
    open_found c.args.s.now c.args.p c.args.from c.find.result c.marks_place-at.ensures c.requires.3
    (first_from_Range _ _ _ _ (λ i. at i ≢ 255) (λ i. at i ≡ 255) c.find.ensures.ran (λ x q k. search (rules, tests)) (λ x q k. (search rules, search (rules, tests))))
