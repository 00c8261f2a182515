-- `pages::allocate` meets its contract: the answers of the searches through the pages of the range decide the definition's tests.
use Rattle.std.specs.Prelude.{◌≡◌, Option}
use Rattle.std.specs.Option.{option_map}
use borrow.Author.Rules.{rules}
use Rattle.pages.specs.declared.Chosen.TheVariants.{Page}
use mathlib.Core.Path.{ap, ap₂, ◌∙◌}
use Prim.Native.Nat.{ℕ}
use native.Mathlib.Omega.{arith}
use Rattle.rules.specs.State.{low_page, end_page, view, page_owner, page_mark}
use Rattle.pages.specs.Search.{found_before, found_first, found_full}
use Rattle.pages.specs.Known.{used_remembered}
use Rattle.pages.specs.Meaning.{chosen, place_chosen, unowned_chosen, page_within}
use Rattle.pages.specs.declared.Chosen.{Chosen}
use Rattle.pages.proofs.allocate.Goals as goal

pub returns-in-Some : goal.returns-in-Some
unfolding view
returns-in-Some c =
    let start = c in
    let s = start.args.s.now in
    let own = c.range-own.ensures in
    let low = c.low_page-low.ensures ∙ ap low_page own in
    let end = c.end_page-past.ensures.0 ∙ ap end_page own in
    let past = c.end_page-past.ensures.1 in
    let none = c.search_start-from.ensures s start.requires.2 low in
    let room = c.find_room-x in
    let at : ℕ → ℕ → Option Chosen = λ lo hi. chosen (page_owner s) (page_mark s) lo hi start.args.r.0 start.args.n 1 in
    let there = rw c.in-Some.is at room.ensures.0.there in (
      place_chosen (page_owner s) (page_mark s) _ _ start.args.r.0 start.args.n 1 c.in-Some.p there.below (found_first _ none there) c.in-Some.j there.place ∙ ap₂ at low end,
      (let h = there.below in omega arith, let h = there.inside in omega arith),
      rw c.remember.ensures (used_remembered _ s _ low start.args.r.0 start.args.n (λ k. (c.type_inv.s k).fits) c.in-Some.p (found_before _ none there) room.ensures.1),
    )

pub returns-in-None : goal.returns-in-None
unfolding view
returns-in-None c =
    let start = c in
    let s = start.args.s.now in
    let own = c.range-own.ensures in
    let low = c.low_page-low.ensures ∙ ap low_page own in
    let end = c.end_page-past.ensures.0 ∙ ap end_page own in
    let past = c.end_page-past.ensures.1 in
    let none = c.search_start-from.ensures s start.requires.2 low in
    let room = c.find_room-x in
    let at : ℕ → ℕ → Option Chosen = λ lo hi. chosen (page_owner s) (page_mark s) lo hi start.args.r.0 start.args.n 1 in
    let full = rw c.in-None.is at room.ensures.0.there in
    let free = c.unowned_page in
    let mapped : c.map.result ≡ option_map Page free.result = search rules in (
      mapped ∙ unowned_chosen (page_owner s) (page_mark s) _ _ start.args.r.0 start.args.n 1 (found_full _ none full) free.result free.ensures ∙ ap₂ at low end,
      rw mapped (page_within (page_owner s) (page_mark s) _ _ start.args.r.0 start.args.n 1 _ _ free.result free.ensures past),
      room.ensures.1,
    )
