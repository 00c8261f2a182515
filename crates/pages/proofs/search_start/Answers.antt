-- `pages::search_start` meets its contract: no page that the hint skips has room.
use mathlib.Core.Bool.{◌&&◌}
use Prim.Native.Nat.{◌+◌}
use native.Mathlib.Omega.{arith}
use lib.Dec.{eqb, leb}
use lib.ListN.{get_or}
use borrow.Author.Tests.{eqb-true, leb-true}
use Rattle.words.specs.Choose.{both}
use Rattle.rules.specs.State.{view}
use Rattle.pages.specs.Known.{hint_region, hint_places, hint_page, hint_none}
use borrow.Author.Rules.{rules}
use Rattle.pages.proofs.search_start.Goals as goal

pub returns-then-known-from : goal.returns-then-known-from
unfolding view
returns-then-known-from c s u low =
    let start = c in
    let known = start.args.known.now in
    let wide = c.from in
    let test = both (eqb (get_or known hint_region 0) (wide.result + 1) && eqb (get_or known hint_places 0) start.args.n) (leb start.args.low (get_or known hint_page 0)) c.if-known-from.true in
    let hint = both (eqb (get_or known hint_region 0) (wide.result + 1)) (eqb (get_or known hint_places 0) start.args.n) test.0 in
    let region = eqb-true (get_or known hint_region 0) (wide.result + 1) hint.0 in
    hint_none known s start.args.low low start.args.r.0 start.args.n (let e = wide.ensures in omega arith) (eqb-true _ _ hint.1) (leb-true _ _ test.1) u

pub returns-else-known-from : goal.returns-else-known-from
returns-else-known-from c s u low = record { above = search rules; before = λ q a b. absurd (search rules) }
