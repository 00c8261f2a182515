-- `returns::close_page` meets its contract, by the definition: the set has the owner or not.
use mathlib.Core.Path.{◌≡◌, refl, sym, subst}
use mathlib.Core.Bool.{true, false}
use lib.ListN.{set}
use Rattle.state.specs.Marks.{used_one, used_zero}
use Rattle.pages.specs.Known.{Used, used_closed}
use Rattle.returns.specs.Left.{closed_if, owned_in}
use Rattle.returns.proofs.close_page.Goals as goal

pub returns-then-a-from-ne0 : goal.returns-then-a-from-ne0
unfolding closed_if
returns-then-a-from-ne0 c = let e : owned_in c.args.a.now c.args.s.now c.args.p ≡ true = used_one _ (rw (c.from.ensures, c.owner.ensures) at c.if-a-from-ne0.true) in
    let w = rw c.put_owner.ensures at c.clear_marks.ensures in
    (rw e w, subst (Used (set c.args.known.now c.args.p 0)) (sym w) (used_closed c.args.known.now c.args.s.now c.requires.0 c.args.p c.requires.1 c.requires.2))

pub returns-else-a-from-ne0 : goal.returns-else-a-from-ne0
unfolding closed_if
returns-else-a-from-ne0 c = let e : owned_in c.args.a.now c.args.s.now c.args.p ≡ false = used_zero _ (rw (c.from.ensures, c.owner.ensures) at c.if-a-from-ne0.false) in (rw e refl, c.requires.2)
