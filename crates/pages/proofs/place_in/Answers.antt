-- `pages::place_in` meets its contract: what the table gets is what was found.
use native.Mathlib.Omega.{arith}
use Rattle.pages.specs.Known.{used_lowest, used_set}
use Rattle.pages.proofs.place_in.Goals as goal

pub lowest_place-j-requires : goal.lowest_place-j-requires
lowest_place-j-requires c = (c.requires.0, c.requires.1, c.requires.2, c.requires.3.marked c.args.p c.requires.1)

pub returns-then-j-n : goal.returns-then-j-n
returns-then-j-n c = ((rw c.lowest_place-j.ensures at c.if-j-n.true, c.lowest_place-j.ensures), used_set c.args.known.now c.args.s.now c.args.p c.lowest_place-j.result c.requires.1 (used_lowest c.args.s.now (λ k. (c.type_inv.s k).fits) c.args.p c.args.n c.lowest_place-j.result c.lowest_place-j.ensures) c.requires.3)

pub returns-else-j-n : goal.returns-else-j-n
returns-else-j-n c = ((λ l. let h = c.lowest_place-j.ensures in let k = c.if-j-n.false in omega arith), used_set c.args.known.now c.args.s.now c.args.p c.lowest_place-j.result c.requires.1 (used_lowest c.args.s.now (λ k. (c.type_inv.s k).fits) c.args.p c.args.n c.lowest_place-j.result c.lowest_place-j.ensures) c.requires.3)
