-- `pages::lowest_place` meets its contract: the first byte that is not 255 has the lowest unused place, and no byte before the place known is one.
use mathlib.Core.Path.{refl, ap}
use Prim.Native.Nat.{ℕ, ◌+◌, ◌*◌}
use native.Mathlib.Omega.{arith}
use Rattle.pages.specs.Places.{place_found, place_past, place_none}
use Rattle.pages.specs.Known.{used_full, used_none}
use Rattle.pages.proofs.lowest_place.Goals as goal

pub returns-then-n-from : goal.returns-then-n-from
returns-then-n-from c = used_none c.args.s.now c.args.p c.args.from c.requires.3 c.args.n c.if-n-from.true

pub open_byte-requires : goal.open_byte-requires
open_byte-requires c = (c.requires.0, c.requires.1, omega arith, used_full c.args.s.now c.args.p c.args.from c.requires.3 c.requires.1 (λ k. (c.type_inv.s k).fits))

pub returns-then-j-n : goal.returns-then-j-n
returns-then-j-n c = place_found c.args.s.now c.args.p c.in-Some.i c.args.n c.requires.1 c.requires.2 c.in-Some.ensures.1
    (λ k. (c.type_inv.s k).fits) (let e = c.in-Some.ensures.1 in let h = c.in-Some.ensures.0 in omega arith) _ (ap (λ (x : ℕ). 8 * c.in-Some.i + x) (rw c.marks_place.ensures at c.lowest_zero.ensures.0)) c.if-j-n.true

pub returns-else-j-n : goal.returns-else-j-n
returns-else-j-n c = place_past c.args.s.now c.args.p c.in-Some.i c.args.n c.requires.1 c.requires.2 c.in-Some.ensures.1
    (λ k. (c.type_inv.s k).fits) (let e = c.in-Some.ensures.1 in let h = c.in-Some.ensures.0 in omega arith) _ (ap (λ (x : ℕ). 8 * c.in-Some.i + x) (rw c.marks_place.ensures at c.lowest_zero.ensures.0)) c.if-j-n.false

pub returns-in-None : goal.returns-in-None
returns-in-None c = place_none c.args.s.now c.args.p _ c.args.n c.requires.1 c.requires.2 refl (let h = c.in-None.ensures in omega arith)
