-- `positions::lower` meets its contract: what is sought lies between low and high.
use Prim.Native.Nat.{◌-◌, ◌/◌, ◌+◌}
use Rattle.positions.specs.Distances.{lower_up, lower_down, layout_rising}
use Rattle.positions.specs.Table.{term_layout}
use native.Mathlib.Omega.{arith}
use Rattle.positions.proofs.lower.Goals as goal

pub loop-low-preserved-then-place_off-o : goal.loop-low-preserved-then-place_off-o
loop-low-preserved-then-place_off-o c = let a = c.args in
    let e = c.place_off.ensures in
    lower_up (term_layout a.f.now a.k a.p) (layout_rising a.f.now a.n a.k c.requires.0.counted a.p) a.o c.loop-low.low c.loop-low.high (c.loop-low.low + (c.loop-low.high - c.loop-low.low) / 2) c.loop-low.invariant (omega arith) (omega arith) (let h = c.if-place_off-o.true in omega (arith, e))

pub loop-low-preserved : goal.loop-low-preserved
loop-low-preserved c = let a = c.args in
    let e = c.place_off.ensures in
    lower_down (term_layout a.f.now a.k a.p) (layout_rising a.f.now a.n a.k c.requires.0.counted a.p) a.o c.loop-low.low c.loop-low.high (c.loop-low.low + (c.loop-low.high - c.loop-low.low) / 2) c.loop-low.invariant (omega arith) (omega arith) (let h = c.if-place_off-o.false in omega (arith, e))
