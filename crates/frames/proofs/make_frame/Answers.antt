-- `frames::make_frame` meets its contract: the set of live regions, then the frame, then its local regions; or the frame alone.
use Prim.Native.Nat.{◌+◌}
use native.Mathlib.Omega.{arith}
use native.Mathlib.Numerals.{add-one}
use Rattle.rules.specs.State.{view}
use Rattle.state.specs.Reads.{map_lt}
use Rattle.regions.specs.Regions.{no_regions}
use Rattle.frames.specs.Entered.{made_locals, made_plain}
use Rattle.frames.proofs.make_frame.Goals as goal

pub begin-requires : goal.begin-requires
begin-requires c = (c.requires.0, omega arith, omega arith, omega (arith, c.requires.3.most c.args.g), c.requires.2, rw c.count_of-n.ensures.0 c.requires.4)

pub put_locals-requires : goal.put_locals-requires
put_locals-requires c = omega (arith, c.requires.3.most c.args.g)

pub begin-requires-else-m-gt0 : goal.begin-requires-else-m-gt0
begin-requires-else-m-gt0 c = (c.requires.0, omega arith, omega arith, omega (arith, c.requires.3.most c.args.g), c.requires.2, rw c.count_of-n.ensures.0 c.requires.4)

pub returns-then-m-gt0 : goal.returns-then-m-gt0
unfolding view no_regions
returns-then-m-gt0 c = rw (← c.count_of-n.ensures.0, ← c.count_of-m.ensures.0)
    (made_locals c.args.s.now _ _ _ c.args.k (c.args.k + 1) c.args.g _ _ c.args.p c.args.xs c.args.rs _ _ (add-one c.args.k)
    (rw (add-one c.args.k) at c.add_frames-c.ensures.0) (rw (add-one c.args.k) at c.add_frames-c.ensures.1) (omega arith) (omega (arith, c.requires.3.most c.args.g)) (omega (arith, c.requires.3.most c.args.g)) (map_lt c.args.s.now (λ j. (c.slice_known-1.given j).fits) c.args.k)
    c.begin.ensures c.put_locals.ensures.0)

pub returns-else-m-gt0 : goal.returns-else-m-gt0
unfolding view
returns-else-m-gt0 c = rw (← c.count_of-n.ensures.0, ← c.count_of-m.ensures.0)
    (made_plain c.args.s.now _ c.args.k (c.args.k + 1) c.args.g _ _ c.args.p c.args.xs c.args.rs _ (add-one c.args.k) (omega arith) (omega arith) (omega (arith, c.requires.3.most c.args.g)) (map_lt c.args.s.now (λ j. (c.slice_known-1.given j).fits) c.args.k) c.begin-else-m-gt0.ensures)
