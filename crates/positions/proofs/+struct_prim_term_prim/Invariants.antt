-- The cycle of primitives, as that of sizes: `term_prim` at (k, p) asks `struct_prim` for structs below k and itself for lower
-- places; `struct_prim` asks for terms with the structs below it. So 1024 k + p falls for a term, and a struct N lies between, at
-- 1024 N + 512.
use Rattle.std.proofs.Common.{◌≡◌, ◌+◌, ◌*◌, ◌≤◌, length}
use Rattle.positions.specs.Positions.{before}
use Rattle.positions.proofs.+struct_prim_term_prim.Given as goal

abbrev pub decreases-struct_prim : goal.decreases-struct_prim
decreases-struct_prim l = 1024 * l.number + 512

abbrev pub decreases-term_prim : goal.decreases-term_prim
decreases-term_prim l = 1024 * l.k + l.p

abbrev pub invariant-struct_prim-loop-j : goal.invariant-struct_prim-loop-j
invariant-struct_prim-loop-j l = (l.size ≡ (before l.f l.n l.number l.j).size) × (l.count ≡ length (before l.f l.n l.number l.j).prims) × (l.count ≤ l.i)
