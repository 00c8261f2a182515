-- The cycle of terms written out. `term_written` at (k, p) asks `copies_written` for lower places and `struct_written` for structs below k; both ask
-- for terms: `copies_written` for that very place, `struct_written` for any, with the structs below it. So 2048 k + 2 p falls for a term, copies
-- of it are one above, and a struct N lies between, at 2048 N + 1024. Assumes nothing.
use Prim.Native.Nat.{ℕ, ◌+◌, ◌*◌}
use Rattle.rules.specs.Flat.{copies_of}
use Rattle.positions.specs.Table.{term_layout}
use Rattle.flattening.specs.Written.{Written, Kept, Past}
use lib.ListN.{length}
use mathlib.Core.List.{List}
use Rattle.positions.specs.Positions.{before}
use mathlib.Core.Path.{◌≡◌}
use Rattle.flattening.proofs.+copies_written_struct_written_term_written.Given as goal

abbrev pub decreases-copies_written : goal.decreases-copies_written
decreases-copies_written l = 2048 * l.k + (2 * l.a + 1)

abbrev pub decreases-struct_written : goal.decreases-struct_written
decreases-struct_written l = 2048 * l.number + 1024

abbrev pub decreases-term_written : goal.decreases-term_written
decreases-term_written l = 2048 * l.k + 2 * l.p

abbrev pub invariant-copies_written-loop-h : goal.invariant-copies_written-loop-h
invariant-copies_written-loop-h l = ((to : List ℕ) → Written l.f l.initial.entries l.at to l.off (term_layout l.f l.k l.a) → (Written l.f l.entries l.at to l.off (copies_of l.h (term_layout l.f l.k l.a))) × (Written l.f l.entries l.at to l.off (term_layout l.f l.k l.a))) × (Kept l.initial.entries l.entries l.at) × (Past l.f l.entries l.seen (l.at + length (term_layout l.f l.k l.a).prims) (l.off + (term_layout l.f l.k l.a).size))

abbrev pub invariant-struct_written-loop-j : goal.invariant-struct_written-loop-j
invariant-struct_written-loop-j l = (l.size ≡ (before l.f l.n l.number l.j).size) × (l.count ≡ length (before l.f l.n l.number l.j).prims) × (Written l.f l.entries l.at l.to l.off (before l.f l.n l.number l.j)) × (Kept l.initial.entries l.entries l.at) × (Past l.f l.entries l.seen (l.at + l.count) (l.off + l.size))
