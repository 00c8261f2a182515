-- The cycle of sizes: `term_extent` at (k, p) asks `struct_extent` for structs below k and itself for lower places; `struct_extent`
-- asks for terms with the structs below it. So 1024 k + p falls for a term, and a struct N lies between, at 1024 N + 512: a field
-- is at a place of at most 128.
use Rattle.std.proofs.Common.{◌≡◌, ◌+◌, ◌*◌}
use Rattle.terms.specs.Extents.{Small, so_far}
use Rattle.terms.proofs.+struct_extent_term_extent.Given as goal

abbrev pub decreases-struct_extent : goal.decreases-struct_extent
decreases-struct_extent l = 1024 * l.number + 512

abbrev pub decreases-term_extent : goal.decreases-term_extent
decreases-term_extent l = 1024 * l.k + l.p

abbrev pub invariant-struct_extent-loop-i : goal.invariant-struct_extent-loop-i
invariant-struct_extent-loop-i l = (l.sum ≡ so_far l.f l.n l.number l.i) × (Small l.sum)
