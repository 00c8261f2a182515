-- Size and number of primitives of a layout, as the code has them: document 01, "Flat types". The number is exact up to the limit and
-- one more above (only an integer of no bytes, which refusal 4 excludes, lets it pass the size). Assumes nothing.
use Rattle.std.specs.Prelude.{◌≡◌, cond, List, ℕ, zero, suc, ◌+◌, ◌*◌, ◌≤◌, leb}
use Rattle.words.specs.Bytes.{Bytes}
use Rattle.rules.specs.Limits.{most_terms, most_structs, size_limit}
use Rattle.rules.specs.File.{record_of, entry_of}
use Rattle.rules.specs.Types.{RegionKind, variable, Tree}
use Rattle.rules.specs.Flat.{Layout, count, empty, beside, flat_with, fields_with, layouts}
use Rattle.rules.specs.Decode.{struct_start, module_of}
use Rattle.terms.specs.declared.Extent.{Extent}
use Rattle.terms.specs.Heads.{place_of, tree_at}

-- n is the number of terms of file f, k that of its structs; both are in their limits, which refusal 4 has made sure of
pub record Terms (f : Bytes) (n : ℕ) : Type 0 where
  pub are : n ≡ (module_of f).terms
  pub few : n ≤ most_terms

pub record Counted (f : Bytes) (n k : ℕ) : Type 0 where
  pub terms : Terms f n
  pub structs : k ≡ (module_of f).structs
  pub few : k ≤ most_structs

-- ---- extents

unfoldable pub cap : ℕ → ℕ
cap c = cond (leb c size_limit) c (suc size_limit)

abbrev pub extent_of : {k : RegionKind} → Layout k → Extent
extent_of L = record { size = L.size; count = cap (count L) }

-- of what has no size
abbrev pub over : Extent
over = record { size = suc size_limit; count = 0 }

unfoldable pub plus : Extent → Extent → Extent
plus d e = cond (leb (d.size + e.size) size_limit) (record { size = d.size + e.size; count = cap (d.count + e.count) }) over

unfoldable pub times : ℕ → Extent → Extent
times n e = cond (leb (n * e.size) size_limit) (record { size = n * e.size; count = cap (n * e.count) }) over

abbrev pub Small : Extent → Type 0
Small e = (e.size ≤ suc size_limit) × (e.count ≤ suc size_limit)

-- ---- of terms and structs

-- the term at place p, where the structs below k are known
unfoldable pub term_extent : Bytes → ℕ → ℕ → Extent
term_extent f k p = extent_of (flat_with (layouts (module_of f) k) (tree_at f p))

-- struct N
unfoldable pub struct_extent : Bytes → ℕ → Extent
struct_extent f N = extent_of (fields_with (layouts (module_of f) N) ((module_of f).fields N))

-- field i of struct N, of a file with n terms, and the number of its fields
unfoldable pub field_place : Bytes → ℕ → ℕ → ℕ → ℕ
field_place f n N i = place_of n (entry_of (record_of f (struct_start n N + 1)) i)

abbrev pub field_count : Bytes → ℕ → ℕ → ℕ
field_count f n N = (record_of f (struct_start n N)).b

-- the layout of the first i fields that g gives
unfoldable pub firsts : List (Layout variable) → (ℕ → Tree variable) → ℕ → Layout variable
firsts ls g zero = empty
firsts ls g (suc i) = beside (firsts ls g i) (flat_with ls (g i))

unfoldable pub so_far : Bytes → ℕ → ℕ → ℕ → Extent
so_far f n N i = extent_of (firsts (layouts (module_of f) N) (λ j. tree_at f (field_place f n N j)) i)
