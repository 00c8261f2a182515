-- The table of a file: for each term its extent, all structs known, and its core. Assumes nothing.
use Rattle.std.specs.Prelude.{◌≡◌, cond, List, ℕ, zero, suc, ◌+◌, ◌-◌, ◌*◌, ◌/◌, ◌%◌, ◌≤◌, ◌<◌, ltb, get_or}
use Rattle.words.specs.Bytes.{Bytes}
use Rattle.rules.specs.Limits.{most_region_params}
use Rattle.rules.specs.File.{record_of, kind_integer, kind_pointer}
use Rattle.rules.specs.Types.{RegionKind, variable, arg, nowhere}
use Rattle.rules.specs.Flat.{Layout, count, sub_layout, flat_with, fields_with, layouts}
use Rattle.rules.specs.Decode.{module_of}
use Rattle.rules.specs.declared.Record.{Record}
use Rattle.terms.specs.declared.Extent.{Extent}
use Rattle.terms.specs.declared.Head.{Head}
use Rattle.terms.specs.declared.Head.TheVariants.{Int, Ptr, Arr, Struct, Untyped}
use Rattle.terms.specs.Heads.{digit, args_of, tree_at, head_of}
use Rattle.terms.specs.Extents.{Terms, Counted, term_extent}
use Rattle.terms.specs.Compare.{under}
use Rattle.positions.specs.declared.Core.{Core}
use Rattle.positions.specs.declared.Core.TheVariants.{Term, Fields}

-- the layouts of the term at place p with the structs below k known, and of struct N
unfoldable pub term_layout : Bytes → ℕ → ℕ → Layout variable
term_layout f k p = flat_with (layouts (module_of f) k) (tree_at f p)

unfoldable pub struct_layout : Bytes → ℕ → Layout variable
struct_layout f N = fields_with (layouts (module_of f) N) ((module_of f).fields N)

-- size and number of primitives
abbrev pub exact_of : {k : RegionKind} → Layout k → Extent
exact_of L = record { size = L.size; count = count L }

-- what is asked of the records of the terms, which refusal 4 has made sure of: an integer has bytes, and no struct term has more
-- than four region arguments
abbrev pub InRange : Record → Type 0
InRange x = (x.kind ≡ kind_integer → 0 < x.a) × ((x.kind ≡ kind_pointer → ⊥) → x.b ≤ most_region_params)

abbrev pub Ranged : Bytes → ℕ → Type 0
Ranged f n = (t : ℕ) → t < n → InRange (record_of f t)

-- ---- entries

-- a core as a number, and back: places are at most 128, structs come behind them
abbrev pub core_no : Core → ℕ
core_no (Term c) = c
core_no (Fields N d) = 129 + N + 512 * d

unfoldable pub core_from : ℕ → Core
core_from x = cond (ltb (x % 512) 129) (Term (x % 512)) (Fields (x % 512 - 129) (x / 512))

abbrev pub Fits : Core → Type 0
Fits (Term c) = c ≤ 128
Fits (Fields N d) = (N < 256) × (d < 4294967296)

abbrev pub pack : Extent → Core → ℕ
pack e c = e.size + 1024 * e.count + 1048576 * core_no c

abbrev pub unpack : ℕ → Extent
unpack x = record { size = x % 1024; count = x / 1024 % 1024 }

-- by place: place 0 is i8, and entry t is that of place t + 1
unfoldable pub entry_at : List ℕ → ℕ → Extent
entry_at tab zero = record { size = 1; count = 1 }
entry_at tab (suc t) = unpack (get_or tab t 0)

unfoldable pub core_at : List ℕ → ℕ → Core
core_at tab zero = Term 0
core_at tab (suc t) = core_from (get_or tab t 0 / 1048576)

-- ---- cores

-- c is left of the term at place p when arrays of one are taken off: no later, and of the same layout where it has a size
pub record Bare (f : Bytes) (p c : ℕ) : Type 0 where
  pub low : c ≤ p
  pub same : (k : ℕ) → (term_layout f k p).size ≤ 256 → term_layout f k p ≡ term_layout f k c

-- what a struct term's own arguments put for variable v
unfoldable pub own_byte : ℕ → ℕ → ℕ → ℕ
own_byte d c v = cond (ltb v c) (digit d v) nowhere

-- struct M for the four regions that d holds is left of struct N under a substitution when structs whose only field is a struct are taken off
pub record Ends (f : Bytes) (N : ℕ) (to : Bytes) (M d : ℕ) : Type 0 where
  pub low : M ≤ N
  pub word : d < 4294967296
  pub same : (struct_layout f N).size ≤ 256 → sub_layout (under {k = variable} to) (struct_layout f N) ≡ sub_layout (arg (args_of d 4)) (struct_layout f M)

-- and so of the term at place p
pub record InStruct (f : Bytes) (p N d : ℕ) : Type 0 where
  pub number : N < 256
  pub word : d < 4294967296
  pub known : (k : ℕ) → (term_layout f k p).size ≤ 256 → N < k
  pub same : (k : ℕ) → (term_layout f k p).size ≤ 256 → term_layout f k p ≡ sub_layout (arg (args_of d 4)) (struct_layout f N)

abbrev pub NoStruct : Head → Type 0
NoStruct (Int w) = Unit {0}
NoStruct (Ptr a r) = Unit {0}
NoStruct (Arr n a) = Unit {0}
NoStruct (Struct N n d) = ⊥
NoStruct (Untyped n r) = Unit {0}

-- the core of the term at place p
abbrev pub CoreIs : Bytes → ℕ → Core → Type 0
CoreIs f p (Term c) = (Bare f p c) × (NoStruct (head_of f c))
CoreIs f p (Fields N d) = InStruct f p N d

-- a struct term has at most four arguments
abbrev pub Few : Head → Type 0
Few (Int w) = Unit {0}
Few (Ptr a r) = Unit {0}
Few (Arr n a) = Unit {0}
Few (Struct N n d) = n ≤ most_region_params
Few (Untyped n r) = Unit {0}

-- ---- tables

-- the entries of the places below q
pub record Filled (f : Bytes) (k : ℕ) (tab : List ℕ) (q : ℕ) : Type 0 where
  pub entries : (p : ℕ) → p < q → entry_at tab p ≡ term_extent f k p
  pub cores : (p : ℕ) → p < q → CoreIs f p (core_at tab p)

-- what the table says of the terms that have a size with the structs below k known. A table for all structs is one for fewer, so
-- the fields of struct N, which know the structs below N, read the same table
pub record Known (f : Bytes) (n k : ℕ) (tab : List ℕ) : Type 0 where
  pub terms : Terms f n
  pub entries : (p : ℕ) → p ≤ n → (term_layout f k p).size ≤ 256 → entry_at tab p ≡ exact_of (term_layout f k p)
  pub cores : (p : ℕ) → p ≤ n → CoreIs f p (core_at tab p)

-- the table of file f with n terms and k structs
pub record Table (f : Bytes) (n k : ℕ) (tab : List ℕ) : Type 0 where
  pub counted : Counted f n k
  pub entries : (p : ℕ) → p ≤ n → entry_at tab p ≡ exact_of (term_layout f k p)
  pub sizes : (p : ℕ) → p ≤ n → (term_layout f k p).size ≤ 257
  pub counts : (p : ℕ) → p ≤ n → count (term_layout f k p) ≤ 256
  pub sized : (p : ℕ) → p ≤ n → 0 < count (term_layout f k p) → (term_layout f k p).size ≤ 256
  pub cores : (p : ℕ) → p ≤ n → CoreIs f p (core_at tab p)
