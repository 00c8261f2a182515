-- What refusals 4 to 6 have established of a file's table and of a function has one proof at most, as the invariant of a struct must.
use Rattle.std.specs.Prelude.{◌≡◌, ℕ, ◌<◌, List, refl}
use Rattle.std.proofs.Common.{ap}
use Rattle.std.proofs.Math.Path.{ap₂}
use Rattle.std.proofs.Math.Decide.{ℕ_discrete}
use Rattle.std.proofs.Math.Nat.{ℕ_set}
use Rattle.std.specs.Coded.{le_prop, ×_prop, Unit-prop}
use mathlib.Core.HLevel.{hedberg, ⊥_prop}
use Rattle.words.specs.Bytes.{Bytes}
use Rattle.words.specs.Decide.{dec_both, map_dec, Each, none, more}
use Rattle.rules.specs.Types.{variable, Variable, Tree, Uses, in_int, in_ptr, in_arr, in_struct, in_raw_ptr, in_bytes}
use Rattle.rules.specs.Flat.{Layout, dec_prims}
use Rattle.rules.specs.Module.{Function}
use Rattle.terms.specs.declared.Extent.{Extent}
use Rattle.terms.specs.declared.Head.{Head}
use Rattle.terms.specs.declared.Head.TheVariants.{Int, Ptr, Arr, Struct, Untyped}
use Rattle.terms.specs.Heads.{head_of}
use Rattle.terms.specs.Extents.{Counted}
use Rattle.positions.specs.declared.Core.{Core}
use Rattle.positions.specs.declared.Core.TheVariants.{Term, Fields}
use Rattle.positions.specs.Table.{Table, Bare, InStruct, NoStruct, CoreIs, core_at}
use Rattle.functions.specs.Functions.{terms_prop}
use Rattle.instructions.specs.Plain.{Tight}

-- ---- the table

layout_set : IsSet (Layout variable)
layout_set = hedberg (λ L M. map_dec (λ h i. record { size = h.0 i; prims = h.1 i }) (λ e. (ap (λ (L : Layout variable). L.size) e, ap (λ (L : Layout variable). L.prims) e)) (dec_both (ℕ_discrete L.size M.size) (dec_prims L.prims M.prims)))

extent_set : IsSet Extent
extent_set = hedberg (λ e d. map_dec (λ h i. record { size = h.0 i; count = h.1 i }) (λ q. (ap (λ (e : Extent). e.size) q, ap (λ (e : Extent). e.count) q)) (dec_both (ℕ_discrete e.size d.size) (ℕ_discrete e.count d.count)))

no_struct_prop : (h : Head) → IsProp (NoStruct h)
no_struct_prop (Int w) = Unit-prop
no_struct_prop (Ptr a r) = Unit-prop
no_struct_prop (Arr n a) = Unit-prop
no_struct_prop (Struct N n d) = ⊥_prop
no_struct_prop (Untyped n r) = Unit-prop

bare_prop : (f : Bytes) (p c : ℕ) → IsProp (Bare f p c)
bare_prop f p c d g = λ i. record { low = le_prop d.low g.low i; same = λ k l. layout_set _ _ (d.same k l) (g.same k l) i }

in_struct_prop : (f : Bytes) (p N x : ℕ) → IsProp (InStruct f p N x)
in_struct_prop f p N x d g = λ i. record {
  number = le_prop d.number g.number i;
  word = le_prop d.word g.word i;
  known = λ k l. le_prop (d.known k l) (g.known k l) i;
  same = λ k l. layout_set _ _ (d.same k l) (g.same k l) i;
}

core_prop : (f : Bytes) (p : ℕ) (c : Core) → IsProp (CoreIs f p c)
core_prop f p (Term c) = ×_prop (bare_prop f p c) (no_struct_prop (head_of f c))
core_prop f p (Fields N d) = in_struct_prop f p N d

counted_prop : (f : Bytes) (n k : ℕ) → IsProp (Counted f n k)
counted_prop f n k d g = λ i. record { terms = terms_prop f n d.terms g.terms i; structs = ℕ_set _ _ d.structs g.structs i; few = le_prop d.few g.few i }

pub table_prop : (f : Bytes) (n k : ℕ) (tab : List ℕ) → IsProp (Table f n k tab)
table_prop f n k tab d g = λ i. record {
  counted = counted_prop f n k d.counted g.counted i;
  entries = λ p l. extent_set _ _ (d.entries p l) (g.entries p l) i;
  sizes = λ p l. le_prop (d.sizes p l) (g.sizes p l) i;
  counts = λ p l. le_prop (d.counts p l) (g.counts p l) i;
  sized = λ p l m. le_prop (d.sized p l m) (g.sized p l m) i;
  cores = λ p l. core_prop f p (core_at tab p) (d.cores p l) (g.cores p l) i;
}

-- ---- the function

each_prop : {n : ℕ} {rs : List Variable} (d g : Each (λ r. r.number < n) rs) → d ≡ g
each_prop none none = refl
each_prop (more h u) (more k v) = ap₂ more (le_prop h k) (each_prop u v)

uses_prop : {n : ℕ} {T : Tree variable} (d g : Uses n T) → d ≡ g
uses_prop in_int in_int = refl
uses_prop (in_ptr h u) (in_ptr k v) = ap₂ in_ptr (le_prop h k) (uses_prop u v)
uses_prop (in_arr u) (in_arr v) = ap in_arr (uses_prop u v)
uses_prop (in_struct u) (in_struct v) = ap in_struct (each_prop u v)
uses_prop (in_raw_ptr h) (in_raw_ptr k) = ap in_raw_ptr (le_prop h k)
uses_prop in_bytes in_bytes = refl

pub tight_prop : (F : Function) → IsProp (Tight F)
tight_prop F d g = λ i. record { registers = λ a l. uses_prop (d.registers a l) (g.registers a l) i; region_types = λ a l. uses_prop (d.region_types a l) (g.region_types a l) i }
