-- Laws of type terms: substitution (composition, agreement, closing), what it keeps (width, primitives, regions
-- used), good trees under it. Assumes nothing.
use Rattle.std.specs.Prelude.{◌≡◌, List, map, ℕ, ◌<◌, length}
use Rattle.std.proofs.Math.Path.{refl}
use Rattle.std.proofs.Common.{ap, ap₂}
use Rattle.words.specs.Decide.{Each}
use Rattle.rules.specs.Types.{RegionKind, variable, Region, Variable, region, Tree, int, ptr, arr, struct, raw_ptr, bytes, width, sub, arg, nowhere, Uses, in_int, in_ptr, in_arr, in_struct, in_raw_ptr, in_bytes, Primitive, integer, pointer, raw_pointer}
use Rattle.rules.specs.Heap.{close}
use Rattle.layout.specs.Lists.{each_at, each_map, map_map, map_each, get_d_map}

-- ---- equal substitutions

pub sub_sub : {i j k : RegionKind} (σ : Region j → Region k) (τ : Region i → Region j) (T : Tree i) → sub σ (sub τ T) ≡ sub (λ r. σ (τ r)) T
unfolding sub
sub_sub σ τ (int w) = refl
sub_sub {k = k} σ τ (ptr T r) = ap (λ (U : Tree k). ptr U (σ (τ r))) (sub_sub σ τ T)
sub_sub {k = k} σ τ (arr n T) = ap {B = Tree k} (arr n) (sub_sub σ τ T)
sub_sub {k = k} σ τ (struct N rs) = ap {B = Tree k} (struct N) (map_map σ τ rs)
sub_sub σ τ (raw_ptr n r) = refl
sub_sub σ τ bytes = refl

-- substitutions that agree on the regions below n agree on what uses only those
pub sub_agree : {k : RegionKind} (n : ℕ) (σ τ : Variable → Region k) (T : Tree variable) → Uses n T → ((r : Variable) → r.number < n → σ r ≡ τ r) → sub σ T ≡ sub τ T
unfolding sub
sub_agree n σ τ (int w) u e = refl
sub_agree {k} n σ τ (ptr T r) (in_ptr h u) e = ap₂ {C = Tree k} ptr (sub_agree n σ τ T u e) (e r h)
sub_agree {k} n σ τ (arr m T) (in_arr u) e = ap {B = Tree k} (arr m) (sub_agree n σ τ T u e)
sub_agree {k} n σ τ (struct N rs) (in_struct u) e = ap {B = Tree k} (struct N) (map_each σ τ e u)
sub_agree {k} n σ τ (raw_ptr m r) (in_raw_ptr h) e = ap {B = Tree k} (raw_ptr m) (e r h)
sub_agree n σ τ bytes u e = refl

pub close_agree : (n : ℕ) (μ ν : ℕ → ℕ) (T : Tree variable) → Uses n T → ((i : ℕ) → i < n → μ i ≡ ν i) → close μ T ≡ close ν T
close_agree n μ ν T u e = sub_agree n (λ r. region (μ r.number)) (λ r. region (ν r.number)) T u (λ r h. ap region (e r.number h))

-- a call's regions through the caller's map
pub close_sub : (μ : ℕ → ℕ) (rs : List Variable) (T : Tree variable) → close μ (sub (arg rs) T) ≡ close (λ i. μ (arg rs (region i)).number) T
close_sub μ rs T = sub_sub (λ r. region (μ r.number)) (arg rs) T

-- arguments put in, then σ, is σ of the arguments
pub arg_map : {j k : RegionKind} (σ : Region j → Region k) (rs : List (Region j)) (v : Variable) → v.number < length rs → arg (map σ rs) v ≡ σ (arg rs v)
arg_map σ rs v h = get_d_map σ rs v.number (region nowhere) (region nowhere) h

-- ---- what a substitution keeps

module _ {j k : RegionKind} (σ : Region j → Region k) where
  pub sub_width : (T : Tree j) → width (sub σ T) ≡ width T
  unfolding sub
  sub_width (int w) = refl
  sub_width (ptr T r) = refl
  sub_width (arr n T) = refl
  sub_width (struct N rs) = refl
  sub_width (raw_ptr n r) = refl
  sub_width bytes = refl

  pub sub_prim : (T : Tree j) → Primitive T → Primitive (sub σ T)
  unfolding sub
  sub_prim (int w) p = integer
  sub_prim (ptr T r) p = pointer
  sub_prim (arr n T) p = elim p [ ]
  sub_prim (struct N rs) p = elim p [ ]
  sub_prim (raw_ptr n r) p = raw_pointer
  sub_prim bytes p = elim p [ ]

-- ---- regions used

-- the argument that a struct has for one of its regions
pub arg_uses : (n : ℕ) (rs : List Variable) (v : Variable) → Each (λ r. r.number < n) rs → v.number < length rs → (arg rs v).number < n
arg_uses n rs v u h = each_at v.number (region nowhere) h u

pub uses_sub : (m n : ℕ) (σ : Variable → Variable) → ((r : Variable) → r.number < m → (σ r).number < n) → (T : Tree variable) → Uses m T → Uses n (sub σ T)
unfolding sub
uses_sub m n σ f (int w) u = in_int
uses_sub m n σ f (ptr T r) (in_ptr h u) = in_ptr (f r h) (uses_sub m n σ f T u)
uses_sub m n σ f (arr c T) (in_arr u) = in_arr (uses_sub m n σ f T u)
uses_sub m n σ f (struct N rs) (in_struct u) = in_struct (each_map σ f u)
uses_sub m n σ f (raw_ptr c r) (in_raw_ptr h) = in_raw_ptr (f r h)
uses_sub m n σ f bytes u = in_bytes

-- P of the region that a pointer type points into
abbrev pub Outer : {k : RegionKind} → (ℕ → Type 0) → Tree k → Type 0
Outer P (int w) = Unit {0}
Outer P (ptr T r) = P r.number
Outer P (arr n T) = Unit {0}
Outer P (struct N rs) = Unit {0}
Outer P (raw_ptr n r) = P r.number
Outer P bytes = Unit {0}

pub outer_close : (P : ℕ → Type 0) (μ : ℕ → ℕ) (n : ℕ) (T : Tree variable) → Uses n T → ((i : ℕ) → i < n → P (μ i)) → Outer P (close μ T)
unfolding sub
outer_close P μ n (int w) u f = tt
outer_close P μ n (ptr T r) (in_ptr h u) f = f r.number h
outer_close P μ n (arr c T) u f = tt
outer_close P μ n (struct N rs) u f = tt
outer_close P μ n (raw_ptr c r) (in_raw_ptr h) f = f r.number h
outer_close P μ n bytes u f = tt

pub outer_all : {k : RegionKind} (P : ℕ → Type 0) (T : Tree k) → ((r : ℕ) → P r) → Outer P T
outer_all P (int w) f = tt
outer_all P (ptr T r) f = f r.number
outer_all P (arr n T) f = tt
outer_all P (struct N rs) f = tt
outer_all P (raw_ptr n r) f = f r.number
outer_all P bytes f = tt
