-- In an accepted file what lies inside a term is a term too: widths, counts, sizes and numbers of arguments hold at any depth
-- and under pointers. Assumes nothing.
use Rattle.std.specs.Prelude.{◌≡◌, ◌⊎◌, List, [], ◌∷◌, length}
use Rattle.std.proofs.Math.Path.{refl}
use Rattle.std.proofs.Common.{inl, inr, arith, length-append}
use Prim.Native.Nat.{ℕ, zero, suc, ◌<◌, ◌≤◌}
use Rattle.words.specs.Bytes.{Bytes}
use Rattle.rules.specs.Limits.{size_limit}
use Rattle.words.specs.Decide.{Each}
use Rattle.rules.specs.File.{record_of}
use Rattle.rules.specs.Types.{variable, Variable, Tree, int, ptr, arr, struct, raw_ptr, bytes, Primitive, width}
use Rattle.rules.specs.Module.{Module, Function}
use Rattle.rules.specs.Flat.{flat, flat_with}
use Rattle.rules.specs.Decode.{no_tree, tree_of, trees_of}
use Rattle.rules.specs.WellTyped.{TermOk}

-- "integer of a = 1, 2 or 4 bytes"
abbrev pub Width : ℕ → Type 0
Width w = (w ≡ 1) ⊎ ((w ≡ 2) ⊎ (w ≡ 4))

-- T and all that lies inside it: widths are 1, 2 or 4, counts of elements and untyped bytes 1 to 256, sizes up to 256, and names have
-- their arguments
pub data Deep (m : Module) : Tree variable → Type 0 where
  deep_int : {w : ℕ} → TermOk m (int w) → Width w → Deep m (int w)
  deep_ptr : {T : Tree variable} {r : Variable} → TermOk m (ptr T r) → Deep m T → Deep m (ptr T r)
  deep_arr : {n : ℕ} {T : Tree variable} → TermOk m (arr n T) → 1 ≤ n → n ≤ size_limit → Deep m T → Deep m (arr n T)
  deep_struct : {N : ℕ} {rs : List Variable} → TermOk m (struct N rs) → Deep m (struct N rs)
  deep_raw : {n : ℕ} {r : Variable} → TermOk m (raw_ptr n r) → 1 ≤ n → n ≤ size_limit → Deep m (raw_ptr n r)

-- the type of a region: a term, or that of an untyped region (document 02, P3)
pub data DeepRegion (m : Module) : Tree variable → Type 0 where
  deep_typed : {T : Tree variable} → Deep m T → DeepRegion m T
  deep_untyped : DeepRegion m bytes

pub deep_ok : {m : Module} {T : Tree variable} → Deep m T → TermOk m T
deep_ok (deep_int k w) = k
deep_ok (deep_ptr k d) = k
deep_ok (deep_arr k a b d) = k
deep_ok (deep_struct k) = k
deep_ok (deep_raw k a b) = k

pub deep_target : {m : Module} {T : Tree variable} {r : Variable} → Deep m (ptr T r) → Deep m T
deep_target (deep_ptr k d) = d

pub deep_element : {m : Module} {n : ℕ} {T : Tree variable} → Deep m (arr n T) → Deep m T
deep_element (deep_arr k a b d) = d

-- "1, 2 or 4 bytes, a pointer 4"
pub primitive_width : {m : Module} {T : Tree variable} → Deep m T → Primitive T → Width (width T)
primitive_width (deep_int k w) p = w
primitive_width (deep_ptr k d) p = inr (inr refl)
primitive_width (deep_arr k a b d) p = elim p [ ]
primitive_width (deep_struct k) p = elim p [ ]
primitive_width (deep_raw k a b) p = inr (inr refl)

pub width_small : (w : ℕ) → Width w → (0 < w) × (w ≤ 4)
width_small w (inl e) = (omega arith, omega arith)
width_small w (inr (inl e)) = (omega arith, omega arith)
width_small w (inr (inr e)) = (omega arith, omega arith)

-- ---- from the records

pub trees_length : (f : Bytes) (n : ℕ) → length (trees_of f n) ≡ n
unfolding trees_of
trees_length f zero = refl
trees_length f (suc n) = let e = trees_length f n in let a = length-append (trees_of f n) (tree_of (trees_of f n) (record_of f n) ∷ []) in omega (arith, a, e)

module _ (m : Module) where
  pub deep_none : Deep m no_tree
  unfolding flat flat_with
  deep_none = deep_int {w = 1} (record { sized = omega arith; counts = tt }) (inl refl)

-- ---- every tree that an accepted file's records name

pub record DeepFunction (m : Module) (F : Function) : Type 0 where
  pub result : Deep m F.result
  pub region_type : (i : ℕ) → DeepRegion m (F.region_type i)
  pub register_type : (a : ℕ) → Deep m (F.register_type a)

pub record DeepModule (m : Module) : Type 0 where
  pub term : (t : ℕ) → Deep m (m.term t)
  pub fields : (N : ℕ) → Each (Deep m) (m.fields N)
  pub some_fields : (N : ℕ) → N < m.structs → 0 < length (m.fields N)
  pub function : (g : ℕ) → DeepFunction m (m.function g)
