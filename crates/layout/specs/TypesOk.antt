-- What the laws ask of a module's types, as one record: `typing` shows it of an accepted file's module, `soundness` uses it.
-- Refusals 4 (widths, counts of arrays and untyped bytes, structs with fields) and 5 (sizes, argument counts, regions of fields). Assumes nothing.
use Rattle.std.specs.Prelude.{◌≡◌, List, ℕ, ◌<◌, ◌≤◌, length}
use Rattle.rules.specs.Limits.{size_limit, page_bytes}
use Rattle.words.specs.Decide.{Each}
use Rattle.rules.specs.Types.{RegionKind, Region, Tree, int, ptr, arr, struct, raw_ptr, bytes, Uses}
use Rattle.rules.specs.Module.{Module, regions}
use Rattle.rules.specs.Flat.{size}

-- "integer of a = 1, 2 or 4 bytes"
pub data Width : ℕ → Type 0 where
  one : Width 1
  two : Width 2
  four : Width 4

-- A tree that a term of an accepted module can be, under any substitution: widths, counts and sizes are right at each depth, under
-- pointers too.
pub data GoodTree {k : RegionKind} (m : Module) : Tree k → Type 0 where
  good_int : {w : ℕ} → Width w → GoodTree m (int w)
  good_ptr : {T : Tree k} {r : Region k} → GoodTree m T → GoodTree m (ptr T r)
  good_arr : {n : ℕ} {T : Tree k} → 0 < n → size m (arr n T) ≤ size_limit → GoodTree m T → GoodTree m (arr n T)
  good_struct : {N : ℕ} {rs : List (Region k)} → size m (struct N rs) ≤ size_limit → length rs ≡ m.arity N → GoodTree m (struct N rs)
  good_raw : {n : ℕ} {r : Region k} → 0 < n → n ≤ page_bytes → GoodTree m (raw_ptr n r)

-- the type of a region: that of a term, or that of an untyped region (document 02, P3)
pub data RegionTree {k : RegionKind} (m : Module) : Tree k → Type 0 where
  typed : {T : Tree k} → GoodTree m T → RegionTree m T
  untyped : RegionTree m bytes

-- an element
pub good_element : {k : RegionKind} {m : Module} {n : ℕ} {T : Tree k} → GoodTree m (arr n T) → GoodTree m T
good_element (good_arr h s g) = g

pub record TypesOk (m : Module) : Type 0 where
  -- the fields of each struct
  pub some : (N : ℕ) → N < m.structs → 0 < length (m.fields N)
  pub fields : (N : ℕ) → N < m.structs → Each (GoodTree m) (m.fields N)
  pub uses : (N : ℕ) → N < m.structs → Each (Uses (m.arity N)) (m.fields N)
  -- the types of each function
  pub region_types : (g i : ℕ) → g < m.functions → i < regions (m.function g) → RegionTree m ((m.function g).region_type i)
  pub register_types : (g a : ℕ) → g < m.functions → a < (m.function g).registers → GoodTree m ((m.function g).register_type a)
  pub results : (g : ℕ) → g < m.functions → GoodTree m (m.function g).result
