-- What kinds 23 to 28 need of a pointer register whose type is closed by a frame's map: field, element, new object, and the bytes
-- that a load or store touches. The typing rules speak of types as written, values of closed ones; these laws lead from one to the other.
use Rattle.std.specs.Prelude.{◌≡◌, ℕ, suc, ◌+◌, ◌*◌, ◌/◌, ◌%◌, ◌<◌, ◌≤◌}
use Rattle.std.proofs.Common.{sym, ap, ◌∙◌, subst, arith}
use Rattle.rules.specs.Limits.{pages, page_bytes}
use Rattle.rules.specs.Types.{RegionKind, variable, live, Tree, arr, width, Primitive}
use Rattle.rules.specs.Module.{Module}
use Rattle.rules.specs.Flat.{Layout, one_byte, flat, size, distance, Run, Same}
use Rattle.rules.specs.Heap.{close, HeapTyping, Stands}
use Rattle.rules.specs.SafeStep.{InObject, InRun}
use Rattle.layout.specs.TypesOk.{GoodTree, RegionTree, typed, untyped, TypesOk}
use Rattle.layout.specs.Flat.{flat_bytes, size_prim, fields_plain, good_plain}
use Rattle.layout.specs.Runs.{same_sym}
use Rattle.layout.specs.Close.{close_arr, size_close, good_close, distance_close, run_close, same_close}
use Rattle.layout.specs.Heap.{stands_position, stands_index, stands_new, stands_in_object, stands_bytes}

-- nothing has the primitives of untyped bytes
pub no_same : {k : RegionKind} (L : Layout k) → Same L one_byte → ⊥
no_same L s = let h = (same_sym L one_byte s).some in omega (arith, h)

module _ (m : Module) (ok : TypesOk m) (W : HeapTyping) (μ : ℕ → ℕ) where
  -- 23
  pub stands_field : (T U : Tree variable) (r a q : ℕ) → GoodTree m T → GoodTree m U → Run (flat m T) q (flat m U) → Stands m W (close μ T) r a
      → Stands m W (close μ U) r (a + distance (flat m T) q)
  stands_field T U r a q g h run s =
      subst (λ (x : ℕ). Stands m W (close μ U) r (a + x)) (distance_close μ m ok T g q)
      (stands_position m ok W (close μ T) (close μ U) r a q (good_close μ m T g) (run_close μ m ok T g U h q run) s)

  -- 24
  pub stands_element : (T : Tree variable) (n r a i : ℕ) → GoodTree m (arr n T) → i < n → Stands m W (close μ (arr n T)) r a
      → Stands m W (close μ T) r (a + i * size m T)
  stands_element T n r a i g l s =
      subst (λ (x : ℕ). Stands m W (close μ T) r (a + i * x)) (size_close μ m T)
      (stands_index m ok W (close μ T) n r a i (subst (λ (U : Tree live). GoodTree m U) (close_arr μ n T) (good_close μ m (arr n T) g)) l
      (subst (λ (U : Tree live). Stands m W U r a) (close_arr μ n T) s))

  -- 27: the object at place j of a page of region r, whose type as written in the function is U: no untyped one has the same primitives
  pub stands_object : (T U : Tree variable) (r p j : ℕ) → GoodTree m T → RegionTree m U → Same (flat m T) (flat m U) → W.type r ≡ close μ U
      → p < pages → W.owner p ≡ suc r → size m U * suc j ≤ page_bytes → Stands m W (close μ T) r (page_bytes * p + size m U * j)
  stands_object T U r p j g (typed h) same is inside own fits =
      let e : size m (W.type r) ≡ size m U = ap (λ (S : Tree live). size m S) is ∙ size_close μ m U in
      subst (λ (x : ℕ). Stands m W (close μ T) r (page_bytes * p + x * j)) e
      (stands_new m ok W (close μ T) r p j inside own (subst (λ (S : Tree live). GoodTree m S) (sym is) (good_close μ m U h)) (subst (λ (x : ℕ). x * suc j ≤ page_bytes) (sym e) fits)
      (subst (λ (S : Tree live). Same (flat m (close μ T)) (flat m S)) (sym is) (same_close μ m ok T g U h same)))
  stands_object T U r p j g untyped same is inside own fits =
      absurd (no_same (flat m T) (subst (λ (L : Layout variable). Same (flat m T) L) (flat_bytes m) same))

-- 25, 26: the run lies in one object, and the bytes touched in the run
module _ (m : Module) (ok : TypesOk m) (W : HeapTyping) (μ : ℕ → ℕ) (T : Tree variable) (g : GoodTree m T) (r a : ℕ) (s : Stands m W (close μ T) r a) where
  pub touched_object : (i : ℕ) → a ≤ i → i < a + size m T → InObject i (a / page_bytes) (a % page_bytes / size m (W.type r)) (size m (W.type r))
  touched_object i low high = stands_in_object m (fields_plain m ok) W (close μ T) (good_plain (good_close μ m T g)) r a s i low (subst (λ (x : ℕ). i < a + x) (sym (size_close μ m T)) high)

  pub touched_bytes : Primitive T → (i : ℕ) → a ≤ i → i < a + width T → InRun m (close μ T) a i
  touched_bytes p i low high = stands_bytes m (fields_plain m ok) W (close μ T) (good_plain (good_close μ m T g)) r a s i low (subst (λ (x : ℕ). i < a + x) (sym (size_close μ m T ∙ size_prim m T p)) high)
