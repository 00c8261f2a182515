-- The laws of substitution for a type closed by a region map, as soundness uses them: what a frame's map keeps. Assumes nothing.
use Rattle.std.specs.Prelude.{◌≡◌, ℕ}
use Rattle.std.proofs.Math.Path.{refl}
use Rattle.std.proofs.Common.{subst}
use Rattle.rules.specs.Types.{variable, live, Variable, LiveRegion, region, Tree, arr, raw_ptr, bytes, width, sub, Uses, Primitive}
use Rattle.rules.specs.Module.{Module}
use Rattle.rules.specs.Flat.{Has, Layout, sub_layout, flat, size, distance, Run, Same}
use Rattle.rules.specs.Heap.{close}
use Rattle.layout.specs.TypesOk.{GoodTree, RegionTree, typed, untyped, TypesOk}
use Rattle.layout.specs.Types.{sub_width, sub_prim}
use Rattle.layout.specs.Prims.{has_placed_inv}
use Rattle.layout.specs.Flat.{flat_bytes, size_sub, good_sub, flat_sub, has_uses}
use Rattle.layout.specs.Runs.{flat_distance_sub, run_sub, same_sub}

-- a region map as a substitution
abbrev pub mapped : (ℕ → ℕ) → Variable → LiveRegion
mapped μ r = region (μ r.number)

module _ (μ : ℕ → ℕ) where
  -- by form
  pub close_arr : (n : ℕ) (T : Tree variable) → close μ (arr n T) ≡ arr n (close μ T)
  unfolding sub
  close_arr n T = refl

  pub close_raw : (n : ℕ) (r : Variable) → close μ (raw_ptr n r) ≡ raw_ptr n (mapped μ r)
  unfolding sub
  close_raw n r = refl

  pub close_bytes : close μ bytes ≡ bytes
  unfolding sub
  close_bytes = refl

  pub close_width : (T : Tree variable) → width (close μ T) ≡ width T
  close_width T = sub_width (mapped μ) T

  pub close_prim : (T : Tree variable) → Primitive T → Primitive (close μ T)
  close_prim T p = sub_prim (mapped μ) T p

  pub size_close : (m : Module) (T : Tree variable) → size m (close μ T) ≡ size m T
  size_close m T = size_sub (mapped μ) m T

  pub good_close : (m : Module) (T : Tree variable) → GoodTree m T → GoodTree m (close μ T)
  good_close m T g = good_sub (mapped μ) m T g

  module _ (m : Module) (ok : TypesOk m) (T : Tree variable) (g : GoodTree m T) where
    pub flat_close : flat m (close μ T) ≡ sub_layout (mapped μ) (flat m T)
    flat_close = flat_sub m ok (mapped μ) T g

    pub distance_close : (q : ℕ) → distance (flat m (close μ T)) q ≡ distance (flat m T) q
    distance_close q = flat_distance_sub (mapped μ) m ok T g q

    -- a primitive of the closed type is one of the written type, closed
    pub has_close : (n d : ℕ) (P : Tree live) → Uses n T → Has (flat m (close μ T)).prims d P → (U : Tree variable) × Uses n U × (P ≡ close μ U)
    unfolding sub_layout
    has_close n d P u h =
        let c = has_placed_inv (mapped μ) (flat m T).prims (subst (λ (L : Layout live). Has L.prims d P) flat_close h) in
        (c.0, has_uses m ok n T g u c.1, c.2)

    module _ (U : Tree variable) (h : GoodTree m U) where
      pub run_close : (q : ℕ) → Run (flat m T) q (flat m U) → Run (flat m (close μ T)) q (flat m (close μ U))
      run_close q r = run_sub (mapped μ) m ok T U g h q r

      pub same_close : Same (flat m T) (flat m U) → Same (flat m (close μ T)) (flat m (close μ U))
      same_close s = same_sub (mapped μ) m ok T U g h s

  -- the same of a region's type: an untyped one has no primitive
  pub has_close_region : (m : Module) → TypesOk m → (T : Tree variable) → RegionTree m T → (n d : ℕ) (P : Tree live) → Uses n T → Has (flat m (close μ T)).prims d P
      → (U : Tree variable) × Uses n U × (P ≡ close μ U)
  has_close_region m ok T (typed g) n d P u h = has_close m ok T g n d P u h
  has_close_region m ok T untyped n d P u h =
      elim (subst (λ (L : Layout live). Has L.prims d P) (flat_bytes m) (subst (λ (U : Tree live). Has (flat m U).prims d P) close_bytes h)) [ ]
