-- Laws of values over heap typings: what keeps a value one, zero, runs in runs at addresses, new objects, slots (primitives of
-- objects in pages) that are one or lie apart, and the bytes of a run inside one object. About heap typings, not about bytes.
-- What a law asks of the module stands in `TypesOk` and `GoodTree`.
use Rattle.std.specs.Prelude.{◌≡◌, refl, ◌⊎◌, ◌≢◌, ℕ, suc, ◌+◌, ◌-◌, ◌*◌, ◌^◌, ◌/◌, ◌%◌, ◌<◌, ◌≤◌}
use Rattle.std.proofs.Common.{sym, ap, ap₂, ◌∙◌, subst, inl, inr, mod-lt, mul-le-mul_left, arith}
use Rattle.std.proofs.Math.Nat.{div-add-mod, suc_inj}
use Rattle.std.proofs.Math.Decide.{dec_lt}
use Rattle.words.specs.ByteLaws.{pow_pos}
use Rattle.rules.specs.Limits.{pages, page_bytes}
use Rattle.rules.specs.Types.{live, Tree, int, ptr, arr, struct, raw_ptr, bytes, width, sub, Primitive}
use Rattle.rules.specs.Module.{Module}
use Rattle.rules.specs.Flat.{at, Has, Layout, flat, size, count, distance, Run, RunAt, Same}
use Rattle.rules.specs.Heap.{close, HeapTyping, Stands, InUntyped, Value}
use Rattle.rules.specs.SafeStep.{InObject, InRun}
use Rattle.layout.specs.TypesOk.{GoodTree, good_element, TypesOk}
use Rattle.layout.specs.Types.{Outer}
use Rattle.layout.specs.Prims.{at_has}
use Rattle.layout.specs.Flat.{flat_inside, flat_apart, Apart, SamePlace, flat_bytes, PlainFields, Plain, fields_plain, good_plain, filled_some, distance_zero, has_basic, basic_wide, good_sized, flat_some, size_pos}
use Rattle.layout.specs.Runs.{flat_rising, flat_ascending, run_has, run_has_from, run_run, run_prim, run_size, same_run, same_sym, has_element, distance_element}

-- ---- the place of an address

-- quotient and remainder are the only ones
pub unique_place : (s i m j o : ℕ) → m < s → o < s → s * i + m ≡ s * j + o → (i ≡ j) × (m ≡ o)
unique_place s i m j o h k e = go (dec_lt i j) (dec_lt j i)
  where
    go : Dec (i < j) → Dec (j < i) → (i ≡ j) × (m ≡ o)
    go (yes l) q = absurd (omega (arith, mul-le-mul_left s l))
    go (no n) (yes l) = absurd (omega (arith, mul-le-mul_left s l))
    go (no n) (no l) =
        let same : i ≡ j = omega arith in
        (same, omega (arith, ap (λ (x : ℕ). s * x) same))

pub divided : (s x j o : ℕ) → o < s → x ≡ s * j + o → (x / s ≡ j) × (x % s ≡ o)
divided s x j o l e = unique_place s (x / s) (x % s) j o (mod-lt x (omega arith)) l (div-add-mod x s ∙ e)

-- Place j of page p is an object of region r, and a is o bytes into it.
pub record Spot (m : Module) (W : HeapTyping) (r a p j o : ℕ) : Type 0 where
  pub inside : p < pages
  pub own : W.owner p ≡ suc r
  pub low : o < size m (W.type r)
  pub fits : size m (W.type r) * suc j ≤ page_bytes
  pub address : a ≡ page_bytes * p + (size m (W.type r) * j + o)

module _ (m : Module) (W : HeapTyping) where
  pub stands_spot : (T : Tree live) (r a : ℕ) → Stands m W T r a
      → Spot m W r a (a / page_bytes) (a % page_bytes / size m (W.type r)) (a % page_bytes % size m (W.type r))
  stands_spot T r a h = record {
    inside = h.inside;
    own = h.own;
    low = mod-lt (a % page_bytes) h.sized;
    fits = h.fits;
    address = omega (arith, div-add-mod (a % page_bytes) (size m (W.type r)));
  }

  pub spot_stands : (T : Tree live) (r a p j o : ℕ) → Spot m W r a p j o → RunAt (flat m (W.type r)) o (flat m T) → Stands m W T r a
  spot_stands T r a p j o s h =
      let page : (a / page_bytes ≡ p) × (a % page_bytes ≡ size m (W.type r) * j + o) = (omega (arith, s), omega (arith, s)) in
      let place : (a % page_bytes / size m (W.type r) ≡ j) × (a % page_bytes % size m (W.type r) ≡ o) = divided (size m (W.type r)) (a % page_bytes) j o s.low page.1 in
      record {
        inside = rw page.0 s.inside;
        own = rw page.0 s.own;
        sized = omega (arith, s.low);
        fits = rw place.0 s.fits;
        run = subst (λ (x : ℕ). RunAt (flat m (W.type r)) x (flat m T)) (sym place.1) h;
      }

-- ---- values and changes of the heap typing

-- What a step keeps of a region.
pub record Kept (W X : HeapTyping) (r : ℕ) : Type 0 where
  pub type : X.type r ≡ W.type r
  pub pages : (p : ℕ) → W.owner p ≡ suc r → X.owner p ≡ suc r

-- a run depends on the owner of its page and the type of its region only
pub stands_keep : (m : Module) (W X : HeapTyping) (T : Tree live) (r a : ℕ) → Kept W X r → Stands m W T r a → Stands m X T r a
stands_keep m W X T r a k h = record {
  inside = h.inside;
  own = k.pages (a / page_bytes) h.own;
  sized = subst (λ U. 0 < size m U) (sym k.type) h.sized;
  fits = subst (λ U. size m U * suc (a % page_bytes / size m U) ≤ page_bytes) (sym k.type) h.fits;
  run = subst (λ U. RunAt (flat m U) (a % page_bytes % size m U) (flat m T)) (sym k.type) h.run;
}

pub untyped_keep : (W X : HeapTyping) (n r a : ℕ) → Kept W X r → InUntyped W n r a → InUntyped X n r a
untyped_keep W X n r a k h = record { inside = h.inside; own = k.pages (a / page_bytes) h.own; untyped = k.type ∙ h.untyped; fits = h.fits }

pub value_keep : (m : Module) (W X : HeapTyping) (T : Tree live) (v : ℕ) → Outer (Kept W X) T → Value m W T v → Value m X T v
value_keep m W X (int w) v k h = h
value_keep m W X (ptr T r) v k (inl z) = inl z
value_keep m W X (ptr T r) v k (inr h) = inr (stands_keep m W X T r.number v k h)
value_keep m W X (arr n T) v k h = h
value_keep m W X (struct N rs) v k h = h
value_keep m W X (raw_ptr n r) v k (inl z) = inl z
value_keep m W X (raw_ptr n r) v k (inr h) = inr (untyped_keep W X n r.number v k h)
value_keep m W X bytes v k h = h

-- zero is a value of every type
pub value_zero : (m : Module) (W : HeapTyping) (T : Tree live) → Primitive T → Value m W T 0
value_zero m W (int w) p = pow_pos w
value_zero m W (ptr T r) p = inl refl
value_zero m W (arr n T) p = elim p [ ]
value_zero m W (struct N rs) p = elim p [ ]
value_zero m W (raw_ptr n r) p = inl refl
value_zero m W bytes p = elim p [ ]

-- a value fits its width
pub value_bound : (m : Module) (W : HeapTyping) (T : Tree live) (v : ℕ) → Value m W T v → v < 256 ^ width T
value_bound m W (int w) v h = h
value_bound m W (ptr T r) v (inl z) = omega arith
value_bound m W (ptr T r) v (inr h) = omega (arith, h.inside)
value_bound m W (arr n T) v h = absurd h
value_bound m W (struct N rs) v h = absurd h
value_bound m W (raw_ptr n r) v (inl z) = omega arith
value_bound m W (raw_ptr n r) v (inr h) = omega (arith, h.inside)
value_bound m W bytes v h = absurd h

pub integer_value : (m : Module) (W : HeapTyping) (μ : ℕ → ℕ) (w v : ℕ) → v < 256 ^ w → Value m W (close μ (int w)) v
unfolding sub
integer_value m W μ w v h = h

-- ---- runs in runs, at addresses

module _ (m : Module) (ok : TypesOk m) (W : HeapTyping) where
  -- what stands at a position of a run stands there
  pub stands_position : (T U : Tree live) (r a q : ℕ) → GoodTree m T → Run (flat m T) q (flat m U) → Stands m W T r a → Stands m W U r (a + distance (flat m T) q)
  stands_position T U r a q g s h =
      let o : ℕ = a % page_bytes % size m (W.type r) in
      let n : ℕ = distance (flat m T) q in
      let one = run_has_from (flat m T) q (flat m U) s (at_has (flat m U).prims 0 (at 0 (int 0)) s.some) in
      let wide = basic_wide (has_basic m ok T g one) in
      let last = flat_inside m (W.type r) (run_has (flat m (W.type r)) o (flat m T) h.run one) in
      let spot = stands_spot m W T r a h in
      spot_stands m W U r (a + n) (a / page_bytes) (a % page_bytes / size m (W.type r)) (o + n)
      (record {
        inside = spot.inside;
        own = spot.own;
        low = omega (arith, last, wide);
        fits = spot.fits;
        address = omega (arith, spot.address);
      })
      (run_run (flat m (W.type r)) (flat_rising m (W.type r)) o (flat m T) (flat_ascending m ok T g) q (flat m U) h.run s)

  -- an element stands i elements further
  pub stands_index : (T : Tree live) (n r a i : ℕ) → GoodTree m (arr n T) → i < n → Stands m W (arr n T) r a → Stands m W T r (a + i * size m T)
  stands_index T n r a i g l h =
      let sized = good_sized m (arr n T) g in
      let some = flat_some m ok T (good_element g) in
      let plain = fields_plain m ok in
      let p = good_plain (good_element g) in
      subst (λ (x : ℕ). Stands m W T r (a + x)) (distance_element m plain n T p i l sized some)
      (stands_position (arr n T) T r a (i * count (flat m T)) g (has_element m plain n T p i l sized some) h)

-- what has the region's primitives stands at every place of the region's pages
pub stands_new : (m : Module) → TypesOk m → (W : HeapTyping) (T : Tree live) (r p j : ℕ) → p < pages → W.owner p ≡ suc r → GoodTree m (W.type r)
    → size m (W.type r) * suc j ≤ page_bytes → Same (flat m T) (flat m (W.type r)) → Stands m W T r (page_bytes * p + size m (W.type r) * j)
stands_new m ok W T r p j inside own good fits same =
    spot_stands m W T r (page_bytes * p + size m (W.type r) * j) p j 0
    (record { inside = inside; own = own; low = size_pos m ok (W.type r) good; fits = fits; address = omega arith })
    (same_run (flat m (W.type r)) (flat m T) (distance_zero m (fields_plain m ok) (W.type r) (good_plain good) (good_sized m (W.type r) good)) (same_sym (flat m T) (flat m (W.type r)) same))

-- ---- slots

-- Address x holds a primitive T of an object, used or free, of an owned page.
pub record Slot (m : Module) (W : HeapTyping) (x : ℕ) (T : Tree live) : Type 0 where
  pub region : ℕ
  pub page : ℕ
  pub place : ℕ
  pub distance : ℕ
  pub inside : page < pages
  pub own : W.owner page ≡ suc region
  pub fits : size m (W.type region) * suc place ≤ page_bytes
  pub has : Has (flat m (W.type region)).prims distance T
  pub address : x ≡ page_bytes * page + (size m (W.type region) * place + distance)

apart_in : (m : Module) (U : Tree live) (p j d i e x y : ℕ) (S T : Tree live) → Has (flat m U).prims d S → Has (flat m U).prims e T
    → x ≡ page_bytes * p + (size m U * j + d) → y ≡ page_bytes * p + (size m U * i + e) → SamePlace x S y T ⊎ Apart x S y T
apart_in m U p j d i e x y S T h k a b = go (dec_lt j i) (dec_lt i j)
  where
    f : d + width S ≤ size m U
    f = flat_inside m U h

    g : e + width T ≤ size m U
    g = flat_inside m U k

    one : j ≡ i → SamePlace d S e T ⊎ Apart d S e T → SamePlace x S y T ⊎ Apart x S y T
    one q (inl s) = inl (record { place = omega (arith, ap (λ (z : ℕ). size m U * z) q, s.place); tree = s.tree })
    one q (inr s) = inr (record { gap = elim s.gap [ inl z ↦ inl (omega (arith, ap (λ (z : ℕ). size m U * z) q)) | inr z ↦ inr (omega (arith, ap (λ (z : ℕ). size m U * z) q)) ] })

    go : Dec (j < i) → Dec (i < j) → SamePlace x S y T ⊎ Apart x S y T
    go (yes l) _ = inr (record { gap = inl (omega (arith, mul-le-mul_left (size m U) l, f)) })
    go (no _) (yes l) = inr (record { gap = inr (omega (arith, mul-le-mul_left (size m U) l, g)) })
    go (no q) (no s) = one (omega arith) (flat_apart m U h k)

-- Two slots are one, or lie apart: a store changes one primitive only (26).
pub slots_apart : (m : Module) (W : HeapTyping) (x y : ℕ) (S T : Tree live) → Slot m W x S → Slot m W y T → SamePlace x S y T ⊎ Apart x S y T
slots_apart m W x y S T f g = go (dec_lt f.page g.page) (dec_lt g.page f.page)
  where
    a : f.distance + width S ≤ size m (W.type f.region)
    a = flat_inside m (W.type f.region) f.has

    b : g.distance + width T ≤ size m (W.type g.region)
    b = flat_inside m (W.type g.region) g.has

    go : Dec (f.page < g.page) → Dec (g.page < f.page) → SamePlace x S y T ⊎ Apart x S y T
    go (yes l) _ = inr (record { gap = inl (omega (arith, a, f.fits, f.address, g.address)) })
    go (no _) (yes l) = inr (record { gap = inr (omega (arith, b, g.fits, f.address, g.address)) })
    go (no l) (no n) =
        let p : f.page ≡ g.page = omega arith in
        let r : g.region ≡ f.region = suc_inj (sym g.own ∙ ap W.owner (sym p) ∙ f.own) in
        apart_in m (W.type f.region) f.page f.place f.distance g.place g.distance x y S T f.has
        (subst (λ (s : ℕ). Has (flat m (W.type s)).prims g.distance T) r g.has) f.address
        (g.address ∙ ap₂ (λ (q s : ℕ). page_bytes * q + (size m (W.type s) * g.place + g.distance)) (sym p) r)

module _ (m : Module) (W : HeapTyping) where
  -- the address of a pointer to a primitive is the slot of that primitive (25, 26)
  pub stands_slot : (P : Tree live) (r a : ℕ) → Primitive P → Stands m W P r a → Slot m W a P
  stands_slot P r a p h =
      let s = stands_spot m W P r a h in
      record {
        region = r;
        page = a / page_bytes;
        place = a % page_bytes / size m (W.type r);
        distance = a % page_bytes % size m (W.type r);
        inside = s.inside;
        own = s.own;
        fits = s.fits;
        has = run_prim m (flat m (W.type r)) (a % page_bytes % size m (W.type r)) P p h.run;
        address = s.address;
      }

  -- a slot lies in its object and in its page
  pub slot_inside : (x : ℕ) (T : Tree live) (s : Slot m W x T) → s.distance + width T ≤ size m (W.type s.region)
  slot_inside x T s = flat_inside m (W.type s.region) s.has

  -- an untyped region has no slot
  pub typed_slot : (x : ℕ) (T : Tree live) (s : Slot m W x T) → W.type s.region ≢ bytes
  typed_slot x T s e = elim (subst (λ (L : Layout live). Has L.prims s.distance T) (flat_bytes m) (subst (λ (U : Tree live). Has (flat m U).prims s.distance T) e s.has)) [ ]

  -- a slot lies apart from the bytes of an untyped region
  pub untyped_apart : (n r a o x : ℕ) (T : Tree live) → InUntyped W n r a → o < n → Slot m W x T → (a + o < x) ⊎ (x + width T ≤ a + o)
  untyped_apart n r a o x T h l s = go (dec_lt (a / page_bytes) s.page) (dec_lt s.page (a / page_bytes))
    where
      b : s.distance + width T ≤ size m (W.type s.region)
      b = slot_inside x T s

      go : Dec (a / page_bytes < s.page) → Dec (s.page < a / page_bytes) → (a + o < x) ⊎ (x + width T ≤ a + o)
      go (yes q) _ = inl (omega (arith, h.fits, s.address))
      go (no _) (yes q) = inr (omega (arith, b, s.fits, s.address))
      go (no p) (no q) =
          let e : s.page ≡ a / page_bytes = omega arith in
          absurd (typed_slot x T s (ap W.type (suc_inj (sym s.own ∙ ap W.owner e ∙ h.own)) ∙ h.untyped))

-- ---- the bytes of a run

module _ (m : Module) (plain : PlainFields m) (W : HeapTyping) (T : Tree live) (p : Plain T) (r a : ℕ) (h : Stands m W T r a) where
  -- the run lies inside the object
  pub stands_inside : a % page_bytes % size m (W.type r) + size m T ≤ size m (W.type r)
  stands_inside = run_size m plain (W.type r) T p (a % page_bytes % size m (W.type r)) h.run

  pub stands_in_object : (i : ℕ) → a ≤ i → i < a + size m T → InObject i (a / page_bytes) (a % page_bytes / size m (W.type r)) (size m (W.type r))
  stands_in_object i low high =
      let s = stands_spot m W T r a h in
      record { low = omega (arith, s.address); high = omega (arith, s.address, stands_inside); whole = s.fits }

  -- each of its bytes lies in a primitive of the run
  pub stands_bytes : (i : ℕ) → a ≤ i → i < a + size m T → InRun m T a i
  stands_bytes i low high =
      let c = filled_some m plain T p h.run.some (i - a) (omega arith) in
      record { distance = c.distance; type = c.type; has = c.has; low = omega (arith, c.low); high = omega (arith, c.high) }
