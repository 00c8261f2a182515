-- Where a live region's type stands: the highest frame that has it among its local regions, and there the last. For any bytes this is
-- the type that rules' Heap gives it. Assumes nothing.
use Rattle.std.specs.Prelude.{◌≡◌, Option, None, Some, Bool, true, false, ◌&&◌, map, ◌≢◌, eqb, ltb, leb}
use Rattle.std.proofs.Math.Path.{refl, sym, ap, ap₂}
use Rattle.std.proofs.Common.{◌∙◌, inl, inr, mul-suc, mul_comm}
use Rattle.std.proofs.Math.Bool.{cond, and-true}
use Prim.Native.Nat.{ℕ, zero, suc, ◌+◌, ◌-◌, ◌*◌, ◌/◌, ◌%◌, ◌<◌, ◌≤◌}
use native.Mathlib.Omega.{arith}
use borrow.Author.Tests.{eq-eqb, ne_eqb, lt-ltb, le-leb, lt-leb}
use Rattle.words.specs.Bytes.{Bytes}
use Rattle.words.specs.Choose.{cond_split, and_no}
use Rattle.rules.specs.Limits.{page_bytes, size_limit}
use Rattle.rules.specs.File.{record_of, entry_of, untyped_mark}
use Rattle.rules.specs.Types.{RegionKind, variable, live, Region, Tree, int, ptr, arr, struct, raw_ptr, bytes, sub, arg}
use Rattle.rules.specs.Flat.{Layout, count, none as no_layout, copies_of, copies, flat, flat_with}
use Rattle.rules.specs.Module.{Module}
use Rattle.rules.specs.Decode.{module_of, function_of, start_of}
use Rattle.rules.specs.State.{view, page_place, page_owner, frame_function, frame_map}
use Rattle.rules.specs.Heap.{close, look, type_of}
use Rattle.rules.specs.Host.{Part, empty_part, object_in}
use Rattle.rules.specs.declared.Record.{Record}
use Rattle.layout.specs.Prims.{count_sub, count_copies_of}
use Rattle.layout.specs.Flat.{flat_bytes, size_sub}
use Rattle.terms.specs.Extents.{Small}
use Rattle.terms.specs.Readers.{entry_type, entry_term, entry_bytes}
use Rattle.terms.specs.declared.Extent.{Extent}
use Rattle.positions.specs.Table.{exact_of}
use Rattle.stack.specs.Facts.{function_at, head_at, params_at, locals_at}
use Rattle.objects.specs.declared.Home.{Home}
use Rattle.objects.specs.declared.Area.{Area}

-- a number found, counted from 1; 0 where there is none
abbrev pub numbered : Option ℕ → ℕ
numbered None = 0
numbered (Some j) = suc j

-- 1 + the last of the c entries from lo on that leads to r; 0 where none does
unfoldable pub last_of : (ℕ → ℕ) → ℕ → ℕ → ℕ → ℕ
last_of μ lo zero r = 0
last_of μ lo (suc c) r = cond (eqb (μ (lo + c)) r) (suc c) (last_of μ lo c r)

-- of frame k's local regions
unfoldable pub last_local : Bytes → Bytes → ℕ → ℕ → ℕ
last_local f s k r = last_of (frame_map s k) (head_at f s k).a (head_at f s k).b r

-- x where j is 0, else y
unfoldable pub or_else : ℕ → ℕ → ℕ → ℕ
or_else zero y x = x
or_else (suc j) y x = y

-- 1 + the highest of the lowest n frames to which r is local; 0 where there is none
unfoldable pub frame_of : Bytes → Bytes → ℕ → ℕ → ℕ
frame_of f s zero r = 0
frame_of f s (suc k) r = or_else (last_local f s k r) (suc k) (frame_of f s k r)

-- what record 8 says of region variable i of frame k's function: a term, or 255
unfoldable pub entry_at : Bytes → Bytes → ℕ → ℕ → ℕ
entry_at f s k i = entry_of (record_of f (start_of f (frame_function s k) + 1)) i

-- ---- one step of each scan, from the top

module _ (μ : ℕ → ℕ) (lo r : ℕ) where
  pub last_hit : (j : ℕ) → 0 < j → μ (lo + (j - 1)) ≡ r → last_of μ lo j r ≡ j
  unfolding last_of
  last_hit zero h e = absurd (omega arith)
  last_hit (suc j) h e =
      let q : suc j - 1 ≡ j = omega arith in
      let d : μ (lo + j) ≡ r = rw q at e in
      rw (eq-eqb (μ (lo + j)) r d)

  pub last_miss : (j : ℕ) → 0 < j → μ (lo + (j - 1)) ≢ r → last_of μ lo j r ≡ last_of μ lo (j - 1) r
  unfolding last_of
  last_miss zero h e = absurd (omega arith)
  last_miss (suc j) h e =
      let q : suc j - 1 ≡ j = omega arith in
      let d : μ (lo + j) ≢ r = rw q at e in
      rw (q, ne_eqb (μ (lo + j)) r d)

  pub last_end : (n j : ℕ) → last_of μ lo n r ≡ last_of μ lo j r → j ≤ 0 → 0 ≡ last_of μ lo n r
  unfolding last_of
  last_end n j e h = let q : j ≡ 0 = omega arith in sym (rw q at e)

  pub last_le : (n : ℕ) → last_of μ lo n r ≤ n
  unfolding last_of
  last_le zero = omega arith
  last_le (suc n) = let h = last_le n in cond_split (λ (x : ℕ). x ≤ suc n) (eqb (μ (lo + n)) r) (suc n) (last_of μ lo n r) (λ e. omega arith) (λ e. omega arith)

module _ (f s : Bytes) (r : ℕ) where
  pub frame_hit : (k : ℕ) {x : ℕ} → 0 < k → x ≡ last_local f s (k - 1) r → 0 < x → frame_of f s k r ≡ k
  unfolding frame_of or_else
  frame_hit zero h e l = absurd (omega arith)
  frame_hit (suc k) {x} h e l =
      let q : suc k - 1 ≡ k = omega arith in
      let d : x ≡ last_local f s k r = rw q at e in
      let z : last_local f s k r ≡ suc (x - 1) = omega arith in
      rw z

  pub frame_miss : (k : ℕ) {x : ℕ} → 0 < k → x ≡ last_local f s (k - 1) r → x ≤ 0 → frame_of f s k r ≡ frame_of f s (k - 1) r
  unfolding frame_of or_else
  frame_miss zero h e l = absurd (omega arith)
  frame_miss (suc k) {x} h e l =
      let q : suc k - 1 ≡ k = omega arith in
      let d : x ≡ last_local f s k r = rw q at e in
      let z : last_local f s k r ≡ 0 = omega arith in
      rw (q, z)

  pub frame_end : (n k : ℕ) → frame_of f s n r ≡ frame_of f s k r → k ≤ 0 → 0 ≡ frame_of f s n r
  unfolding frame_of
  frame_end n k e h = let q : k ≡ 0 = omega arith in sym (rw q at e)

-- what the code reads of a frame

pub local_by : (f s : Bytes) (k r : ℕ) {h : Record} {a n j : ℕ} → h ≡ head_at f s k → a ≡ h.a → n ≡ h.b → n < 256 → j ≡ last_of (frame_map s k) a n r
    → (j ≡ last_local f s k r) × (j < 256)
unfolding last_local
local_by f s k r {h} {a} {n} {j} eh ea en l ej =
    let pa : a ≡ (head_at f s k).a = ea ∙ ap (λ (x : Record). x.a) eh in
    let pn : n ≡ (head_at f s k).b = en ∙ ap (λ (x : Record). x.b) eh in
    (ej ∙ rw (pa, pn), (let b = last_le (frame_map s k) a r n in omega arith))

pub entry_is : (f s : Bytes) (k i : ℕ) {g h v : ℕ} {x : Record} → g ≡ frame_function s k → h ≡ start_of f g → x ≡ record_of f (h + 1) → v ≡ entry_of x i → v ≡ entry_at f s k i
unfolding entry_at
entry_is f s k i eg eh ex et = et ∙ ap (λ (x : Record). entry_of x i) (ex ∙ ap (λ (j : ℕ). record_of f (j + 1)) (eh ∙ ap (start_of f) eg))

-- ---- the type

-- what `look` gives, by the last entry
by_last : (ℕ → Tree live) → ℕ → (ℕ → Tree live) → ℕ → ℕ → Tree live
by_last t lo old r zero = old r
by_last t lo old r (suc j) = t (lo + j)

look_is : (μ : ℕ → ℕ) (t : ℕ → Tree live) (lo : ℕ) (old : ℕ → Tree live) (c r : ℕ) → look μ t lo old c r ≡ by_last t lo old r (last_of μ lo c r)
unfolding look last_of by_last
look_is μ t lo old zero r = refl
look_is μ t lo old (suc c) r = go (eqb (μ (lo + c)) r) (look_is μ t lo old c r)
  where
    go : (b : Bool) → look μ t lo old c r ≡ by_last t lo old r (last_of μ lo c r)
        → cond b (t (lo + c)) (look μ t lo old c r) ≡ by_last t lo old r (cond b (suc c) (last_of μ lo c r))
    go true h = refl
    go false h = h

module _ (f s : Bytes) where
  abbrev pub region_tree : ℕ → ℕ → Tree live
  region_tree n r = type_of (module_of f) (frame_function s) (frame_map s) n r

  tree_at_law : (k i : ℕ) → (function_at f s k).region_type i ≡ entry_type f (entry_at f s k i)
  unfolding module_of function_of entry_at start_of
  tree_at_law k i = refl

  -- one frame more
  more : (k r : ℕ) → region_tree (suc k) r
      ≡ by_last (λ i. close (frame_map s k) ((function_at f s k).region_type i)) (head_at f s k).a (λ q. region_tree k q) r (last_local f s k r)
  unfolding type_of last_local
  more k r =
      look_is (frame_map s k) (λ i. close (frame_map s k) ((function_at f s k).region_type i)) (function_at f s k).region_params (type_of (module_of f) (frame_function s) (frame_map s) k) (function_at f s k).locals r
      ∙ rw (params_at f s k, locals_at f s k)

  pub tree_none : (n r : ℕ) → frame_of f s n r ≡ 0 → region_tree n r ≡ int 0
  unfolding frame_of or_else type_of by_last
  tree_none zero r e = refl
  tree_none (suc k) r e = go (last_local f s k r) refl (tree_none k r)
    where
      go : (j : ℕ) → last_local f s k r ≡ j → (frame_of f s k r ≡ 0 → region_tree k r ≡ int 0) → region_tree (suc k) r ≡ int 0
      go zero q ih = (rw q at (more k r)) ∙ ih (rw q at e)
      go (suc j) q ih = absurd (let d : suc k ≡ 0 = rw q at e in omega arith)

  -- r is local to frame k: entry i there
  pub tree_some : (n r k j : ℕ) → frame_of f s n r ≡ suc k → last_local f s k r ≡ suc j
      → region_tree n r ≡ close (frame_map s k) (entry_type f (entry_at f s k ((head_at f s k).a + j)))
  unfolding frame_of or_else type_of by_last
  tree_some zero r k j e l = absurd (let d : 0 ≡ suc k = e in omega arith)
  tree_some (suc n) r k j e l = go (last_local f s n r) refl (tree_some n r k j)
    where
      go : (i : ℕ) → last_local f s n r ≡ i
          → (frame_of f s n r ≡ suc k → last_local f s k r ≡ suc j → region_tree n r ≡ close (frame_map s k) (entry_type f (entry_at f s k ((head_at f s k).a + j))))
          → region_tree (suc n) r ≡ close (frame_map s k) (entry_type f (entry_at f s k ((head_at f s k).a + j)))
      go zero q ih = (rw q at (more n r)) ∙ ih (rw q at e) l
      go (suc i) q ih =
          let d : n ≡ k = (let z : suc n ≡ suc k = rw q at e in omega arith) in
          let z : suc i ≡ suc j = sym q ∙ (rw (← d) at l) in
          let w : i ≡ j = omega arith in
          rw (← d, ← w) ((rw q at (more n r)) ∙ ap (close (frame_map s n)) (tree_at_law n ((head_at f s n).a + i)))

  -- the highest frame has it
  pub frame_has : (n r k : ℕ) → frame_of f s n r ≡ suc k → (k < n) × (0 < last_local f s k r)
  unfolding frame_of or_else
  frame_has zero r k e = absurd (let d : 0 ≡ suc k = e in omega arith)
  frame_has (suc n) r k e = go (last_local f s n r) refl (frame_has n r k)
    where
      go : (i : ℕ) → last_local f s n r ≡ i → (frame_of f s n r ≡ suc k → (k < n) × (0 < last_local f s k r)) → (k < suc n) × (0 < last_local f s k r)
      go zero q ih = let h = ih (rw q at e) in (let a = h.0 in omega arith, h.1)
      go (suc i) q ih =
          let d : n ≡ k = (let z : suc n ≡ suc k = rw q at e in omega arith) in
          (omega arith, rw (← d) (omega (arith, q)))

-- ---- what the code finds

-- the type of region r, of n frames, stands at home h
pub record StandsAt (f s : Bytes) (n r : ℕ) (h : Home) : Type 0 where
  pub below : h.frame < n
  pub tree : region_tree f s n r ≡ close (frame_map s h.frame) (entry_type f h.entry)

-- where r is not live, it has no home, and the type of no bytes
abbrev pub HomeIs : Bytes → Bytes → ℕ → ℕ → Option Home → Type 0
HomeIs f s n r None = region_tree f s n r ≡ int 0
HomeIs f s n r (Some h) = StandsAt f s n r h

pub home_none : (f s : Bytes) (n r : ℕ) → frame_of f s n r ≡ 0 → HomeIs f s n r None
home_none f s n r e = tree_none f s n r e

pub home_some : {f s : Bytes} {n r k i a v : ℕ} {h : Record} → frame_of f s n r ≡ suc k → suc i ≡ last_local f s k r → h ≡ head_at f s k → a ≡ h.a
    → v ≡ entry_at f s k (a + i) → HomeIs f s n r (Some (record { frame = k; entry = v }))
home_some {f} {s} {n} {r} {k} {i} {a} {v} {h} e l eh ea et =
    let d : a ≡ (head_at f s k).a = ea ∙ ap (λ (x : Record). x.a) eh in
    record {
      below = (frame_has f s n r k e).0;
      tree = tree_some f s n r k i e (sym l) ∙ ap (λ (x : ℕ). close (frame_map s k) (entry_type f x)) (sym (et ∙ ap (λ (x : ℕ). entry_at f s k (x + i)) d));
    }

-- there is an entry to take
pub local_some : (f s : Bytes) (n r : ℕ) {k i : ℕ} → k ≡ frame_of f s n r → k ≢ 0 → i ≡ last_local f s (k - 1) r → 0 < i
local_some f s n r {k} e z l =
    let q : k ≡ suc (k - 1) = omega (arith, z) in
    let h = (frame_has f s n r (k - 1) (sym e ∙ q)).1 in
    omega (arith, l)

-- ---- what its objects are

-- of a type that a term or 255 says
pub extent_untyped : (f : Bytes) (v : ℕ) → v ≡ untyped_mark
    → (record { size = 1; count = 0 } ≡ exact_of (flat (module_of f) (entry_type f v))) × Small (record { size = 1; count = 0 })
extent_untyped f v e = (
  sym (ap (λ (T : Tree variable). exact_of (flat (module_of f) T)) (entry_bytes f v e) ∙ ap (λ (L : Layout variable). exact_of L) (flat_bytes (module_of f))),
  (omega arith, omega arith),
)

pub extent_typed : (f : Bytes) (v : ℕ) {e : Extent} → v ≢ untyped_mark → (e ≡ exact_of (flat (module_of f) ((module_of f).term v))) × Small e
    → (e ≡ exact_of (flat (module_of f) (entry_type f v))) × Small e
extent_typed f v d h = (h.0 ∙ ap (λ (T : Tree variable). exact_of (flat (module_of f) T)) (sym (entry_term f v d)), h.1)

-- regions put for variables change neither size nor number
count_copies : {k : RegionKind} (n : ℕ) (L : Layout k) → count (copies n L) ≡ cond (leb (n * L.size) size_limit) (n * count L) 0
unfolding copies
count_copies n L = go (leb (n * L.size) size_limit)
  where
    go : (b : Bool) → count (cond b (copies_of n L) no_layout) ≡ cond b (n * count L) 0
    go true = count_copies_of n L
    go false = refl

module _ {j k : RegionKind} (σ : Region j → Region k) (m : Module) where
  number_sub : (T : Tree j) → count (flat m (sub σ T)) ≡ count (flat m T)
  unfolding flat flat_with sub
  number_sub (int w) = refl
  number_sub (ptr T r) = refl
  number_sub (arr n T) =
      count_copies n (flat m (sub σ T)) ∙ ap₂ (λ (x y : ℕ). cond (leb (n * x) size_limit) (n * y) 0) (size_sub σ m T) (number_sub T)
      ∙ sym (count_copies n (flat m T))
  number_sub (struct N rs) = count_sub (arg (map σ rs)) _ ∙ sym (count_sub (arg rs) _)
  number_sub (raw_ptr n r) = refl
  number_sub bytes = refl

  extent_sub : (T : Tree j) → exact_of (flat m (sub σ T)) ≡ exact_of (flat m T)
  extent_sub T = ap₂ {C = Extent} (λ (z c : ℕ). record { size = z; count = c }) (size_sub σ m T) (number_sub T)

-- of region r
pub extent_none : (f s : Bytes) (n r : ℕ) → HomeIs f s n r None
    → (record { size = 0; count = 1 } ≡ exact_of (flat (module_of f) (region_tree f s n r))) × Small (record { size = 0; count = 1 })
unfolding flat flat_with
extent_none f s n r w = (rw w refl, (omega arith, omega arith))

pub extent_some : {f s : Bytes} {n r : ℕ} {h : Home} {e : Extent} → HomeIs f s n r (Some h) → (e ≡ exact_of (flat (module_of f) (entry_type f h.entry))) × Small e
    → (e ≡ exact_of (flat (module_of f) (region_tree f s n r))) × Small e
extent_some {f} {s} {n} {r} {h} w e =
    (e.0 ∙ sym (ap (λ (T : Tree live). exact_of (flat (module_of f) T)) w.tree ∙ extent_sub _ (module_of f) (entry_type f h.entry)), e.1)

-- ---- the object around an address

-- of a page p whose objects have size z: that around byte x
unfoldable pub part_at : ℕ → ℕ → ℕ → Part
part_at p x z = cond (ltb 0 z && leb (z * suc (x / z)) page_bytes) (record { offset = page_place p + z * (x / z); size = z }) empty_part

pub record IsPart (r : Area) (p : Part) : Type 0 where
  pub offset : r.offset ≡ p.offset
  pub size : r.size ≡ p.size

-- the part that an object is, empty where there is none
abbrev pub part_or_none : Option Area → Area
part_or_none None = record { offset = 0; size = 0 }
part_or_none (Some a) = a

pub part_none : (p x z : ℕ) → z ≡ 0 → IsPart (record { offset = 0; size = 0 }) (part_at p x z)
unfolding part_at
part_none p x z e = record { offset = rw e; size = rw e }

pub part_past : (p x z : ℕ) {y : ℕ} → z ≢ 0 → y ≡ x / z * z → page_bytes < y + z → IsPart (record { offset = 0; size = 0 }) (part_at p x z)
unfolding part_at
part_past p x z {y} d e l =
    let h : 0 < z = omega (arith, d) in
    let c = mul_comm (x / z) z in
    let q : page_bytes < z * suc (x / z) = (let m = mul-suc z (x / z) in omega arith) in
    record { offset = rw (lt-ltb 0 z h, lt-leb (z * suc (x / z)) page_bytes q); size = rw (lt-ltb 0 z h, lt-leb (z * suc (x / z)) page_bytes q) }

pub part_some : (p x z : ℕ) {y o : ℕ} → z ≢ 0 → y ≡ x / z * z → y + z ≤ page_bytes → o ≡ page_place p → IsPart (record { offset = o + y; size = z }) (part_at p x z)
unfolding part_at
part_some p x z {y} {o} d e l eo =
    let h : 0 < z = omega (arith, d) in
    let c = mul_comm (x / z) z in
    let q : z * suc (x / z) ≤ page_bytes = (let m = mul-suc z (x / z) in omega arith) in
    record {
      offset = rw (lt-ltb 0 z h, le-leb (z * suc (x / z)) page_bytes q) (rw (eo, e, c));
      size = rw (lt-ltb 0 z h, le-leb (z * suc (x / z)) page_bytes q);
    }

-- the answer of the reader where module and state are good
unfoldable pub object_around : Bytes → Bytes → ℕ → Part
object_around f s a = object_in (module_of f) (view s) a ((view s).owner (a / page_bytes))

pub object_none : (f s : Bytes) (a : ℕ) {p o : ℕ} → p ≡ a / page_bytes → o ≡ page_owner s p → o ≡ 0 → IsPart (record { offset = 0; size = 0 }) (object_around f s a)
unfolding object_around object_in view
object_none f s a {p} {o} ep eo z =
    let q : page_owner s (a / page_bytes) ≡ 0 = rw ep at (sym eo ∙ z) in
    record { offset = rw q; size = rw q }

pub object_some : (f s : Bytes) (a : ℕ) {p x o n : ℕ} {e : Extent} {r : Area} → p ≡ a / page_bytes → x ≡ a % page_bytes → o ≡ page_owner s p → o ≢ 0 → n ≡ (view s).frames
    → e ≡ exact_of (flat (module_of f) (region_tree f s n (o - 1))) → e.count ≢ 0 → IsPart r (part_at p x e.size) → IsPart r (object_around f s a)
unfolding object_around object_in part_at view
object_some f s a {p} {x} {o} {n} {e} ep ex eo d en ee some w =
    let q : page_owner s (a / page_bytes) ≡ suc (o - 1) = (let e : page_owner s (a / page_bytes) ≡ o = rw ep at (sym eo) in omega (arith, d)) in
    let L : Layout live = flat (module_of f) (region_tree f s (view s).frames (o - 1)) in
    let t : e ≡ exact_of L = rw en at ee in
    let c : ltb 0 (count L) ≡ true = lt-ltb 0 (count L) (omega (arith, some, ap (λ (y : Extent). y.count) t)) in
    rw q (rw (c, and-true (ltb 0 L.size)) (rw (ep, ex, ap (λ (y : Extent). y.size) t) at w))

-- objects without primitives, as in untyped pages, are none
pub object_bare : (f s : Bytes) (a : ℕ) {p o n : ℕ} {e : Extent} → p ≡ a / page_bytes → o ≡ page_owner s p → o ≢ 0 → n ≡ (view s).frames
    → e ≡ exact_of (flat (module_of f) (region_tree f s n (o - 1))) → e.count ≡ 0 → IsPart (record { offset = 0; size = 0 }) (object_around f s a)
unfolding object_around object_in view
object_bare f s a {p} {o} {n} {e} ep eo d en ee none =
    let q : page_owner s (a / page_bytes) ≡ suc (o - 1) = (let e : page_owner s (a / page_bytes) ≡ o = rw ep at (sym eo) in omega (arith, d)) in
    let L : Layout live = flat (module_of f) (region_tree f s (view s).frames (o - 1)) in
    let c : count L ≡ 0 = sym (ap (λ (y : Extent). y.count) (rw en at ee)) ∙ none in
    let g : (ltb 0 L.size && ltb 0 (count L)) && leb (L.size * suc (a % page_bytes / L.size)) page_bytes ≡ false
    = and_no _ _ (inl (and_no (ltb 0 L.size) (ltb 0 (count L)) (inr (ap (ltb 0) c)))) in
    record { offset = rw (q, g); size = rw (q, g) }
