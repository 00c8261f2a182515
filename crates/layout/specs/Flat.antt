-- Laws of flat types: what `flat` gives for each form; primitives lie in order, apart and inside the size, and where there are no
-- untyped bytes they start at 0 and cover every byte; sizes; flat types under substitution. What a law asks of the module stands in
-- `TypesOk` and `GoodTree`.
use Rattle.std.specs.Prelude.{◌≡◌, ◌⊎◌, leb, length, get_or}
use Rattle.std.proofs.Math.Path.{refl, sym, ap}
use Rattle.std.proofs.Common.{◌∙◌, subst, inl, inr, ⊎_elim, not-suc-le-zero}
use Rattle.std.proofs.Math.Bool.{cond}
use mathlib.Core.List.{List, [], ◌∷◌, ◌++◌, map}
use Prim.Native.Nat.{ℕ, zero, suc, ◌+◌, ◌-◌, ◌*◌, ◌≤◌, ◌<◌}
use Rattle.std.proofs.Math.Nat.{mul-pos}
use native.Mathlib.Omega.{arith}
use Rattle.std.proofs.lemmas.List.{length-map}
use Rattle.words.specs.Choose.{cond_split, split_le, lt_or_le}
use Rattle.rules.specs.Limits.{size_limit}
use Rattle.words.specs.Decide.{Each, none, more}
use Rattle.rules.specs.Types.{RegionKind, variable, Region, Variable, Tree, int, ptr, arr, struct, raw_ptr, bytes, width, sub, arg, Uses, in_arr, in_struct, Primitive, integer, pointer, raw_pointer}
use Rattle.rules.specs.Module.{Module}
use Rattle.rules.specs.Flat.{Placed, at, off, type, Has, here, there, Layout, single, none as no_layout, one_byte, moved, packed, beside, copies_of, copies, placed_in, sub_layout, flat_with, empty, fields_from, fields_with, layouts, flat, size, count, distance}
use Rattle.layout.specs.TypesOk.{Width, one, two, four, GoodTree, good_int, good_ptr, good_arr, good_struct, good_raw, TypesOk}
use Rattle.layout.specs.Lists.{each_append, each_all, each_map, each_weaken, map_map, map_each, snoc_cases}
use Rattle.layout.specs.Types.{sub_sub, sub_agree, sub_width, sub_prim, arg_map, arg_uses, uses_sub}
use Rattle.layout.specs.Prims.{has_append_left, has_append_right, has_moved, has_placed, has_some, has_each, size_copies_of, size_copies, copies_fit, sub_layout_copies, count_sub, length_layouts, Leaves, any_leaves, Made, made_flat}

-- ---- by form

module _ {k : RegionKind} (m : Module) where
  pub flat_arr : (n : ℕ) (T : Tree k) → flat m (arr n T) ≡ copies n (flat m T)
  unfolding flat flat_with
  flat_arr n T = refl

  pub flat_prim : (T : Tree k) → Primitive T → flat m T ≡ single (width T) T
  unfolding flat flat_with
  flat_prim (int w) p = refl
  flat_prim (ptr T r) p = refl
  flat_prim (arr n T) p = elim p [ ]
  flat_prim (struct N rs) p = elim p [ ]
  flat_prim (raw_ptr n r) p = refl
  flat_prim bytes p = elim p [ ]

  -- the type of an untyped region
  pub flat_bytes : flat {k = k} m bytes ≡ one_byte
  unfolding flat flat_with
  flat_bytes = refl

  -- a primitive is its own run
  pub has_whole : (T : Tree k) → Primitive T → Has (flat m T).prims 0 T
  has_whole T p = subst (λ (L : Layout k). Has L.prims 0 T) (sym (flat_prim T p)) here

  pub size_prim : (T : Tree k) → Primitive T → size m T ≡ width T
  size_prim T p = ap (λ (L : Layout k). L.size) (flat_prim T p)

-- the layout of struct N is made of those before it
pub struct_known : (m : Module) (n N : ℕ) → N < n → get_or (layouts m n) N no_layout ≡ fields_with (layouts m N) (m.fields N)
unfolding layouts
struct_known m zero N h = absurd (not-suc-le-zero h)
struct_known m (suc n) N h =
    snoc_cases (λ i L. i < suc n → L ≡ fields_with (layouts m i) (m.fields i)) (layouts m n) (fields_with (layouts m n) (m.fields n)) no_layout
    (λ i l _. struct_known m n i (omega (arith, length_layouts m n))) (λ _. rw (length_layouts m n) refl) (λ i l g. absurd (omega (arith, length_layouts m n))) N h

-- ---- order: each primitive starts where the one before it has ended, or later, and the last ends inside

-- in order from a up to b
abbrev pub Ordered : {k : RegionKind} → ℕ → List (Placed k) → ℕ → Type 0
Ordered a [] b = a ≤ b
Ordered a (at d T ∷ l) b = (a ≤ d) × Primitive T × Ordered (d + width T) l b

module _ {k : RegionKind} where
  ordered_from : (a c : ℕ) (l : List (Placed k)) (b : ℕ) → c ≤ a → Ordered a l b → Ordered c l b
  ordered_from a c [] b h o = omega (arith, o)
  ordered_from a c (at d T ∷ l) b h o = (omega (arith, o.0), o.1, o.2)

  ordered_append : (a : ℕ) (l : List (Placed k)) (b : ℕ) (n : List (Placed k)) (c : ℕ) → Ordered a l b → Ordered b n c → Ordered a (l ++ n) c
  ordered_append a [] b n c o p = ordered_from b a n c o p
  ordered_append a (at d T ∷ l) b n c o p = (o.0, o.1, ordered_append (d + width T) l b n c o.2 p)

  ordered_moved : (n a : ℕ) (l : List (Placed k)) (b : ℕ) → Ordered a l b → Ordered (n + a) (map (moved n) l) (n + b)
  ordered_moved n a [] b o = omega (arith, o)
  ordered_moved n a (at d T ∷ l) b o =
      (omega (arith, o.0), o.1, ordered_from (n + (d + width T)) (n + d + width T) (map (moved n) l) (n + b) (omega arith) (ordered_moved n (d + width T) l b o.2))

ordered_placed : {j k : RegionKind} (σ : Region j → Region k) (a : ℕ) (l : List (Placed j)) (b : ℕ) → Ordered a l b → Ordered a (map (placed_in σ) l) b
ordered_placed σ a [] b o = o
ordered_placed σ a (at d T ∷ l) b o =
    (o.0, sub_prim σ T o.1, ordered_from (d + width T) (d + width (sub σ T)) (map (placed_in σ) l) b (omega (arith, sub_width σ T)) (ordered_placed σ (d + width T) l b o.2))

ordered_made : Made (λ _. Unit {0}) (Unit {0}) (λ k L. Ordered 0 L.prims L.size)
unfolding sub_layout
ordered_made = record {
  on_prim = λ k T p i. (omega arith, p, omega arith);
  on_bytes = λ k b. omega arith;
  on_none = λ k. omega arith;
  on_empty = λ k. omega arith;
  on_packed = λ k L M p q. ordered_append 0 L.prims L.size (map (moved L.size) M.prims) (L.size + M.size) p (ordered_from (L.size + 0) L.size (map (moved L.size) M.prims) (L.size + M.size) (omega arith) (ordered_moved L.size 0 M.prims M.size q));
  on_sub = λ j k σ L p. ordered_placed σ 0 L.prims L.size p;
}

pub ordered_flat : {k : RegionKind} (m : Module) (T : Tree k) → Ordered 0 (flat m T).prims (size m T)
ordered_flat m T =
    made_flat (λ _. Unit {0}) (Unit {0}) (λ k L. Ordered 0 L.prims L.size) ordered_made m (λ N _. each_all any_leaves (m.fields N)) T (any_leaves T)

module _ {k : RegionKind} where
  ordered_le : (a : ℕ) (l : List (Placed k)) (b : ℕ) → Ordered a l b → a ≤ b
  ordered_le a [] b o = o
  ordered_le a (at d T ∷ l) b o = let r = ordered_le (d + width T) l b o.2 in omega (arith, o.0, r)

  -- a member lies inside
  pub has_inside : (a : ℕ) (l : List (Placed k)) (b : ℕ) {d : ℕ} {T : Tree k} → Ordered a l b → Has l d T → (a ≤ d) × (d + width T ≤ b)
  has_inside a (at d T ∷ l) b o here = (o.0, ordered_le (d + width T) l b o.2)
  has_inside a (at d T ∷ l) b o (there h) = let r = has_inside (d + width T) l b o.2 h in (omega (arith, r.0, o.0), r.1)
  has_inside a [] b {d = d} {T = T} o x'' = elim x'' [ ]

  pub has_prim : (a : ℕ) (l : List (Placed k)) (b : ℕ) {d : ℕ} {T : Tree k} → Ordered a l b → Has l d T → Primitive T
  has_prim a (at d T ∷ l) b o here = o.1
  has_prim a (at d T ∷ l) b o (there h) = has_prim (d + width T) l b o.2 h
  has_prim a [] b {d = d} {T = T} o x'' = elim x'' [ ]

-- two members are one, or lie apart
pub record Apart {k : RegionKind} (d : ℕ) (T : Tree k) (e : ℕ) (U : Tree k) : Type 0 where
  pub gap : (d + width T ≤ e) ⊎ (e + width U ≤ d)

pub record SamePlace {k : RegionKind} (d : ℕ) (T : Tree k) (e : ℕ) (U : Tree k) : Type 0 where
  pub place : d ≡ e
  pub tree : T ≡ U

pub has_apart : {k : RegionKind} (a : ℕ) (l : List (Placed k)) (b : ℕ) {d e : ℕ} {T U : Tree k} → Ordered a l b → Has l d T → Has l e U → SamePlace d T e U ⊎ Apart d T e U
has_apart a (at d T ∷ l) b o here here = inl (record { place = refl; tree = refl })
has_apart a (at d T ∷ l) b o here (there k) = inr (record { gap = inl (has_inside (d + width T) l b o.2 k).0 })
has_apart a (at d T ∷ l) b o (there h) here = inr (record { gap = inr (has_inside (d + width T) l b o.2 h).0 })
has_apart a (at d T ∷ l) b o (there h) (there k) = has_apart (d + width T) l b o.2 h k
has_apart {k = k} a [] b {d = d} {e = e} {T = T} {U = U} o x3 _ = elim x3 [ ]

-- the same of a flat type
module _ {k : RegionKind} (m : Module) (T : Tree k) where
  pub flat_inside : {d : ℕ} {P : Tree k} → Has (flat m T).prims d P → d + width P ≤ size m T
  flat_inside h = (has_inside 0 (flat m T).prims (size m T) (ordered_flat m T) h).1

  pub flat_has_prim : {d : ℕ} {P : Tree k} → Has (flat m T).prims d P → Primitive P
  flat_has_prim h = has_prim 0 (flat m T).prims (size m T) (ordered_flat m T) h

  pub flat_apart : {d e : ℕ} {P Q : Tree k} → Has (flat m T).prims d P → Has (flat m T).prims e Q → SamePlace d P e Q ⊎ Apart d P e Q
  flat_apart h g = has_apart 0 (flat m T).prims (size m T) (ordered_flat m T) h g

-- ---- what has a size starts with its first primitive, and primitives cover it, where there are no untyped bytes

-- no untyped bytes outside pointers: so is every term
abbrev pub Plain : {k : RegionKind} → Tree k → Type 0
Plain T = Leaves (λ _. Unit {0}) ⊥ T

abbrev pub PlainFields : Module → Type 0
PlainFields m = (N : ℕ) → N < m.structs → Each (λ T. Plain T) (m.fields N)

-- a fact that asks only that there are none holds of every such type
plain_flat : (P : (k : RegionKind) → Layout k → Type 0) → Made (λ _. Unit {0}) ⊥ P → (m : Module) → PlainFields m → {k : RegionKind} (T : Tree k) → Plain T → P k (flat m T)
plain_flat P c m plain T p = made_flat (λ _. Unit {0}) ⊥ P c m plain T p

abbrev Starts : {k : RegionKind} → List (Placed k) → ℕ → Type 0
Starts [] s = s ≡ 0
Starts (at d T ∷ l) s = d ≡ 0

starts_packed : {k : RegionKind} (l n : List (Placed k)) (s t : ℕ) → Starts l s → Starts n t → Starts (l ++ map (moved s) n) (s + t)
starts_packed [] [] s t p q = omega (arith, p, q)
starts_packed [] (at d T ∷ n) s t p q = omega (arith, p, q)
starts_packed (at d T ∷ l) n s t p q = p

starts_placed : {j k : RegionKind} (σ : Region j → Region k) (l : List (Placed j)) (s : ℕ) → Starts l s → Starts (map (placed_in σ) l) s
starts_placed σ [] s p = p
starts_placed σ (at d T ∷ l) s p = p

starts_made : Made (λ _. Unit {0}) ⊥ (λ k L. L.size ≤ size_limit → Starts L.prims L.size)
unfolding sub_layout
starts_made = record {
  on_prim = λ k T p i h. refl;
  on_bytes = λ k b h. absurd b;
  on_none = λ k h. absurd (omega arith);
  on_empty = λ k h. refl;
  on_packed = λ k L M p q h. starts_packed L.prims M.prims L.size M.size (p (omega arith)) (q (omega arith));
  on_sub = λ j k σ L p h. starts_placed σ L.prims L.size (p h);
}

starts_first : {k : RegionKind} (l : List (Placed k)) (s : ℕ) → Starts l s → off (get_or l 0 (at 0 (int 0))) ≡ 0
starts_first [] s p = refl
starts_first (at d T ∷ l) s p = p

-- the first primitive of what has a size is at distance 0
pub distance_zero : {k : RegionKind} (m : Module) → PlainFields m → (T : Tree k) → Plain T → size m T ≤ size_limit → distance (flat m T) 0 ≡ 0
distance_zero m plain T p h =
    starts_first (flat m T).prims (size m T) (plain_flat (λ k L. L.size ≤ size_limit → Starts L.prims L.size) starts_made m plain T p h)

-- byte i lies in a primitive of the list
pub record Covered {k : RegionKind} (l : List (Placed k)) (i : ℕ) : Type 0 where
  pub distance : ℕ
  pub type : Tree k
  pub has : Has l distance type
  pub low : distance ≤ i
  pub high : i < distance + width type

covered_packed : (k : RegionKind) (L M : Layout k) → ((i : ℕ) → i < L.size → Covered L.prims i) → ((i : ℕ) → i < M.size → Covered M.prims i)
    → (i : ℕ) → i < L.size + M.size → Covered (packed L M).prims i
covered_packed k L M p q i h = go (lt_or_le i L.size)
  where
    go : (i < L.size) ⊎ (L.size ≤ i) → Covered (L.prims ++ map (moved L.size) M.prims) i
    go (inl l) = let c = p i l in record { distance = c.distance; type = c.type; has = has_append_left (map (moved L.size) M.prims) c.has; low = c.low; high = c.high }
    go (inr l) =
        let c = q (i - L.size) (omega arith) in
        record { distance = L.size + c.distance; type = c.type; has = has_append_right L.prims (has_moved L.size c.has); low = omega (arith, c.low); high = omega (arith, c.high) }

filled_made : Made (λ _. Unit {0}) ⊥ (λ k L. L.size ≤ size_limit → (i : ℕ) → i < L.size → Covered L.prims i)
unfolding sub_layout
filled_made = record {
  on_prim = λ k T p _ h i l. record { distance = 0; type = T; has = here; low = omega arith; high = omega arith };
  on_bytes = λ k b h i l. absurd b;
  on_none = λ k h i l. absurd (omega arith);
  on_empty = λ k h i l. absurd (omega arith);
  on_packed = λ k L M p q h. covered_packed k L M (p (omega arith)) (q (omega arith));
  on_sub = λ j k σ L p h i l. let c = p h i l in record { distance = c.distance; type = sub σ c.type; has = has_placed σ c.has; low = c.low; high = omega (arith, c.high, sub_width σ c.type) };
}

-- every byte of what has a size lies in one of its primitives
pub filled : {k : RegionKind} (m : Module) → PlainFields m → (T : Tree k) → Plain T → size m T ≤ size_limit → (i : ℕ) → i < size m T → Covered (flat m T).prims i
filled m plain T p h = plain_flat (λ k L. L.size ≤ size_limit → (i : ℕ) → i < L.size → Covered L.prims i) filled_made m plain T p h

-- what has a byte has a primitive
pub sized_some : {k : RegionKind} (m : Module) → PlainFields m → (T : Tree k) → Plain T → size m T ≤ size_limit → 0 < size m T → 0 < count (flat m T)
sized_some m plain T p h l = has_some (filled m plain T p h 0 l).has

-- what has a primitive has a size, or is one itself
Small : {k : RegionKind} → Layout k → Type 0
Small L = (L.size ≤ size_limit) ⊎ (count L ≡ 0)

small_copies : {k : RegionKind} (n : ℕ) (L : Layout k) → Small (copies n L)
unfolding Small copies
small_copies n L =
    split_le (λ M. (M.size ≤ size_limit) ⊎ (count M ≡ 0)) (n * L.size) size_limit (copies_of n L) no_layout
    (λ h. inl (omega (arith, size_copies_of n L))) (λ _. inr refl)

small_beside : (L M : Layout variable) → Small (beside L M)
unfolding Small beside
small_beside L M =
    split_le (λ N. (N.size ≤ size_limit) ⊎ (count N ≡ 0)) (L.size + M.size) size_limit (packed L M) no_layout (λ h. inl h) (λ _. inr refl)

small_from : (ls : List (Layout variable)) (L : Layout variable) (Ts : List (Tree variable)) → Small L → Small (fields_from ls L Ts)
unfolding fields_from
small_from ls L [] h = h
small_from ls L (T ∷ Ts) h = small_from ls (beside L (flat_with ls T)) Ts (small_beside L (flat_with ls T))

small_fields : (ls : List (Layout variable)) (Ts : List (Tree variable)) → Small (fields_with ls Ts)
unfolding Small fields_with
small_fields ls Ts = small_from ls empty Ts (inl (omega arith))

small_layouts : (m : Module) (n N : ℕ) → Small (get_or (layouts m n) N no_layout)
unfolding Small layouts
small_layouts m zero N = inr refl
small_layouts m (suc n) N =
    snoc_cases (λ _ M. (M.size ≤ size_limit) ⊎ (count M ≡ 0)) (layouts m n) (fields_with (layouts m n) (m.fields n)) no_layout (λ i _. small_layouts m n i)
    (small_fields (layouts m n) (m.fields n)) (λ _ _. inr refl) N

pub flat_small : {k : RegionKind} (m : Module) (T : Tree k) → 0 < count (flat m T) → (size m T ≤ size_limit) ⊎ Primitive T
unfolding flat flat_with sub_layout Small
flat_small m (int w) h = inr integer
flat_small m (ptr T r) h = inr pointer
flat_small m (raw_ptr n r) h = inr raw_pointer
flat_small m bytes h = absurd (omega arith)
flat_small m (arr n T) h =
    ⊎_elim (λ s. inl s) (λ z. absurd (omega arith)) (small_copies n (flat_with (layouts m m.structs) T))
flat_small m (struct N rs) h =
    ⊎_elim (λ s. inl s) (λ z. absurd (omega (arith, count_sub (arg rs) (get_or (layouts m m.structs) N no_layout)))) (small_layouts m m.structs N)

pub filled_some : {k : RegionKind} (m : Module) → PlainFields m → (T : Tree k) → Plain T → 0 < count (flat m T) → (i : ℕ) → i < size m T → Covered (flat m T).prims i
filled_some m plain T p h i l =
    ⊎_elim (λ s. filled m plain T p s i l)
    (λ q. record { distance = 0; type = T; has = has_whole m T q; low = omega arith; high = omega (arith, size_prim m T q) })
    (flat_small m T h)

-- ---- widths: every primitive of a good type is an integer of 1, 2 or 4 bytes, or a pointer

pub data Basic {k : RegionKind} : Tree k → Type 0 where
  basic_int : {w : ℕ} → Width w → Basic (int w)
  basic_ptr : {T : Tree k} {r : Region k} → Basic (ptr T r)
  basic_raw : {n : ℕ} {r : Region k} → Basic (raw_ptr n r)

pub basic_width : {k : RegionKind} {T : Tree k} → Basic T → Width (width T)
basic_width (basic_int w) = w
basic_width basic_ptr = four
basic_width basic_raw = four

pub width_pos : (w : ℕ) → Width w → 0 < w
width_pos w one = omega arith
width_pos w two = omega arith
width_pos w four = omega arith

pub width_le : (w : ℕ) → Width w → w ≤ 4
width_le w one = omega arith
width_le w two = omega arith
width_le w four = omega arith

pub basic_wide : {k : RegionKind} {T : Tree k} → Basic T → 0 < width T
basic_wide {T = T} b = width_pos (width T) (basic_width b)

pub basic_sub : {j k : RegionKind} (σ : Region j → Region k) {T : Tree j} → Basic T → Basic (sub σ T)
unfolding sub
basic_sub σ (basic_int w) = basic_int w
basic_sub σ basic_ptr = basic_ptr
basic_sub σ basic_raw = basic_raw

abbrev pub AllBasic : {k : RegionKind} → List (Placed k) → Type 0
AllBasic l = Each (λ p. Basic (type p)) l

basic_moved : {k : RegionKind} (n : ℕ) (p : Placed k) → Basic (type p) → Basic (type (moved n p))
basic_moved n (at d T) b = b

basic_placed : {j k : RegionKind} (σ : Region j → Region k) (p : Placed j) → Basic (type p) → Basic (type (placed_in σ p))
basic_placed σ (at d T) b = basic_sub σ b

-- a primitive whose integer is right
basic_prim : {k : RegionKind} (T : Tree k) → Primitive T → Leaves Width ⊥ T → Basic T
basic_prim (int w) p i = basic_int i
basic_prim (ptr T r) p i = basic_ptr
basic_prim (arr n T) p i = elim p [ ]
basic_prim (struct N rs) p i = elim p [ ]
basic_prim (raw_ptr n r) p i = basic_raw
basic_prim bytes p i = elim p [ ]

basic_made : Made Width ⊥ (λ k L. AllBasic L.prims)
unfolding sub_layout
basic_made = record {
  on_prim = λ k T p i. more (basic_prim T p i) none;
  on_bytes = λ k b. none;
  on_none = λ k. none;
  on_empty = λ k. none;
  on_packed = λ k L M p q. each_append p (each_map (moved L.size) (basic_moved L.size) q);
  on_sub = λ j k σ L p. each_map (placed_in σ) (basic_placed σ) p;
}

good_leaves : {k : RegionKind} {m : Module} {T : Tree k} → GoodTree m T → Leaves Width ⊥ T
good_leaves (good_int w) = w
good_leaves (good_ptr g) = tt
good_leaves (good_arr h s g) = good_leaves g
good_leaves (good_struct s e) = tt
good_leaves (good_raw h l) = tt

-- a good type has no untyped bytes
pub good_plain : {k : RegionKind} {m : Module} {T : Tree k} → GoodTree m T → Plain T
good_plain (good_int w) = tt
good_plain (good_ptr g) = tt
good_plain (good_arr h s g) = good_plain g
good_plain (good_struct s e) = tt
good_plain (good_raw h l) = tt

pub fields_plain : (m : Module) → TypesOk m → PlainFields m
fields_plain m ok N h = each_weaken (λ U u. good_plain u) (ok.fields N h)

pub flat_basic : {k : RegionKind} (m : Module) → TypesOk m → (T : Tree k) → GoodTree m T → AllBasic (flat m T).prims
flat_basic m ok T g = made_flat Width ⊥ (λ k L. AllBasic L.prims) basic_made m (λ N h. each_weaken (λ U u. good_leaves u) (ok.fields N h)) T (good_leaves g)

pub has_basic : {k : RegionKind} (m : Module) → TypesOk m → (T : Tree k) → GoodTree m T → {d : ℕ} {P : Tree k} → Has (flat m T).prims d P → Basic P
has_basic m ok T g h = has_each Basic (flat_basic m ok T g) h

-- ---- sizes

pub good_sized : {k : RegionKind} (m : Module) (T : Tree k) → GoodTree m T → size m T ≤ size_limit
unfolding flat flat_with
good_sized m (int w) (good_int h) = let l = width_le w h in omega arith
good_sized m (ptr T r) g = omega arith
good_sized m (arr n T) (good_arr h s g) = s
good_sized m (struct N rs) (good_struct s e) = s
good_sized m (raw_ptr n r) g = omega arith
good_sized {k = k} m bytes g = elim g [ ]

-- an element of what has a size has one
pub element_sized : {k : RegionKind} (m : Module) (n : ℕ) (T : Tree k) → size m (arr n T) ≤ size_limit → n * size m T ≤ size_limit
element_sized {k} m n T h = copies_fit n (flat m T) (subst (λ (L : Layout k). L.size ≤ size_limit) (flat_arr m n T) h)

module _ {j k : RegionKind} (σ : Region j → Region k) where
  with_size_sub : (ls : List (Layout variable)) (T : Tree j) → (flat_with ls (sub σ T)).size ≡ (flat_with ls T).size
  unfolding flat_with sub sub_layout
  with_size_sub ls (int w) = refl
  with_size_sub ls (ptr T r) = refl
  with_size_sub ls (arr n T) =
      size_copies n (flat_with ls (sub σ T)) ∙ ap (λ (x : ℕ). cond (leb (n * x) size_limit) (n * x) (suc size_limit)) (with_size_sub ls T)
      ∙ sym (size_copies n (flat_with ls T))
  with_size_sub ls (struct N rs) = refl
  with_size_sub ls (raw_ptr n r) = refl
  with_size_sub ls bytes = refl

  -- sizes do not depend on regions
  pub size_sub : (m : Module) (T : Tree j) → size m (sub σ T) ≡ size m T
  unfolding flat
  size_sub m T = with_size_sub (layouts m m.structs) T

  -- a good tree is good under every substitution
  pub good_sub : (m : Module) (T : Tree j) → GoodTree m T → GoodTree m (sub σ T)
  unfolding sub
  good_sub m (int w) (good_int h) = good_int h
  good_sub m (ptr T r) (good_ptr g) = good_ptr (good_sub m T g)
  good_sub m (arr n T) (good_arr h s g) = good_arr h (subst (λ (x : ℕ). x ≤ size_limit) (sym (size_sub m (arr n T))) s) (good_sub m T g)
  good_sub m (struct N rs) (good_struct s e) = good_struct (subst (λ (x : ℕ). x ≤ size_limit) (sym (size_sub m (struct N rs))) s) (length-map rs σ ∙ e)
  good_sub m (raw_ptr n r) (good_raw h l) = good_raw h l
  good_sub m bytes x' = elim x' [ ]

module _ (m : Module) where
  module _ (ls : List (Layout variable)) (known : (N : ℕ) → 0 < (get_or ls N no_layout).size) where
    pos_with : {k : RegionKind} (T : Tree k) → GoodTree m T → 0 < (flat_with ls T).size
    unfolding flat_with sub_layout
    pos_with (int w) (good_int h) = width_pos w h
    pos_with (ptr T r) g = omega arith
    pos_with (arr n T) (good_arr h s g) =
        let p = pos_with T g in
        rw (size_copies n (flat_with ls T)) (split_le (λ (x : ℕ). 0 < x) (n * (flat_with ls T).size) size_limit (n * (flat_with ls T).size) (suc size_limit) (λ _. mul-pos h p) (λ _. omega arith))
    pos_with (struct N rs) g = known N
    pos_with (raw_ptr n r) g = omega arith
    pos_with {k = k} bytes g = elim g [ ]

    pos_beside : (L M : Layout variable) → 0 < M.size → 0 < (beside L M).size
    unfolding beside
    pos_beside L M p =
        cond_split (λ (N : Layout variable). 0 < N.size) (leb (L.size + M.size) size_limit) (packed L M) no_layout (λ _. omega arith) (λ _. omega arith)

    pos_from : (L : Layout variable) {Ts : List (Tree variable)} → 0 < L.size → Each (GoodTree m) Ts → 0 < (fields_from ls L Ts).size
    unfolding fields_from
    pos_from L p none = p
    pos_from L p (more {x = T} {xs = Ts} g u) = pos_from (beside L (flat_with ls T)) (pos_beside L (flat_with ls T) (pos_with T g)) u

    pos_fields : {Ts : List (Tree variable)} → 0 < length Ts → Each (GoodTree m) Ts → 0 < (fields_with ls Ts).size
    unfolding fields_with fields_from
    pos_fields h none = absurd (not-suc-le-zero h)
    pos_fields h (more {x = T} {xs = Ts} g u) = pos_from (beside empty (flat_with ls T)) (pos_beside empty (flat_with ls T) (pos_with T g)) u

  module _ (ok : TypesOk m) where
    pos_layouts : (n : ℕ) → n ≤ m.structs → (N : ℕ) → 0 < (get_or (layouts m n) N no_layout).size
    unfolding layouts
    pos_layouts zero h N = omega arith
    pos_layouts (suc n) h N =
        snoc_cases (λ _ L. 0 < L.size) (layouts m n) (fields_with (layouts m n) (m.fields n)) no_layout (λ i _. pos_layouts n (omega arith) i)
        (pos_fields (layouts m n) (pos_layouts n (omega arith)) (ok.some n (omega arith)) (ok.fields n (omega arith))) (λ _ _. omega arith) N

    pub size_pos : {k : RegionKind} (T : Tree k) → GoodTree m T → 0 < size m T
    unfolding flat
    size_pos T g = pos_with (layouts m m.structs) (pos_layouts m.structs (omega arith)) T g

    -- a good type has a primitive
    pub flat_some : {k : RegionKind} (T : Tree k) → GoodTree m T → 0 < count (flat m T)
    flat_some T g = sized_some m (fields_plain m ok) T (good_plain g) (good_sized m T g) (size_pos T g)

-- ---- regions: the primitives of a tree use the regions of the tree

abbrev pub PrimsUse : ℕ → List (Placed variable) → Type 0
PrimsUse n l = Each (λ p. Uses n (type p)) l

uses_moved : (n d : ℕ) (p : Placed variable) → Uses n (type p) → Uses n (type (moved d p))
uses_moved n d (at e T) u = u

uses_placed : (c n : ℕ) (σ : Variable → Variable) → ((r : Variable) → r.number < c → (σ r).number < n) → (p : Placed variable) → Uses c (type p) → Uses n (type (placed_in σ p))
uses_placed c n σ f (at e T) u = uses_sub c n σ f T u

uses_copies_of : (n c : ℕ) (L : Layout variable) → PrimsUse n L.prims → PrimsUse n (copies_of c L).prims
unfolding copies_of
uses_copies_of n zero L u = none
uses_copies_of n (suc c) L u = each_append u (each_map (moved L.size) (uses_moved n L.size) (uses_copies_of n c L u))

module _ (m : Module) where
  module _ (ls : List (Layout variable)) (known : (N : ℕ) → PrimsUse (m.arity N) (get_or ls N no_layout).prims) where
    uses_with : (n : ℕ) (T : Tree variable) → GoodTree m T → Uses n T → PrimsUse n (flat_with ls T).prims
    unfolding flat_with sub_layout copies
    uses_with n (int w) g u = more u none
    uses_with n (ptr T r) g u = more u none
    uses_with n (raw_ptr c r) g u = more u none
    uses_with n (arr c T) (good_arr h s g) (in_arr u) =
        let v = uses_with n T g u in
        cond_split (λ (L : Layout variable). PrimsUse n L.prims) (leb (c * (flat_with ls T).size) size_limit) (copies_of c (flat_with ls T)) no_layout
        (λ _. uses_copies_of n c (flat_with ls T) v) (λ _. none)
    uses_with n (struct N rs) (good_struct s e) (in_struct u) =
        each_map (placed_in (arg rs)) (uses_placed (m.arity N) n (arg rs) (λ r h. arg_uses n rs r u (rw e h))) (known N)
    uses_with n bytes g u = elim g [ ]

    uses_beside : (n : ℕ) (L M : Layout variable) → PrimsUse n L.prims → PrimsUse n M.prims → PrimsUse n (beside L M).prims
    unfolding beside
    uses_beside n L M u v =
        cond_split (λ (N : Layout variable). PrimsUse n N.prims) (leb (L.size + M.size) size_limit) (packed L M) no_layout
        (λ _. each_append u (each_map (moved L.size) (uses_moved n L.size) v)) (λ _. none)

    uses_from : (n : ℕ) (L : Layout variable) {Ts : List (Tree variable)} → PrimsUse n L.prims → Each (GoodTree m) Ts → Each (Uses n) Ts
        → PrimsUse n (fields_from ls L Ts).prims
    unfolding fields_from
    uses_from n L w none v = w
    uses_from n L w (more {x = T} {xs = Ts} g u) (more h v) =
        uses_from n (beside L (flat_with ls T)) (uses_beside n L (flat_with ls T) w (uses_with n T g h)) u v

    uses_fields : (n : ℕ) {Ts : List (Tree variable)} → Each (GoodTree m) Ts → Each (Uses n) Ts → PrimsUse n (fields_with ls Ts).prims
    unfolding fields_with
    uses_fields n u v = uses_from n empty none u v

    -- the flat type of a substituted tree: the same distances, the primitives substituted
    with_sub : {j k : RegionKind} (σ : Region j → Region k) (T : Tree j) → GoodTree m T → flat_with ls (sub σ T) ≡ sub_layout σ (flat_with ls T)
    unfolding flat_with sub sub_layout
    with_sub σ (int w) g = refl
    with_sub σ (ptr T r) g = refl
    with_sub σ (raw_ptr n r) g = refl
    with_sub σ (arr n T) (good_arr h s g) = ap (copies n) (with_sub σ T g) ∙ sym (sub_layout_copies σ n (flat_with ls T))
    with_sub {j} {k} σ (struct N rs) (good_struct s e) =
        ap (λ (l : List (Placed k)). record { size = (get_or ls N no_layout).size; prims = l })
        (map_each (placed_in (arg (map σ rs))) (λ p. placed_in σ (placed_in (arg rs) p)) through (known N) ∙ sym (map_map (placed_in σ) (placed_in (arg rs)) (get_or ls N no_layout).prims))
      where
        through : (p : Placed variable) → Uses (m.arity N) (type p) → placed_in (arg (map σ rs)) p ≡ placed_in σ (placed_in (arg rs) p)
        through (at d T) u =
            ap {B = Placed k} (at d) (sub_agree (m.arity N) (arg (map σ rs)) (λ v. σ (arg rs v)) T u (λ v h. arg_map σ rs v (rw e h)) ∙ sym (sub_sub σ (arg rs) T))
    with_sub {j = j} {k = k} σ bytes g = elim g [ ]

  module _ (ok : TypesOk m) where
    uses_layouts : (n : ℕ) → n ≤ m.structs → (N : ℕ) → PrimsUse (m.arity N) (get_or (layouts m n) N no_layout).prims
    unfolding layouts
    uses_layouts zero h N = none
    uses_layouts (suc n) h N =
        snoc_cases (λ i L. PrimsUse (m.arity i) L.prims) (layouts m n) (fields_with (layouts m n) (m.fields n)) no_layout (λ i _. uses_layouts n (omega arith) i)
        (rw (length_layouts m n) (uses_fields (layouts m n) (uses_layouts n (omega arith)) (m.arity n) (ok.fields n (omega arith)) (ok.uses n (omega arith)))) (λ _ _. none) N

    pub flat_uses : (n : ℕ) (T : Tree variable) → GoodTree m T → Uses n T → PrimsUse n (flat m T).prims
    unfolding flat
    flat_uses n T g u = uses_with (layouts m m.structs) (uses_layouts m.structs (omega arith)) n T g u

    pub has_uses : (n : ℕ) (T : Tree variable) → GoodTree m T → Uses n T → {d : ℕ} {P : Tree variable} → Has (flat m T).prims d P → Uses n P
    has_uses n T g u h = has_each (Uses n) (flat_uses n T g u) h

    pub flat_sub : {j k : RegionKind} (σ : Region j → Region k) (T : Tree j) → GoodTree m T → flat m (sub σ T) ≡ sub_layout σ (flat m T)
    unfolding flat
    flat_sub σ T g = with_sub (layouts m m.structs) (uses_layouts m.structs (omega arith)) σ T g
