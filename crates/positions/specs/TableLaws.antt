-- Laws of the table of extents: counts are exact where integers have bytes; layouts by the head; filling; a table for all structs is one for
-- fewer. Assumes nothing.
use Rattle.std.specs.Prelude.{◌≡◌, refl, List, eqb, length, get_or, set}
use Rattle.std.proofs.Math.Path.{sym, ap}
use Rattle.std.proofs.Common.{ap₂, ◌∙◌, subst, mul-le-mul_left, le_refl, add-one, get_or-set_same, get_or-set_other, eqb-true, eq-eqb}
use Rattle.std.proofs.Math.Logic.{⊎_elim}
use Prim.Native.Nat.{ℕ, zero, suc, ◌+◌, ◌-◌, ◌*◌, ◌/◌, ◌%◌, ◌≤◌, ◌<◌}
use native.Mathlib.Omega.{arith}
use Rattle.std.proofs.lemmas.List.{length-map}
use Rattle.words.specs.Bytes.{Bytes, AllBytes}
use Rattle.words.specs.Choose.{cond_lt, cond_nlt, cond_split, true_not_false, lt_or_le}
use Rattle.rules.specs.Limits.{most_region_params}
use Rattle.rules.specs.File.{record_of}
use Rattle.rules.specs.Types.{RegionKind, variable, Region, Tree, int, ptr, arr, struct, raw_ptr, bytes as noTerm, arg}
use Rattle.rules.specs.Module.{Module}
use Rattle.rules.specs.Flat.{Layout, count, none, beside, copies_of, copies, placed_in, sub_layout, flat_with, layouts, flat}
use Rattle.rules.specs.Decode.{module_of}
use Rattle.rules.specs.declared.Record.{Record}
use Rattle.layout.specs.Prims.{count_packed, count_copies_of, size_copies_of, beside_sized, beside_none, copies_sized, copies_none, copies_fit, sub_layout_size}
use Rattle.layout.specs.Flat.{struct_known}
use Rattle.terms.specs.declared.Extent.{Extent}
use Rattle.terms.specs.declared.Head.{Head}
use Rattle.terms.specs.declared.Head.TheVariants.{Int, Ptr, Arr, Struct, Untyped}
use Rattle.terms.specs.Heads.{place_of, args_of, tree_at, head_from, head_of, grow}
use Rattle.terms.specs.HeadLaws.{tree_step, head_none, place_le, Fair, fair}
use Rattle.terms.specs.Extents.{Terms, Counted, over, plus, times, Small, term_extent, field_place, field_count, firsts, so_far}
use Rattle.terms.specs.ExtentLaws.{cap_same, plus_over, plus_fits, times_over, times_fits, term_int, term_ptr, term_untyped, term_arr, term_known, term_unknown, struct_all, so_begin, so_more, layout_unknown, fields_firsts, module_fields, module_term}
use Rattle.positions.specs.Table.{term_layout, struct_layout, exact_of, InRange, Ranged, core_no, core_from, Fits, pack, unpack, entry_at, core_at, Bare, NoStruct, CoreIs, Few, Filled, Known, Table}
use Rattle.positions.specs.declared.Core.{Core}
use Rattle.positions.specs.declared.Core.TheVariants.{Term, Fields}

-- ---- no more primitives than bytes

abbrev pub Neat : {k : RegionKind} → Layout k → Type 0
Neat L = (count L ≤ L.size) × (count L ≤ 256)

neat_none : (k : RegionKind) → Neat (none {k = k})
neat_none k = (omega arith, omega arith)

module _ {k : RegionKind} where
  neat_beside : (L M : Layout k) → Neat L → Neat M → Neat (beside L M)
  neat_beside L M p q = ⊎_elim
      (λ h. rw (beside_none L M h) (neat_none k))
      (λ h. rw (beside_sized L M h) (omega (arith, count_packed L M, p.0, q.0), omega (arith, count_packed L M, p.0, q.0)))
      (lt_or_le 256 (L.size + M.size))

  neat_copies : (n : ℕ) (L : Layout k) → Neat L → Neat (copies n L)
  neat_copies n L p = ⊎_elim
      (λ h. rw (copies_none n L h) (neat_none k))
      (λ h.
      let c : n * count L ≤ n * L.size = mul-le-mul_left n p.0 in
      rw (copies_sized n L h) (omega (arith, count_copies_of n L, size_copies_of n L), omega (arith, count_copies_of n L)))
      (lt_or_le 256 (n * L.size))

neat_sub : {j k : RegionKind} (σ : Region j → Region k) (L : Layout j) → Neat L → Neat (sub_layout σ L)
unfolding sub_layout
neat_sub σ L p = let c = length-map L.prims (placed_in σ) in (omega (arith, p.0), omega (arith, p.1))

-- its integers, outside pointers, have bytes
abbrev pub Solid : Tree variable → Type 0
Solid (int w) = 0 < w
Solid (ptr T r) = Unit {0}
Solid (arr n T) = Solid T
Solid (struct N rs) = Unit {0}
Solid (raw_ptr n r) = Unit {0}
Solid noTerm = Unit {0}

module _ (ls : List (Layout variable)) (known : (N : ℕ) → Neat (get_or ls N none)) where
  neat_with : (T : Tree variable) → Solid T → Neat (flat_with ls T)
  unfolding flat_with
  neat_with (int w) s = (s, omega arith)
  neat_with (ptr T r) s = (omega arith, omega arith)
  neat_with (raw_ptr n r) s = (omega arith, omega arith)
  neat_with noTerm s = (omega arith, omega arith)
  neat_with (arr n T) s = neat_copies n (flat_with ls T) (neat_with T s)
  neat_with (struct N rs) s = neat_sub (arg rs) (get_or ls N none) (known N)

  neat_firsts : (g : ℕ → Tree variable) → ((j : ℕ) → Solid (g j)) → (i : ℕ) → Neat (firsts ls g i)
  unfolding firsts
  neat_firsts g s zero = (omega arith, omega arith)
  neat_firsts g s (suc i) = neat_beside (firsts ls g i) (flat_with ls (g i)) (neat_firsts g s i) (neat_with (g i) (s i))

-- ---- the trees of records in range

SolidHead : Head → Type 0
SolidHead (Int w) = 0 < w
SolidHead (Ptr a r) = Unit {0}
SolidHead (Arr n a) = Unit {0}
SolidHead (Struct N n d) = n ≤ most_region_params
SolidHead (Untyped n r) = Unit {0}

solid_from : (t : ℕ) (x : Record) → InRange x → SolidHead (head_from t x)
unfolding head_from SolidHead
solid_from t x h =
    cond_split SolidHead (eqb x.kind 1) _ _ (λ e. h.0 (eqb-true x.kind 1 e))
    (λ _. cond_split SolidHead (eqb x.kind 2) _ _ (λ _. tt)
    (λ e. cond_split SolidHead (eqb x.kind 3) _ _ (λ _. tt)
    (λ _. cond_split SolidHead (eqb x.kind 11) _ _ (λ _. tt) (λ _. h.1 (λ z. true_not_false (eq-eqb x.kind 2 z) e)))))

module _ (f : Bytes) (n : ℕ) (range : Ranged f n) where
  solid_head : (p : ℕ) → p ≤ n → SolidHead (head_of f p)
  unfolding head_of SolidHead
  solid_head zero h = omega arith
  solid_head (suc t) h = solid_from t (record_of f t) (range t h)

  few_of : (h : Head) → SolidHead h → Few h
  unfolding SolidHead
  few_of (Int w) s = tt
  few_of (Ptr a r) s = tt
  few_of (Arr c a) s = tt
  few_of (Struct N c d) s = s
  few_of (Untyped c r) s = tt

  pub few_args : (p : ℕ) → p ≤ n → Few (head_of f p)
  few_args p h = few_of (head_of f p) (solid_head p h)

  module _ (bytes : AllBytes f) where
    solid_grow : (p : ℕ) (h : Head) → Fair p h → SolidHead h → ((a : ℕ) → a < p → Solid (tree_at f a)) → Solid (grow (tree_at f) h)
    unfolding grow SolidHead
    solid_grow p (Int w) e s below = s
    solid_grow p (Ptr a r) e s below = tt
    solid_grow p (Arr c a) e s below = below a e.0
    solid_grow p (Struct N c d) e s below = tt
    solid_grow p (Untyped c r) e s below = tt

    solid_below : (b p : ℕ) → p < b → p ≤ n → Solid (tree_at f p)
    solid_below zero p l h = absurd (omega arith)
    solid_below (suc b) p l h =
        subst Solid (sym (tree_step f p)) (solid_grow p (head_of f p) (fair f bytes p) (solid_head p h) (λ a m. solid_below b a (omega arith) (omega arith)))

    pub solid : (p : ℕ) → p ≤ n → Solid (tree_at f p)
    solid p h = solid_below (suc p) p (omega arith) h

    module _ (is : Terms f n) where
      neat_struct : (N : ℕ) → ((M : ℕ) → Neat (get_or (layouts (module_of f) N) M none)) → Neat (struct_layout f N)
      unfolding struct_layout field_place
      neat_struct N known =
          rw (module_fields f n is N, fields_firsts (layouts (module_of f) N) (λ i. tree_at f (field_place f n N i)) (field_count f n N))
          (neat_firsts (layouts (module_of f) N) known (λ i. tree_at f (field_place f n N i)) (λ j. solid (field_place f n N j) (place_le n _)) (field_count f n N))

      neat_layouts : (k N : ℕ) → Neat (get_or (layouts (module_of f) k) N none)
      unfolding struct_layout
      neat_layouts zero N = rw (layout_unknown (module_of f) 0 N (omega arith)) (neat_none variable)
      neat_layouts (suc k) N = ⊎_elim
          (λ l. rw (struct_known (module_of f) (suc k) N (omega arith) ∙ sym (struct_known (module_of f) k N l)) (neat_layouts k N))
          (λ l. ⊎_elim
          (λ m. rw (layout_unknown (module_of f) (suc k) N m) (neat_none variable))
          (λ m. let e : N ≡ k = omega arith in rw (struct_known (module_of f) (suc k) N (omega arith), e) (neat_struct k (neat_layouts k)))
          (lt_or_le k N))
          (lt_or_le N k)

      pub neat : (k p : ℕ) → p ≤ n → Neat (term_layout f k p)
      unfolding term_layout
      neat k p h = neat_with (layouts (module_of f) k) (neat_layouts k) (tree_at f p) (solid p h)

-- ---- by the head

module _ (f : Bytes) (k p : ℕ) where
  -- the layout by the head
  pub layout_at : (h : Head) → head_of f p ≡ h → term_layout f k p ≡ flat_with (layouts (module_of f) k) (grow (tree_at f) h)
  unfolding term_layout
  layout_at h e = ap (λ (T : Tree variable). flat_with (layouts (module_of f) k) T) (tree_step f p ∙ ap (grow (tree_at f)) e)

  pub layout_arr : (c a : ℕ) → head_of f p ≡ Arr c a → term_layout f k p ≡ copies c (term_layout f k a)
  unfolding grow flat_with term_layout
  layout_arr c a e = layout_at (Arr c a) e

  module _ (N c d : ℕ) (e : head_of f p ≡ Struct N c d) where
    pub layout_struct : N < k → term_layout f k p ≡ sub_layout (arg (args_of d c)) (struct_layout f N)
    unfolding grow flat_with struct_layout
    layout_struct l = layout_at (Struct N c d) e ∙ ap (sub_layout (arg (args_of d c))) (struct_known (module_of f) k N l)

    -- a struct that is not known has no size
    pub struct_sized : (term_layout f k p).size ≤ 256 → N < k
    unfolding grow flat_with
    struct_sized s = ⊎_elim
        (λ l. l)
        (λ l.
        let z : term_layout f k p ≡ sub_layout (arg (args_of d c)) none = layout_at (Struct N c d) e ∙ ap (sub_layout (arg (args_of d c))) (layout_unknown (module_of f) k N l) in
        absurd (omega (arith, s, ap (λ (L : Layout variable). L.size) z, sub_layout_size (arg (args_of d c)) (none {k = variable}))))
        (lt_or_le N k)

-- ---- filling

unpack_pack : (e : Extent) (c : Core) → Small e → unpack (pack e c) ≡ e
unpack_pack e c h = ap₂ (λ (s n : ℕ). record { size = s; count = n }) (omega arith) (omega arith)

core_back : (c : Core) → Fits c → core_from (core_no c) ≡ c
unfolding core_from
core_back (Term c) h = let e : c % 512 ≡ c = omega arith in let l : c % 512 < 129 = omega arith in cond_lt _ _ l ∙ ap Term e
core_back (Fields N d) h =
    let e : (129 + N + 512 * d) % 512 - 129 ≡ N = omega (arith, h.0) in
    let q : (129 + N + 512 * d) / 512 ≡ d = omega (arith, h.0) in
    let l : 129 ≤ (129 + N + 512 * d) % 512 = omega (arith, h.0) in
    cond_nlt _ _ l ∙ ap₂ Fields e q

pub core_small : (c : Core) → Fits c → core_no c < 2199023255552
core_small (Term c) h = omega arith
core_small (Fields N d) h = omega (arith, h.0, h.1)

core_pack : (e : Extent) (c : Core) → Small e → Fits c → core_from (pack e c / 1048576) ≡ c
core_pack e c s h = let q : pack e c / 1048576 ≡ core_no c = omega arith in ap core_from q ∙ core_back c h

-- it fits an entry
pub core_fits : (f : Bytes) (p : ℕ) (c : Core) → p ≤ 128 → CoreIs f p c → Fits c
core_fits f p (Term c) h is = let l = is.0.low in omega arith
core_fits f p (Fields N d) h is = (is.number, is.word)

pub bare_self : (f : Bytes) (p : ℕ) → Bare f p p
bare_self f p = record { low = le_refl p; same = λ k h. refl }

pub filled_none : (f : Bytes) (k : ℕ) (tab : List ℕ) → Filled f k tab 1
unfolding entry_at core_at
filled_none f k tab = record {
  entries = λ p h. let e : p ≡ 0 = omega arith in rw e (sym (term_int f k 0 1 (head_none f 0 refl)));
  cores = λ p h. let e : p ≡ 0 = omega arith in rw e (bare_self f 0, subst NoStruct (sym (head_none f 0 refl)) tt);
}

entry_old : (tab : List ℕ) (t x p : ℕ) → p ≤ t → entry_at (set tab t x) p ≡ entry_at tab p
unfolding entry_at
entry_old tab t x zero h = refl
entry_old tab t x (suc q) h = ap unpack (get_or-set_other tab t q x 0 (λ e. omega arith))

core_old : (tab : List ℕ) (t x p : ℕ) → p ≤ t → core_at (set tab t x) p ≡ core_at tab p
unfolding core_at
core_old tab t x zero h = refl
core_old tab t x (suc q) h = ap (λ (y : ℕ). core_from (y / 1048576)) (get_or-set_other tab t q x 0 (λ e. omega arith))

pub filled_more : (f : Bytes) (k : ℕ) (tab : List ℕ) (t : ℕ) (e : Extent) (c : Core) (x : ℕ) → t < length tab → Filled f k tab (t + 1)
    → e ≡ term_extent f k (t + 1) → Small e → CoreIs f (t + 1) c → Fits c → x ≡ pack e c → Filled f k (set tab t x) (t + 1 + 1)
unfolding entry_at core_at
filled_more f k tab t e c x l so is small core fits px = record {
  entries = λ p h. ⊎_elim
      (λ m. entry_old tab t x p (omega arith) ∙ so.entries p m)
      (λ m. let q : p ≡ suc t = omega arith in rw (q, get_or-set_same tab t x 0 l) (ap unpack px ∙ unpack_pack e c small ∙ is ∙ ap (term_extent f k) (add-one t)))
      (lt_or_le p (t + 1));
  cores = λ p h. ⊎_elim
      (λ m. rw (core_old tab t x p (omega arith)) (so.cores p m))
      (λ m. let q : p ≡ suc t = omega arith in
      let z : core_from (x / 1048576) ≡ c = ap (λ (y : ℕ). core_from (y / 1048576)) px ∙ core_pack e c small fits in
      rw (q, get_or-set_same tab t x 0 l, z) (rw (add-one t) at core))
      (lt_or_le p (t + 1));
}

-- the extent of what is neat is exact
exact : (f : Bytes) (k p : ℕ) → count (term_layout f k p) ≤ 256 → term_extent f k p ≡ exact_of (term_layout f k p)
unfolding term_extent term_layout
exact f k p h = ap (λ (c : ℕ). record { size = (flat_with (layouts (module_of f) k) (tree_at f p)).size; count = c }) (cap_same (count (flat_with (layouts (module_of f) k) (tree_at f p))) h)

-- what passes the limit has no primitives
module _ (f : Bytes) (bytes : AllBytes f) (n : ℕ) (is : Terms f n) where
  times_limit : (c : ℕ) (e : Extent) → 256 < (times c e).size → times c e ≡ over
  times_limit c e h = ⊎_elim
      (λ l. times_over c e l)
      (λ l. absurd (omega (arith, h, ap (λ (x : Extent). x.size) (times_fits c e l))))
      (lt_or_le 256 (c * e.size))

  plus_limit : (d e : Extent) → 256 < (plus d e).size → plus d e ≡ over
  plus_limit d e h = ⊎_elim
      (λ l. plus_over d e l)
      (λ l. absurd (omega (arith, h, ap (λ (x : Extent). x.size) (plus_fits d e l))))
      (lt_or_le 256 (d.size + e.size))

  fields_limit : (N i : ℕ) → 256 < (so_far f n N i).size → so_far f n N i ≡ over
  fields_limit N zero h = absurd (omega (arith, h, ap (λ (x : Extent). x.size) (so_begin f n N)))
  fields_limit N (suc i) h = so_more f n N i ∙ plus_limit (so_far f n N i) (term_extent f N (field_place f n N i)) (subst (λ (x : Extent). 256 < x.size) (so_more f n N i) h)

  head_limit : (k p : ℕ) (x : Head) → head_of f p ≡ x → Fair p x → 256 < (term_extent f k p).size → term_extent f k p ≡ over
  head_limit k p (Int w) e g h = absurd (omega (arith, g, h, ap (λ (x : Extent). x.size) (term_int f k p w e)))
  head_limit k p (Ptr a r) e g h = absurd (omega (arith, h, ap (λ (x : Extent). x.size) (term_ptr f k p a r e)))
  head_limit k p (Untyped c r) e g h = absurd (omega (arith, h, ap (λ (x : Extent). x.size) (term_untyped f k p c r e)))
  head_limit k p (Arr c a) e g h = let z = term_arr f k p c a e in z ∙ times_limit c (term_extent f k a) (subst (λ (x : Extent). 256 < x.size) z h)
  head_limit k p (Struct N c d) e g h = ⊎_elim
      (λ l. let z = term_known f k p N c d e l ∙ struct_all f n is N in z ∙ fields_limit N (field_count f n N) (subst (λ (x : Extent). 256 < x.size) z h))
      (λ l. term_unknown f k p N c d e l)
      (lt_or_le N k)

  limit : (k p : ℕ) → 256 < (term_extent f k p).size → term_extent f k p ≡ over
  limit k p h = head_limit k p (head_of f p) refl (fair f bytes p) h

  has_size : (k p : ℕ) → count (term_layout f k p) ≤ 256 → 0 < count (term_layout f k p) → (term_layout f k p).size ≤ 256
  has_size k p c h =
      let e = exact f k p c in
      ⊎_elim
      (λ l. absurd (omega (arith, h, ap (λ (x : Extent). x.count) (sym e ∙ limit k p (subst (λ (x : Extent). 256 < x.size) (sym e) l)))))
      (λ l. l)
      (lt_or_le 256 (term_layout f k p).size)

pub filled_table : (f : Bytes) → AllBytes f → (n k : ℕ) → Counted f n k → Ranged f n → (tab : List ℕ) (t : ℕ) → n ≤ t → Filled f k tab (t + 1)
    → ((p : ℕ) → p ≤ n → (term_extent f k p).size ≤ 257) → Table f n k tab
unfolding term_extent term_layout
filled_table f bytes n k h range tab t l so small = record {
  counted = h;
  entries = λ p m. so.entries p (omega arith) ∙ exact f k p (neat f n range bytes h.terms k p m).1;
  sizes = small;
  counts = λ p m. (neat f n range bytes h.terms k p m).1;
  sized = λ p m c. has_size f bytes n h.terms k p (neat f n range bytes h.terms k p m).1 c;
  cores = λ p m. so.cores p (omega arith);
}

-- ---- fewer structs

copies_more : {k : RegionKind} (n : ℕ) (L M : Layout k) → (copies n L).size ≤ 256 → (L.size ≤ 256 → L ≡ M) → copies n L ≡ copies n M
unfolding copies_of
copies_more zero L M s same = copies_sized 0 L (omega arith) ∙ sym (copies_sized 0 M (omega arith))
copies_more {k} (suc n) L M s same = ap (λ (N : Layout k). copies (suc n) N) (same (let fits = copies_fit (suc n) L s in omega arith))

with_more : (m : Module) (k K : ℕ) → k ≤ K → (T : Tree variable) → (flat_with (layouts m k) T).size ≤ 256 → flat_with (layouts m k) T ≡ flat_with (layouts m K) T
unfolding flat_with
with_more m k K h (int w) s = refl
with_more m k K h (ptr T r) s = refl
with_more m k K h (raw_ptr n r) s = refl
with_more m k K h noTerm s = refl
with_more m k K h (arr n T) s = copies_more n (flat_with (layouts m k) T) (flat_with (layouts m K) T) s (with_more m k K h T)
with_more m k K h (struct N rs) s = ⊎_elim
    (λ l. ap (sub_layout (arg rs)) (struct_known m k N l ∙ sym (struct_known m K N (omega arith))))
    (λ l. absurd (omega (arith, sub_layout_size (arg rs) (get_or (layouts m k) N none), ap (λ (L : Layout variable). L.size) (layout_unknown m k N l), s)))
    (lt_or_le N k)

pub layout_more : (f : Bytes) (k K p : ℕ) → k ≤ K → (term_layout f k p).size ≤ 256 → term_layout f k p ≡ term_layout f K p
unfolding term_layout
layout_more f k K p h s = with_more (module_of f) k K h (tree_at f p) s

pub known_table : (f : Bytes) (n k : ℕ) (tab : List ℕ) → Table f n k tab → Known f n k tab
known_table f n k tab h = record { terms = h.counted.terms; entries = λ p l _. h.entries p l; cores = h.cores }

pub known_less : (f : Bytes) (n k K : ℕ) (tab : List ℕ) → k ≤ K → Known f n K tab → Known f n k tab
known_less f n k K tab h all = record {
  terms = all.terms;
  entries = λ p l s. let e = layout_more f k K p h s in all.entries p l (rw e at s) ∙ ap (λ (L : Layout variable). exact_of L) (sym e);
  cores = all.cores;
}

-- ---- as the code reads it

module _ (tab : List ℕ) (p : ℕ) where
  pub entry_none : p ≡ 0 → entry_at tab p ≡ record { size = 1; count = 1 }
  unfolding entry_at
  entry_none e = rw e

  pub entry_some : (p ≡ 0 → ⊥) → (x : ℕ) → x ≡ get_or tab (p - 1) 0 → unpack x ≡ entry_at tab p
  entry_some h x q = ap unpack q ∙ go p h
    where
      go : (p : ℕ) → (p ≡ 0 → ⊥) → unpack (get_or tab (p - 1) 0) ≡ entry_at tab p
      go zero h = absurd (h refl)
      go (suc t) h = unfold entry_at in let e : suc t - 1 ≡ t = omega arith in rw e

  pub core_none : p ≡ 0 → core_at tab p ≡ Term 0
  unfolding core_at
  core_none e = rw e

  pub core_some : (p ≡ 0 → ⊥) → (x : ℕ) → x ≡ get_or tab (p - 1) 0 → core_from (x / 1048576) ≡ core_at tab p
  core_some h x q = ap (λ (y : ℕ). core_from (y / 1048576)) q ∙ go p h
    where
      go : (p : ℕ) → (p ≡ 0 → ⊥) → core_from (get_or tab (p - 1) 0 / 1048576) ≡ core_at tab p
      go zero h = absurd (h refl)
      go (suc t) h = unfold core_at in let e : suc t - 1 ≡ t = omega arith in rw e

pub entry_small : (tab : List ℕ) (p : ℕ) → ((entry_at tab p).size < 1024) × ((entry_at tab p).count < 1024)
unfolding entry_at
entry_small tab zero = (omega arith, omega arith)
entry_small tab (suc t) = (omega arith, omega arith)

pub extent_small : (tab : List ℕ) (p : ℕ) (e : Extent) → e ≡ entry_at tab p → (e.size < 1024) × (e.count < 1024)
extent_small tab p e h = rw h (entry_small tab p)

-- by term number
pub layout_term : (f : Bytes) (n k : ℕ) → Counted f n k → (t : ℕ) → term_layout f k (place_of n t) ≡ flat (module_of f) ((module_of f).term t)
unfolding term_layout flat
layout_term f n k h t =
    ap₂ (λ (x : ℕ) (T : Tree variable). flat_with (layouts (module_of f) x) T) h.structs (sym (module_term f n h.terms t))

pub entry_term : (f : Bytes) (n k : ℕ) (tab : List ℕ) → Table f n k tab → (t p : ℕ) → p ≡ place_of n t → (e : Extent) → e ≡ entry_at tab p
    → (e ≡ exact_of (flat (module_of f) ((module_of f).term t))) × Small e
entry_term f n k tab h t p q e is =
    let l = place_le n t in
    let z : e ≡ exact_of (term_layout f k p) = is ∙ h.entries p (omega arith) in
    let c = h.counts p (omega arith) in
    let s = h.sizes p (omega arith) in
    (z ∙ ap (λ (L : Layout variable). exact_of L) (ap (term_layout f k) q ∙ layout_term f n k h.counted t), rw z (s, omega arith))

-- the sizes of the places up to t
abbrev pub Sizes : Bytes → ℕ → ℕ → Type 0
Sizes f k t = (p : ℕ) → p ≤ t → (term_extent f k p).size ≤ 257

pub sizes_none : (f : Bytes) (k : ℕ) → Sizes f k 0
sizes_none f k p h = let e : p ≡ 0 = omega arith in rw (e, term_int f k 0 1 (head_none f 0 refl)) (omega arith)

pub sizes_more : (f : Bytes) (k t : ℕ) (e : Extent) → Sizes f k t → e ≡ term_extent f k (t + 1) → Small e → Sizes f k (t + 1)
sizes_more f k t e so is small p h = ⊎_elim
    (λ m. so p (omega arith))
    (λ m. let q : p ≡ t + 1 = omega arith in rw (q, sym is) small.0)
    (lt_or_le p (t + 1))
