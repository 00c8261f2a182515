-- Laws of lists of primitives and of the operations that make a layout: members, moving and substitution; and the principle by
-- which a fact goes through every flat type (`made_flat`). Assumes nothing.
use Rattle.std.specs.Prelude.{◌≡◌, leb, length, get_or, take, drop}
use Rattle.std.proofs.Math.Path.{refl, sym, ap}
use Rattle.std.proofs.Common.{◌∙◌, add_assoc, zero-add, not-suc-le-zero, le_of_suc-le-suc, length-append}
use Rattle.std.proofs.Math.Bool.{cond}
use mathlib.Core.List.{List, [], ◌∷◌, ◌++◌, map}
use Prim.Native.Nat.{ℕ, zero, suc, ◌+◌, ◌*◌, ◌≤◌, ◌<◌}
use native.Mathlib.Omega.{arith}
use Rattle.std.proofs.Math.ListN.{length-map}
use Rattle.words.specs.Choose.{cond_split, cond_ap, cond_le, cond_nle, split_le}
use Rattle.rules.specs.Limits.{size_limit}
use Rattle.words.specs.Decide.{Each, none, more}
use Rattle.rules.specs.Types.{RegionKind, variable, Region, Tree, int, ptr, arr, struct, raw_ptr, bytes, width, sub, arg, Primitive, integer, pointer, raw_pointer}
use Rattle.rules.specs.Module.{Module}
use Rattle.rules.specs.Flat.{Placed, at, off, type, Has, here, there, Layout, single, none as no_layout, empty, one_byte, moved, packed, beside, copies_of, copies, placed_in, sub_layout, flat_with, fields_from, fields_with, layouts, flat, count}
use Rattle.layout.specs.Lists.{map_append, map_map, map_same, snoc_cases}

-- ---- one primitive

pub moved_moved : {k : RegionKind} (a b : ℕ) (p : Placed k) → moved a (moved b p) ≡ moved (a + b) p
moved_moved {k} a b (at d T) = ap {B = Placed k} (λ x. at x T) (sym (add_assoc a b d))

pub moved_zero : {k : RegionKind} (p : Placed k) → moved 0 p ≡ p
moved_zero {k} (at d T) = ap {B = Placed k} (λ x. at x T) (zero-add d)

pub moved_off : {k : RegionKind} (n : ℕ) (p : Placed k) → off (moved n p) ≡ n + off p
moved_off n (at d T) = refl

pub placed_moved : {j k : RegionKind} (σ : Region j → Region k) (n : ℕ) (p : Placed j) → placed_in σ (moved n p) ≡ moved n (placed_in σ p)
placed_moved σ n (at d T) = refl

pub placed_off : {j k : RegionKind} (σ : Region j → Region k) (p : Placed j) → off (placed_in σ p) ≡ off p
placed_off σ (at d T) = refl

-- ---- members

pub has_append_left : {k : RegionKind} (m : List (Placed k)) {l : List (Placed k)} {d : ℕ} {T : Tree k} → Has l d T → Has (l ++ m) d T
has_append_left m here = here
has_append_left m (there h) = there (has_append_left m h)

pub has_append_right : {k : RegionKind} (l : List (Placed k)) {m : List (Placed k)} {d : ℕ} {T : Tree k} → Has m d T → Has (l ++ m) d T
has_append_right [] h = h
has_append_right (p ∷ l) h = there (has_append_right l h)

pub has_moved : {k : RegionKind} (n : ℕ) {l : List (Placed k)} {d : ℕ} {T : Tree k} → Has l d T → Has (map (moved n) l) (n + d) T
has_moved n here = here
has_moved n (there h) = there (has_moved n h)

pub has_placed : {j k : RegionKind} (σ : Region j → Region k) {l : List (Placed j)} {d : ℕ} {T : Tree j} → Has l d T → Has (map (placed_in σ) l) d (sub σ T)
has_placed σ here = here
has_placed σ (there h) = there (has_placed σ h)

-- a member of a list under a substitution is a member of the list, under it
pub has_placed_inv : {j k : RegionKind} (σ : Region j → Region k) (l : List (Placed j)) {d : ℕ} {T : Tree k}
    → Has (map (placed_in σ) l) d T → (U : Tree j) × Has l d U × (T ≡ sub σ U)
has_placed_inv σ (at e U ∷ l) here = (U, here, refl)
has_placed_inv σ (at e U ∷ l) (there h) = let r = has_placed_inv σ l h in (r.0, there r.1, r.2)
has_placed_inv {j = j} {k = k} σ [] {d = d} {T = T} x' = elim x' [ ]

pub has_take : {k : RegionKind} (n : ℕ) (l : List (Placed k)) {d : ℕ} {T : Tree k} → Has (take n l) d T → Has l d T
has_take zero l h = elim h [ ]
has_take (suc n) [] h = h
has_take (suc n) (p ∷ l) here = here
has_take (suc n) (p ∷ l) (there h) = there (has_take n l h)

pub has_drop : {k : RegionKind} (n : ℕ) (l : List (Placed k)) {d : ℕ} {T : Tree k} → Has (drop n l) d T → Has l d T
has_drop zero l h = h
has_drop (suc n) [] h = h
has_drop (suc n) (p ∷ l) h = there (has_drop n l h)

pub has_some : {k : RegionKind} {l : List (Placed k)} {d : ℕ} {T : Tree k} → Has l d T → 0 < length l
has_some here = omega arith
has_some (there h) = omega arith

pub has_each : {k : RegionKind} (P : Tree k → Type 0) {l : List (Placed k)} {d : ℕ} {T : Tree k} → Each (λ p. P (type p)) l → Has l d T → P T
has_each P (more q u) here = q
has_each P (more q u) (there h) = has_each P u h
has_each {k = k} P {d = d} {T = T} none x3 = elim x3 [ ]

pub at_has : {k : RegionKind} (l : List (Placed k)) (i : ℕ) (z : Placed k) → i < length l → Has l (off (get_or l i z)) (type (get_or l i z))
at_has [] i z h = absurd (not-suc-le-zero h)
at_has (at d T ∷ l) zero z h = here
at_has (p ∷ l) (suc i) z h = there (at_has l i z (le_of_suc-le-suc h))

-- ---- one layout beside another, and copies

-- the primitive at a position
abbrev pub nth : {k : RegionKind} → Layout k → ℕ → Placed k
nth L i = get_or L.prims i (at 0 (int 0))

module _ {k : RegionKind} where
  pub count_packed : (L M : Layout k) → count (packed L M) ≡ count L + count M
  count_packed L M = length-append L.prims (map (moved L.size) M.prims) ∙ ap (λ (x : ℕ). count L + x) (length-map M.prims (moved L.size))

  pub size_copies_of : (n : ℕ) (L : Layout k) → (copies_of n L).size ≡ n * L.size
  unfolding copies_of
  size_copies_of zero L = omega arith
  size_copies_of (suc n) L = let e = size_copies_of n L in omega arith

  pub count_copies_of : (n : ℕ) (L : Layout k) → count (copies_of n L) ≡ n * count L
  unfolding copies_of
  count_copies_of zero L = omega arith
  count_copies_of (suc n) L = let e = count_copies_of n L in let f = count_packed L (copies_of n L) in omega arith

  -- a sum that has a size is the sum, and so have its parts
  pub beside_sized : (L M : Layout k) → L.size + M.size ≤ size_limit → beside L M ≡ packed L M
  unfolding beside
  beside_sized L M h = cond_le (packed L M) no_layout h

  pub beside_none : (L M : Layout k) → size_limit < L.size + M.size → beside L M ≡ no_layout
  unfolding beside
  beside_none L M h = cond_nle (packed L M) no_layout h

  pub copies_sized : (n : ℕ) (L : Layout k) → n * L.size ≤ size_limit → copies n L ≡ copies_of n L
  unfolding copies
  copies_sized n L h = cond_le (copies_of n L) no_layout h

  pub copies_none : (n : ℕ) (L : Layout k) → size_limit < n * L.size → copies n L ≡ no_layout
  unfolding copies
  copies_none n L h = cond_nle (copies_of n L) no_layout h

  -- the size of copies is that of one, as often, or over the limit
  pub size_copies : (n : ℕ) (L : Layout k) → (copies n L).size ≡ cond (leb (n * L.size) size_limit) (n * L.size) (suc size_limit)
  unfolding copies
  size_copies n L =
      cond_ap (λ (M : Layout k). M.size) (leb (n * L.size) size_limit) (copies_of n L) no_layout
      ∙ ap (λ (x : ℕ). cond (leb (n * L.size) size_limit) x (suc size_limit)) (size_copies_of n L)

  pub copies_fit : (n : ℕ) (L : Layout k) → (copies n L).size ≤ size_limit → n * L.size ≤ size_limit
  copies_fit n L h =
      split_le (λ (x : ℕ). x ≤ size_limit → n * L.size ≤ size_limit) (n * L.size) size_limit (n * L.size) (suc size_limit) (λ a b. a) (λ a b. absurd (omega arith))
      (rw (size_copies n L) at h)

-- ---- substitution of a layout

module _ {j k : RegionKind} (σ : Region j → Region k) where
  pub sub_layout_packed : (L M : Layout j) → sub_layout σ (packed L M) ≡ packed (sub_layout σ L) (sub_layout σ M)
  unfolding sub_layout
  sub_layout_packed L M =
      ap (λ (l : List (Placed k)). record { size = L.size + M.size; prims = l })
      (map_append (placed_in σ) L.prims (map (moved L.size) M.prims)
      ∙ ap (λ (l : List (Placed k)). map (placed_in σ) L.prims ++ l)
      (map_map (placed_in σ) (moved L.size) M.prims ∙ map_same (λ p. placed_in σ (moved L.size p)) (λ p. moved L.size (placed_in σ p)) (placed_moved σ L.size) M.prims
      ∙ sym (map_map (moved L.size) (placed_in σ) M.prims)))

  pub sub_layout_copies_of : (n : ℕ) (L : Layout j) → sub_layout σ (copies_of n L) ≡ copies_of n (sub_layout σ L)
  unfolding sub_layout copies_of
  sub_layout_copies_of zero L = refl
  sub_layout_copies_of (suc n) L = sub_layout_packed L (copies_of n L) ∙ ap (packed (sub_layout σ L)) (sub_layout_copies_of n L)

  pub sub_layout_size : (L : Layout j) → (sub_layout σ L).size ≡ L.size
  unfolding sub_layout
  sub_layout_size L = refl

  pub sub_layout_copies : (n : ℕ) (L : Layout j) → sub_layout σ (copies n L) ≡ copies n (sub_layout σ L)
  unfolding sub_layout copies
  sub_layout_copies n L =
      cond_ap (sub_layout σ) (leb (n * L.size) size_limit) (copies_of n L) no_layout
      ∙ ap (λ (M : Layout k). cond (leb (n * L.size) size_limit) M no_layout) (sub_layout_copies_of n L)

  pub count_sub : (L : Layout j) → count (sub_layout σ L) ≡ count L
  unfolding sub_layout
  count_sub L = length-map L.prims (placed_in σ)

-- ---- the layouts of the structs

pub length_layouts : (m : Module) (n : ℕ) → length (layouts m n) ≡ n
unfolding layouts
length_layouts m zero = refl
length_layouts m (suc n) =
    let ls = layouts m n in
    let e = length_layouts m n in
    let f = length-append ls (fields_with ls (m.fields n) ∷ []) in
    omega arith

-- ---- a fact that goes through every flat type

-- what is asked of a tree's integers and of untyped bytes, outside pointers
abbrev pub Leaves : {k : RegionKind} → (ℕ → Type 0) → Type 0 → Tree k → Type 0
Leaves I B (int w) = I w
Leaves I B (ptr T r) = Unit {0}
Leaves I B (arr n T) = Leaves I B T
Leaves I B (struct N rs) = Unit {0}
Leaves I B (raw_ptr n r) = Unit {0}
Leaves I B bytes = B

-- where nothing is asked
pub any_leaves : {k : RegionKind} (T : Tree k) → Leaves (λ _. Unit {0}) (Unit {0}) T
any_leaves (int w) = tt
any_leaves (ptr T r) = tt
any_leaves (arr n T) = any_leaves T
any_leaves (struct N rs) = tt
any_leaves (raw_ptr n r) = tt
any_leaves bytes = tt

-- P holds of one primitive (of an integer that has what is asked), of an untyped byte where those are allowed, and is kept by the
-- operations that make a layout
pub record Made (I : ℕ → Type 0) (B : Type 0) (P : (k : RegionKind) → Layout k → Type 0) : Type 0 where
  pub on_prim : (k : RegionKind) (T : Tree k) → Primitive T → Leaves I B T → P k (single (width T) T)
  pub on_bytes : (k : RegionKind) → B → P k one_byte
  pub on_none : (k : RegionKind) → P k no_layout
  pub on_empty : (k : RegionKind) → P k empty
  pub on_packed : (k : RegionKind) (L M : Layout k) → P k L → P k M → P k (packed L M)
  pub on_sub : (j k : RegionKind) (σ : Region j → Region k) (L : Layout j) → P j L → P k (sub_layout σ L)

module _ (I : ℕ → Type 0) (B : Type 0) (P : (k : RegionKind) → Layout k → Type 0) (c : Made I B P) where
  made_beside : (k : RegionKind) (L M : Layout k) → P k L → P k M → P k (beside L M)
  unfolding beside
  made_beside k L M p q = cond_split (P k) (leb (L.size + M.size) size_limit) (packed L M) no_layout (λ _. c.on_packed k L M p q) (λ _. c.on_none k)

  made_copies_of : (k : RegionKind) (n : ℕ) (L : Layout k) → P k L → P k (copies_of n L)
  unfolding copies_of
  made_copies_of k zero L p = c.on_empty k
  made_copies_of k (suc n) L p = c.on_packed k L (copies_of n L) p (made_copies_of k n L p)

  made_copies : (k : RegionKind) (n : ℕ) (L : Layout k) → P k L → P k (copies n L)
  unfolding copies
  made_copies k n L p = cond_split (P k) (leb (n * L.size) size_limit) (copies_of n L) no_layout (λ _. made_copies_of k n L p) (λ _. c.on_none k)

  module _ (ls : List (Layout variable)) (known : (N : ℕ) → P variable (get_or ls N no_layout)) where
    pub made_with : (k : RegionKind) (T : Tree k) → Leaves I B T → P k (flat_with ls T)
    unfolding flat_with
    made_with k (int w) i = c.on_prim k (int w) integer i
    made_with k (ptr T r) i = c.on_prim k (ptr T r) pointer i
    made_with k (arr n T) i = made_copies k n (flat_with ls T) (made_with k T i)
    made_with k (struct N rs) i = c.on_sub variable k (arg rs) (get_or ls N no_layout) (known N)
    made_with k (raw_ptr n r) i = c.on_prim k (raw_ptr n r) raw_pointer i
    made_with k bytes i = c.on_bytes k i

    made_from : (L : Layout variable) {Ts : List (Tree variable)} → P variable L → Each (Leaves I B) Ts → P variable (fields_from ls L Ts)
    unfolding fields_from
    made_from L p none = p
    made_from L p (more {x = T} {xs = Ts} i u) = made_from (beside L (flat_with ls T)) (made_beside variable L (flat_with ls T) p (made_with variable T i)) u

    pub made_fields : {Ts : List (Tree variable)} → Each (Leaves I B) Ts → P variable (fields_with ls Ts)
    unfolding fields_with
    made_fields u = made_from empty (c.on_empty variable) u

  module _ (m : Module) (fields : (N : ℕ) → N < m.structs → Each (Leaves I B) (m.fields N)) where
    pub made_layouts : (n : ℕ) → n ≤ m.structs → (N : ℕ) → P variable (get_or (layouts m n) N no_layout)
    unfolding layouts
    made_layouts zero h N = c.on_none variable
    made_layouts (suc n) h N =
        snoc_cases (λ _. P variable) (layouts m n) (fields_with (layouts m n) (m.fields n)) no_layout (λ i _. made_layouts n (omega arith) i)
        (made_fields (layouts m n) (made_layouts n (omega arith)) (fields n (omega arith))) (λ _ _. c.on_none variable) N

    pub made_flat : {k : RegionKind} (T : Tree k) → Leaves I B T → P k (flat m T)
    unfolding flat
    made_flat {k} T i = made_with (layouts m m.structs) (made_layouts m.structs (omega arith)) k T i
