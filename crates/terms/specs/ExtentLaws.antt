-- Laws of extents: they go through the operations that make a layout; the extent of a term by its head, and of a struct field by
-- field, as the code makes them. Assumes nothing.
use Rattle.std.specs.Prelude.{◌≡◌}
use Rattle.std.proofs.Math.Path.{refl, sym, ap, ap₂}
use Rattle.std.proofs.Common.{◌∙◌, add-zero, zero-add, add-one, arith}
use Rattle.std.proofs.Math.Logic.{⊎_elim}
use mathlib.Core.List.{List}
use Prim.Native.Nat.{ℕ, zero, suc, ◌+◌, ◌-◌, ◌*◌, ◌<◌, ◌≤◌}
use Rattle.std.proofs.Math.ListN.{get_or, get_or-eq_default}
use Rattle.std.proofs.lemmas.List.{length-map}
use Rattle.words.specs.Bytes.{Bytes, list_from, list_of}
use Rattle.words.specs.ByteLaws.{list_of_agree}
use Rattle.words.specs.Choose.{cond_le, cond_nle, lt_or_le}
use Rattle.rules.specs.Limits.{size_limit}
use Rattle.rules.specs.File.{record_of, entry_of}
use Rattle.rules.specs.Types.{RegionKind, variable, Region, Tree, arg}
use Rattle.rules.specs.Module.{Module}
use Rattle.rules.specs.Flat.{Layout, count, none, beside, copies, placed_in, sub_layout, flat_with, fields_from, fields_with, layouts, flat, struct_flat}
use Rattle.rules.specs.Decode.{no_tree, trees_of, struct_start, fields_of, module_of}
use Rattle.layout.specs.Prims.{count_packed, size_copies_of, count_copies_of, length_layouts}
use Rattle.layout.specs.Flat.{struct_known}
use Rattle.terms.specs.declared.Extent.{Extent}
use Rattle.terms.specs.declared.Head.{Head}
use Rattle.terms.specs.declared.Head.TheVariants.{Int, Ptr, Arr, Struct, Untyped}
use Rattle.terms.specs.Heads.{args_of, place_of, tree_at, head_of, grow}
use Rattle.terms.specs.HeadLaws.{trees_at, tree_step}
use Rattle.terms.specs.Extents.{Terms, Counted, cap, extent_of, over, plus, times, term_extent, struct_extent, field_place, field_count, firsts, so_far}

-- ---- cap

pub cap_same : (c : ℕ) → c ≤ size_limit → cap c ≡ c
unfolding cap
cap_same c h = cond_le c (suc size_limit) h

pub cap_over : (c : ℕ) → size_limit < c → cap c ≡ suc size_limit
unfolding cap
cap_over c h = cond_nle c (suc size_limit) h

cap_plus : (a b : ℕ) → cap (a + b) ≡ cap (cap a + cap b)
cap_plus a b = ⊎_elim left (λ p. ⊎_elim (right p) (λ q. ap₂ (λ (x y : ℕ). cap (x + y)) (sym (cap_same a p)) (sym (cap_same b q))) (lt_or_le size_limit b)) (lt_or_le size_limit a)
  where
    left : size_limit < a → cap (a + b) ≡ cap (cap a + cap b)
    left h = cap_over (a + b) (omega arith) ∙ sym (cap_over (cap a + cap b) (omega (arith, cap_over a h)))

    right : a ≤ size_limit → size_limit < b → cap (a + b) ≡ cap (cap a + cap b)
    right p h = cap_over (a + b) (omega arith) ∙ sym (cap_over (cap a + cap b) (omega (arith, cap_over b h)))

cap_times : (n a : ℕ) → cap (n * a) ≡ cap (n * cap a)
cap_times zero a = ap cap (omega arith)
cap_times (suc n) a = ⊎_elim big (λ p. ap (λ (x : ℕ). cap (suc n * x)) (sym (cap_same a p))) (lt_or_le size_limit a)
  where
    big : size_limit < a → cap (suc n * a) ≡ cap (suc n * cap a)
    big h = cap_over (suc n * a) (omega arith) ∙ sym (ap (λ (x : ℕ). cap (suc n * x)) (cap_over a h) ∙ cap_over (suc n * suc size_limit) (omega arith))

-- ---- sums and products

pub plus_over : (d e : Extent) → size_limit < d.size + e.size → plus d e ≡ over
unfolding plus
plus_over d e h = cond_nle _ _ h

pub plus_fits : (d e : Extent) → d.size + e.size ≤ size_limit → plus d e ≡ record { size = d.size + e.size; count = cap (d.count + e.count) }
unfolding plus
plus_fits d e h = cond_le _ _ h

pub times_over : (n : ℕ) (e : Extent) → size_limit < n * e.size → times n e ≡ over
unfolding times
times_over n e h = cond_nle _ _ h

pub times_fits : (n : ℕ) (e : Extent) → n * e.size ≤ size_limit → times n e ≡ record { size = n * e.size; count = cap (n * e.count) }
unfolding times
times_fits n e h = cond_le _ _ h

module _ {k : RegionKind} where
  pub extent_beside : (L M : Layout k) → extent_of (beside L M) ≡ plus (extent_of L) (extent_of M)
  unfolding beside plus
  extent_beside L M = ⊎_elim
      (λ h. ap (λ (N : Layout k). extent_of N) (cond_nle _ _ h) ∙ capped_none ∙ sym (cond_nle _ _ h))
      (λ h.
      ap (λ (N : Layout k). extent_of N) (cond_le _ _ h)
      ∙ ap (λ (c : ℕ). record { size = L.size + M.size; count = c }) (ap cap (count_packed L M) ∙ cap_plus (count L) (count M)) ∙ sym (cond_le _ _ h))
      (lt_or_le size_limit (L.size + M.size))
    where
      capped_none : extent_of (none {k = k}) ≡ over
      capped_none = ap (λ (c : ℕ). record { size = suc size_limit; count = c }) (cap_same 0 (omega arith))

  pub extent_copies : (n : ℕ) (L : Layout k) → extent_of (copies n L) ≡ times n (extent_of L)
  unfolding copies times
  extent_copies n L = ⊎_elim
      (λ h. ap (λ (N : Layout k). extent_of N) (cond_nle _ _ h) ∙ ap (λ (c : ℕ). record { size = suc size_limit; count = c }) (cap_same 0 (omega arith)) ∙ sym (cond_nle _ _ h))
      (λ h.
      ap (λ (N : Layout k). extent_of N) (cond_le _ _ h)
      ∙ ap₂ (λ (s c : ℕ). record { size = s; count = c }) (size_copies_of n L) (ap cap (count_copies_of n L) ∙ cap_times n (count L)) ∙ sym (cond_le _ _ h))
      (lt_or_le size_limit (n * L.size))

pub extent_sub : {j k : RegionKind} (σ : Region j → Region k) (L : Layout j) → extent_of (sub_layout σ L) ≡ extent_of L
unfolding sub_layout
extent_sub σ L = ap (λ (c : ℕ). record { size = L.size; count = cap c }) (length-map L.prims (placed_in σ))

-- ---- the layouts of the structs

module _ (m : Module) where
  pub layout_unknown : (n N : ℕ) → n ≤ N → get_or (layouts m n) N none ≡ none
  layout_unknown n N h = get_or-eq_default (layouts m n) none (omega (arith, length_layouts m n))

-- ---- terms, by the head

module _ (f : Bytes) (k p : ℕ) where
  by_head : (h : Head) → head_of f p ≡ h → term_extent f k p ≡ extent_of (flat_with (layouts (module_of f) k) (grow (tree_at f) h))
  unfolding term_extent
  by_head h e = ap (λ (T : Tree variable). extent_of (flat_with (layouts (module_of f) k) T)) (tree_step f p ∙ ap (grow (tree_at f)) e)

  pub term_int : (w : ℕ) → head_of f p ≡ Int w → term_extent f k p ≡ record { size = w; count = 1 }
  unfolding grow flat_with cap
  term_int w e = by_head (Int w) e

  pub term_ptr : (a r : ℕ) → head_of f p ≡ Ptr a r → term_extent f k p ≡ record { size = 4; count = 1 }
  unfolding grow flat_with cap
  term_ptr a r e = by_head (Ptr a r) e

  pub term_untyped : (n r : ℕ) → head_of f p ≡ Untyped n r → term_extent f k p ≡ record { size = 4; count = 1 }
  unfolding grow flat_with cap
  term_untyped n r e = by_head (Untyped n r) e

  pub term_arr : (n a : ℕ) → head_of f p ≡ Arr n a → term_extent f k p ≡ times n (term_extent f k a)
  unfolding grow flat_with term_extent
  term_arr n a e = by_head (Arr n a) e ∙ extent_copies n (flat_with (layouts (module_of f) k) (tree_at f a))

  pub term_known : (N n d : ℕ) → head_of f p ≡ Struct N n d → N < k → term_extent f k p ≡ struct_extent f N
  unfolding grow flat_with struct_extent
  term_known N n d e h =
      by_head (Struct N n d) e ∙ extent_sub (arg (args_of d n)) (get_or (layouts (module_of f) k) N none)
      ∙ ap (λ (L : Layout variable). extent_of L) (struct_known (module_of f) k N h)

  pub term_unknown : (N n d : ℕ) → head_of f p ≡ Struct N n d → k ≤ N → term_extent f k p ≡ over
  unfolding grow flat_with cap
  term_unknown N n d e h =
      by_head (Struct N n d) e ∙ extent_sub (arg (args_of d n)) (get_or (layouts (module_of f) k) N none)
      ∙ ap (λ (L : Layout variable). extent_of L) (layout_unknown (module_of f) k N h)

-- ---- structs, field by field

firsts_all : (ls : List (Layout variable)) (g : ℕ → Tree variable) (i n : ℕ) → fields_from ls (firsts ls g i) (list_from g i n) ≡ firsts ls g (i + n)
unfolding fields_from list_from firsts
firsts_all ls g i zero = ap (firsts ls g) (sym (add-zero i))
firsts_all ls g i (suc n) = let e : suc i + n ≡ i + suc n = omega arith in firsts_all ls g (suc i) n ∙ ap (firsts ls g) e

pub fields_firsts : (ls : List (Layout variable)) (g : ℕ → Tree variable) (n : ℕ) → fields_with ls (list_of g n) ≡ firsts ls g n
unfolding fields_with firsts
fields_firsts ls g n = firsts_all ls g 0 n ∙ ap (firsts ls g) (zero-add n)

module _ (f : Bytes) (n : ℕ) (is : Terms f n) where
  -- the module's terms and fields, by places
  pub module_term : (t : ℕ) → (module_of f).term t ≡ tree_at f (place_of n t)
  unfolding module_of
  module_term t = rw is.are (trees_at f (module_of f).terms t)

  pub module_fields : (N : ℕ) → (module_of f).fields N ≡ list_of (λ i. tree_at f (field_place f n N i)) (field_count f n N)
  unfolding module_of fields_of field_place
  module_fields N =
      rw is.are
      (list_of_agree (λ i. get_or (trees_of f (module_of f).terms) (entry_of (record_of f (struct_start (module_of f).terms N + 1)) i) no_tree) (λ i. tree_at f (place_of (module_of f).terms (entry_of (record_of f (struct_start (module_of f).terms N + 1)) i))) (record_of f (struct_start (module_of f).terms N)).b
      (λ j h. trees_at f (module_of f).terms (entry_of (record_of f (struct_start (module_of f).terms N + 1)) j)))

  pub struct_all : (N : ℕ) → struct_extent f N ≡ so_far f n N (field_count f n N)
  unfolding struct_extent so_far
  struct_all N =
      ap (λ (Ts : List (Tree variable)). extent_of (fields_with (layouts (module_of f) N) Ts)) (module_fields N)
      ∙ ap (λ (L : Layout variable). extent_of L) (fields_firsts (layouts (module_of f) N) (λ i. tree_at f (field_place f n N i)) (field_count f n N))

module _ (f : Bytes) (n N : ℕ) where
  pub so_begin : record { size = 0; count = 0 } ≡ so_far f n N 0
  unfolding so_far firsts cap
  so_begin = refl

  pub so_more : (i : ℕ) → so_far f n N (suc i) ≡ plus (so_far f n N i) (term_extent f N (field_place f n N i))
  unfolding so_far firsts term_extent
  so_more i = extent_beside (firsts (layouts (module_of f) N) (λ j. tree_at f (field_place f n N j)) i) (flat_with (layouts (module_of f) N) (tree_at f (field_place f n N i)))

  -- one field more
  pub so_next : (i : ℕ) (d : Extent) → d ≡ so_far f n N i → (p : ℕ) → p ≡ field_place f n N i → (e : Extent) → e ≡ term_extent f N p → plus d e ≡ so_far f n N (i + 1)
  so_next i d h p q e r = rw (add-one i, so_more i) (ap₂ plus h (r ∙ ap (term_extent f N) q))

  -- once over the limit, over it to the end
  so_over : (i c : ℕ) → size_limit < (so_far f n N i).size → so_far f n N (i + suc c) ≡ over
  so_over i zero h = rw (add-one i, so_more i) (plus_over (so_far f n N i) (term_extent f N (field_place f n N i)) (omega arith))
  so_over i (suc c) h =
      let e : i + suc (suc c) ≡ suc (i + suc c) = omega arith in
      let s : (so_far f n N (i + suc c)).size ≡ suc size_limit = ap (λ (x : Extent). x.size) (so_over i c h) in
      rw (e, so_more (i + suc c)) (plus_over (so_far f n N (i + suc c)) (term_extent f N (field_place f n N (i + suc c))) (omega arith))

  -- what passes the limit is `over`
  pub over_is : (d e g : Extent) → g ≡ plus d e → size_limit < g.size → g ≡ over
  over_is d e g h l = ⊎_elim (λ m. h ∙ plus_over d e m) (λ m. absurd (omega (arith, l, ap (λ (x : Extent). x.size) (h ∙ plus_fits d e m)))) (lt_or_le size_limit (d.size + e.size))

  pub so_stop : (i c : ℕ) (g : Extent) → g ≡ so_far f n N i → g ≡ over → i ≤ c → so_far f n N c ≡ over
  so_stop i c g h l m = ⊎_elim
      (λ lt. let e : i + suc (c - suc i) ≡ c = omega arith in
      let s : (so_far f n N i).size ≡ suc size_limit = ap (λ (x : Extent). x.size) (sym h ∙ l) in
      rw e at (so_over i (c - suc i) (omega arith)))
      (λ le. let e : i ≡ c = omega arith in rw e at (sym h ∙ l))
      (lt_or_le i c)

-- ---- by term number

pub extent_term : (f : Bytes) (n k : ℕ) → Counted f n k → (t : ℕ) → term_extent f k (place_of n t) ≡ extent_of (flat (module_of f) ((module_of f).term t))
unfolding term_extent flat
extent_term f n k h t =
    ap₂ (λ (x : ℕ) (T : Tree variable). extent_of (flat_with (layouts (module_of f) x) T)) h.structs (sym (module_term f n h.terms t))

pub extent_struct : (f : Bytes) (n k : ℕ) → Counted f n k → (N : ℕ) → N < k → struct_extent f N ≡ extent_of (struct_flat (module_of f) N)
unfolding struct_extent struct_flat
extent_struct f n k h N l = ap (λ (L : Layout variable). extent_of L) (sym (struct_known (module_of f) (module_of f).structs N (rw h.structs at l)))

pub extent_no_struct : (f : Bytes) (n k : ℕ) → Counted f n k → (N : ℕ) → k ≤ N → over ≡ extent_of (struct_flat (module_of f) N)
unfolding struct_flat cap
extent_no_struct f n k h N l = ap (λ (L : Layout variable). extent_of L) (sym (layout_unknown (module_of f) (module_of f).structs N (rw h.structs at l)))
