-- The same primitives, as kinds 27 and 28 ask for them and as the code decides them: as many, and the run from the first one on, which
-- may be a remembered one. Assumes nothing.
use Rattle.std.specs.Prelude.{◌≡◌, refl, false, not, ◌&&◌, List, [], ◌∷◌, map, ℕ, ◌≤◌, ◌<◌, ltb, eqb, length}
use Rattle.std.proofs.Common.{sym, ap₂, ◌∙◌, subst, arith, take_all, lt-ltb, ltb-true, eq-eqb, ne_eqb}
use Rattle.std.proofs.Math.Path.{ap}
use Rattle.std.proofs.Math.Bool.{Bool}
use Rattle.std.proofs.Math.Decide.{ℕ_discrete}
use Rattle.words.specs.Bytes.{Bytes}
use Rattle.words.specs.Choose.{false_by, bool_same}
use Rattle.words.specs.Decide.{does, does_true, true_does}
use Rattle.rules.specs.File.{untyped_mark}
use Rattle.rules.specs.Types.{RegionKind, variable, Tree, bytes, sub}
use Rattle.rules.specs.Flat.{Placed, Layout, count, distance, moved, sub_layout, Run, dec_run, Same, dec_same, flat}
use Rattle.rules.specs.Decode.{module_of}
use Rattle.layout.specs.Prims.{moved_zero, count_sub, sub_layout_size}
use Rattle.layout.specs.Flat.{flat_bytes, distance_zero}
use Rattle.layout.specs.Pointers.{no_same}
use Rattle.terms.specs.Heads.{place_of}
use Rattle.terms.specs.Readers.{entry_type, entry_term, entry_bytes}
use Rattle.terms.specs.Plain.{plain_sub, plain_term, plain_fields}
use Rattle.terms.specs.Compare.{under}
use Rattle.terms.specs.declared.Extent.{Extent}
use Rattle.positions.specs.Table.{Table, term_layout, entry_at}
use Rattle.positions.specs.Distances.{layout_under}
use Rattle.instructions.specs.Plain.{themselves}
use Rattle.instructions.specs.Known.{layout_of, run_stands}

-- 27, 28: terms u and t have the same primitives, as they are written
unfoldable pub same_prims : Bytes → ℕ → ℕ → Bool
same_prims f u t = does (dec_same (layout_of f u) (layout_of f t))

-- ---- layouts

-- the same primitives as itself has a layout that has some
same_itself : {k : RegionKind} (L : Layout k) → ltb 0 (count L) ≡ does (dec_same L L)
same_itself L = bool_same (ltb 0 (count L)) (does (dec_same L L))
    (λ h. true_does (dec_same L L) (record { some = ltb-true 0 (count L) h; equal = refl }))
    (λ h. lt-ltb 0 (count L) (does_true (dec_same L L) h).some)

module _ {k : RegionKind} (L M : Layout k) where
  same_counts : (count L ≡ count M → ⊥) → false ≡ does (dec_same L M)
  same_counts h = sym (false_by (λ e. h (ap length (does_true (dec_same L M) e).equal)))

  -- as many primitives, and the run from the first one, which is at distance 0
  same_run_from : count L ≡ count M → (0 < count L → distance L 0 ≡ 0) → does (dec_run L 0 M) ≡ does (dec_same L M)
  same_run_from e z = bool_same (does (dec_run L 0 M)) (does (dec_same L M))
      (λ h. let r = does_true (dec_run L 0 M) h in true_does (dec_same L M) (record { some = let s = r.some in omega arith; equal = to r }))
      (λ h. let s = does_true (dec_same L M) h in true_does (dec_run L 0 M) (from s))
    where
      nothing : (l : List (Placed k)) (x : ℕ) → x ≡ 0 → map (moved x) l ≡ l
      nothing [] x q = refl
      nothing (P ∷ l) x q = ap₂ {C = List (Placed k)} ◌∷◌ (ap (λ (y : ℕ). moved y P) q ∙ moved_zero P) (nothing l x q)

      to : Run L 0 M → L.prims ≡ M.prims
      to r =
          let s = r.some in
          sym (take_all (count M) L.prims (omega arith)) ∙ r.equal ∙ nothing M.prims (distance L 0) (z (omega arith))

      from : Same L M → Run L 0 M
      from s = record {
        some = let p = s.some in omega arith;
        equal = take_all (count M) L.prims (omega arith) ∙ s.equal ∙ sym (nothing M.prims (distance L 0) (z s.some));
      }

-- ---- terms of the file, by the table of extents

module _ (f : Bytes) (n s : ℕ) (tab : List ℕ) (h : Table f n s tab) (t a : ℕ) (e : a ≡ place_of n t) (l : a ≤ n) where
  layout_is : sub_layout (under {k = variable} themselves) (term_layout f s a) ≡ layout_of f t
  layout_is = ap (λ (x : ℕ). sub_layout (under {k = variable} themselves) (term_layout f s x)) e ∙ layout_under variable f n s h.counted t themselves themselves refl (λ v. refl)

  -- what the table has is how many primitives the term has
  pub count_in_law : (x : Extent) → x ≡ entry_at tab a → x.count ≡ count (layout_of f t)
  count_in_law x is =
      ap (λ (y : Extent). y.count) (is ∙ h.entries a l) ∙ sym (count_sub (under {k = variable} themselves) (term_layout f s a)) ∙ ap (λ (L : Layout variable). count L) layout_is

  pub first_zero : 0 < count (layout_of f t) → distance (layout_of f t) 0 ≡ 0
  first_zero m =
      distance_zero (module_of f) (plain_fields f) (sub (under {k = variable} themselves) ((module_of f).term t))
      (plain_sub (under {k = variable} themselves) ((module_of f).term t) (plain_term f t))
      (let c = ap (λ (L : Layout variable). count L) layout_is in
      let d = count_sub (under {k = variable} themselves) (term_layout f s a) in
      omega (arith, h.sized a l (omega arith), ap (λ (L : Layout variable). L.size) (sym layout_is), sub_layout_size (under {k = variable} themselves) (term_layout f s a)))

module _ (f : Bytes) (u t : ℕ) where
  -- of an entry of record 8: an untyped region has no primitives
  pub same_entry : not (eqb t untyped_mark) && same_prims f u t ≡ does (dec_same (layout_of f u) (flat (module_of f) (sub (under themselves) (entry_type f t))))
  unfolding same_prims sub
  same_entry = go (ℕ_discrete t untyped_mark)
    where
      like : Tree variable → Bool
      like T = does (dec_same (layout_of f u) (flat (module_of f) (sub (under themselves) T)))

      none : false ≡ like bytes
      none = sym (false_by (λ e. no_same (layout_of f u) (subst (λ (L : Layout variable). Same (layout_of f u) L) (flat_bytes (module_of f)) (does_true (dec_same (layout_of f u) (flat (module_of f) bytes)) e))))

      go : Dec (t ≡ untyped_mark) → not (eqb t untyped_mark) && same_prims f u t ≡ like (entry_type f t)
      go (yes e) = ap (λ (b : Bool). not b && same_prims f u t) (eq-eqb t untyped_mark e) ∙ none ∙ ap like (sym (entry_bytes f t e))
      go (no n) = ap (λ (b : Bool). not b && same_prims f u t) (ne_eqb t untyped_mark n) ∙ ap like (sym (entry_term f t n))

  pub same_own : u ≡ t → (c : ℕ) → c ≡ count (layout_of f u) → ltb 0 c ≡ same_prims f u t
  unfolding same_prims
  same_own q c is = ap (ltb 0) is ∙ same_itself (layout_of f u) ∙ ap (λ (x : ℕ). does (dec_same (layout_of f u) (layout_of f x))) q

  pub same_no : (count (layout_of f u) ≡ count (layout_of f t) → ⊥) → false ≡ same_prims f u t
  unfolding same_prims
  same_no = same_counts (layout_of f u) (layout_of f t)

  pub same_run : count (layout_of f u) ≡ count (layout_of f t) → (0 < count (layout_of f u) → distance (layout_of f u) 0 ≡ 0) → run_stands f u 0 t ≡ same_prims f u t
  unfolding same_prims run_stands
  same_run = same_run_from (layout_of f u) (layout_of f t)
