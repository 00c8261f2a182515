-- Positions by distance, as the code finds them; and the layout of a term under a substitution. Assumes nothing.
use Rattle.std.specs.Prelude.{◌≡◌, refl, not, List, [], ◌∷◌, map, ℕ, ◌+◌, ◌≤◌, ◌<◌, eqb, get_or}
use Rattle.std.proofs.Common.{sym, ap, ap₂, ◌∙◌, subst, ⊎_elim, arith, ne_eqb}
use Rattle.std.proofs.Math.ListN.{get_or-map}
use Rattle.words.specs.Bytes.{Bytes}
use Rattle.words.specs.Choose.{lt_or_le}
use Rattle.words.specs.FirstLaws.{first_is}
use Rattle.rules.specs.Types.{RegionKind, variable, Region, Variable, region, Tree, int, ptr, arr, struct, raw_ptr, bytes, sub, arg, nowhere, form, number_of, inner}
use Rattle.rules.specs.Flat.{Placed, at, off, Layout, count, none, copies, placed_in, sub_layout, flat_with, layouts, flat, distance, position_at, size}
use Rattle.rules.specs.Decode.{module_of}
use Rattle.layout.specs.Types.{sub_sub}
use Rattle.layout.specs.Prims.{nth, moved_zero, sub_layout_copies}
use Rattle.layout.specs.Runs.{Rising, flat_rising, nth_sub, distance_sub, position_sub, position_is}
use Rattle.terms.specs.Heads.{place_of, tree_at}
use Rattle.terms.specs.Extents.{Counted}
use Rattle.terms.specs.Compare.{under, under_is, sub_same}
use Rattle.positions.specs.Table.{term_layout}
use Rattle.positions.specs.TableLaws.{layout_term}
use Rattle.positions.specs.Positions.{Keeps, Agree, under_agree, placed_of, Found}
use Rattle.terms.specs.declared.Extent.{Extent}
use Rattle.positions.specs.declared.Primitive.{Primitive}

-- ---- what the code finds, under substitutions

-- what was found, from the start, is the primitive of the substituted layout
pub found_nth : (f : Bytes) (r : Primitive) (to : Bytes) (L : Layout variable) (i : ℕ) → Found f r to 0 (nth L i) → (k : RegionKind) → placed_of k f r ≡ nth (sub_layout (under {k = k} to) L) i
found_nth f r to L i h k = h k ∙ moved_zero (placed_in (under {k = k} to) (nth L i)) ∙ sym (nth_sub (under to) L i)

pub found_off : (f : Bytes) (r : Primitive) (to : Bytes) (L : Layout variable) (i : ℕ) → Found f r to 0 (nth L i) → r.off ≡ distance L i
found_off f r to L i h = ap off (found_nth f r to L i h variable) ∙ distance_sub (under {k = variable} to) L i

-- ---- the layout of a substituted term

-- flat types go through a substitution that keeps nowhere
with_keeps : {j k : RegionKind} (ls : List (Layout variable)) (σ : Region j → Region k) → σ (region nowhere) ≡ region nowhere → (T : Tree j) → flat_with ls (sub σ T) ≡ sub_layout σ (flat_with ls T)
unfolding flat_with sub sub_layout
with_keeps ls σ h (int w) = refl
with_keeps ls σ h (ptr T r) = refl
with_keeps ls σ h (raw_ptr n r) = refl
with_keeps ls σ h bytes = refl
with_keeps ls σ h (arr n T) = ap (copies n) (with_keeps ls σ h T) ∙ sym (sub_layout_copies σ n (flat_with ls T))
with_keeps {j} {k} ls σ h (struct N rs) =
    ap (λ (l : List (Placed k)). record { size = (get_or ls N none).size; prims = l }) (through (get_or ls N none).prims)
  where
    argument : (v : Variable) → arg (map σ rs) v ≡ σ (arg rs v)
    argument v = subst (λ (z : Region k). get_or (map σ rs) v.number z ≡ σ (get_or rs v.number (region nowhere))) h (get_or-map σ rs v.number (region nowhere))

    through : (l : List (Placed variable)) → map (placed_in (arg (map σ rs))) l ≡ map (placed_in σ) (map (placed_in (arg rs)) l)
    through [] = refl
    through (at d T ∷ l) =
        ap₂ {C = List (Placed k)} ◌∷◌ (ap {B = Placed k} (at d) (sub_same (arg (map σ rs)) (λ v. σ (arg rs v)) argument T ∙ sym (sub_sub σ (arg rs) T))) (through l)

-- term t of the file under p, as the code has it: at its place, under p held
pub layout_under : (k : RegionKind) (f : Bytes) (n s : ℕ) → Counted f n s → (t : ℕ) (p held : Bytes) → Keeps held → Agree held p
    → sub_layout (under {k = k} held) (term_layout f s (place_of n t)) ≡ flat (module_of f) (sub (under p) ((module_of f).term t))
unfolding flat
layout_under k f n s h t p held keeps agree =
    ap (sub_layout (under {k = k} held)) (layout_term f n s h t)
    ∙ sym (with_keeps (layouts (module_of f) (module_of f).structs) (under {k = k} held) (under_is held (region nowhere) ∙ ap region keeps) ((module_of f).term t))
    ∙ ap (λ (T : Tree k). flat_with (layouts (module_of f) (module_of f).structs) T) (sub_same (under {k = k} held) (under p) (under_agree held p agree) ((module_of f).term t))

-- ---- positions

pub position_none : {k : RegionKind} (L : Layout k) (o i : ℕ) → i ≡ count L → ((j : ℕ) → j < i → distance L j ≡ o → ⊥) → i ≡ position_at L o
unfolding position_at
position_none L o i e before =
    sym (first_is (count L) (λ q. not (eqb (distance L q) o)) i (omega arith) (λ j m. ap not (ne_eqb (distance L j) o (before j m))) (λ l. absurd (omega arith)))

-- a position does not depend on the regions
pub position_under : (k : RegionKind) (f : Bytes) (p : Bytes) → Keeps p → (t o : ℕ) → position_at (flat (module_of f) (sub (under {k = k} p) ((module_of f).term t))) o ≡ position_at (flat (module_of f) ((module_of f).term t)) o
unfolding flat
position_under k f p keeps t o =
    ap (λ (L : Layout k). position_at L o) (with_keeps (layouts (module_of f) (module_of f).structs) (under {k = k} p) (under_is p (region nowhere) ∙ ap region keeps) ((module_of f).term t))
    ∙ position_sub (under {k = k} p) (flat_with (layouts (module_of f) (module_of f).structs) ((module_of f).term t)) o

-- ---- positions by halves

-- all before low are nearer than o, and all from high on are not
pub record Lower (L : Layout variable) (o low high : ℕ) : Type 0 where
  pub within : high ≤ count L
  pub ordered : low ≤ high
  pub nearer : (j : ℕ) → j < low → distance L j < o
  pub further : (j : ℕ) → high ≤ j → j < count L → o ≤ distance L j

pub lower_start : (L : Layout variable) (o many : ℕ) → many ≡ count L → Lower L o 0 many
lower_start L o many e = record { within = omega arith; ordered = omega arith; nearer = λ j l. absurd (omega arith); further = λ j l m. absurd (omega arith) }

module _ (L : Layout variable) (up : Rising L) (o low high mid : ℕ) (so : Lower L o low high) (a : low ≤ mid) (b : mid < high) where
  in_list : mid < count L
  in_list = let w = so.within in omega arith

  pub lower_up : distance L mid < o → Lower L o (mid + 1) high
  lower_up h = record {
    within = so.within;
    ordered = omega arith;
    nearer = λ j l. ⊎_elim (λ m. let u = up j mid m in_list in omega arith) (λ m. let z : j ≡ mid = omega arith in rw z h) (lt_or_le j mid);
    further = so.further;
  }

  pub lower_down : o ≤ distance L mid → Lower L o low mid
  lower_down h = record {
    within = let w = so.within in omega arith;
    ordered = a;
    nearer = so.nearer;
    further = λ j l m. ⊎_elim (λ w. let u = up mid j w m in omega arith) (λ w. let z : j ≡ mid = omega arith in rw z h) (lt_or_le mid j);
  }

module _ (L : Layout variable) (o i : ℕ) (so : Lower L o i i) where
  pub lower_found : i < count L → distance L i ≡ o → i ≡ position_at L o
  lower_found l h = sym (position_is L o i l (λ j m e. let s = so.nearer j m in omega arith) h)

  pub lower_other : Rising L → i < count L → (distance L i ≡ o → ⊥) → (many : ℕ) → many ≡ count L → many ≡ position_at L o
  lower_other up l h many e = position_none L o many e
      (λ j m d. ⊎_elim
      (λ w. let s = so.nearer j w in omega arith)
      (λ w. ⊎_elim (λ v. let u = up i j v (omega arith) in let s = so.further i (omega arith) l in h (omega arith)) (λ v. h (let z : i ≡ j = omega arith in rw z d)) (lt_or_le i j))
      (lt_or_le j i))

  pub lower_past : count L ≤ i → (many : ℕ) → many ≡ count L → many ≡ position_at L o
  lower_past l many e = position_none L o many e (λ j m d. let s = so.nearer j (let w = so.within in omega arith) in omega arith)

-- distances grow, also in the layout at a place
pub layout_rising : (f : Bytes) (n k : ℕ) → Counted f n k → (p : ℕ) → Rising (term_layout f k p)
unfolding term_layout
layout_rising f n k h p = rw h.structs (unfold flat in flat_rising (module_of f) (tree_at f p))

-- ---- the element of an array

pub record ElementIs (f : Bytes) (t : ℕ) (e : Extent) : Type 0 where
  pub size : form ((module_of f).term t) ≡ 3 → e.size ≡ size (module_of f) (inner ((module_of f).term t))
  pub count : e.count ≡ number_of ((module_of f).term t)
