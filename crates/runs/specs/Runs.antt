-- Runs as the code decides them: a run is there where as many primitives follow and each is the same; and where an untyped pointer's bytes
-- lie. Assumes nothing.
use Rattle.std.specs.Prelude.{◌≡◌, Bool, true, false, ◌&&◌, eqb, ltb, leb}
use Rattle.std.proofs.Math.Path.{refl, sym, ap}
use Rattle.std.proofs.Common.{ap₂, ◌∙◌, inr, ⊎_elim, arith}
use Prim.Native.Nat.{ℕ, suc, ◌+◌, ◌-◌, ◌*◌, ◌/◌, ◌%◌, ◌≤◌, ◌<◌}
use Rattle.std.proofs.Math.Decide.{ℕ_discrete, dec_lt, dec_le}
use Rattle.std.proofs.Math.Nat.{mul_comm}
use borrow.Author.Tests.{eq-eqb, ne_eqb, eqb-true, lt-ltb, le-ltb, le-leb, lt-leb, leb-true}
use Rattle.words.specs.Bytes.{Bytes}
use Rattle.words.specs.Choose.{false_by, true_not_false, lt_or_le, bool_same, both, both_of, and_no, does_lt, does_le}
use Rattle.words.specs.Decide.{does, does_true, dec_both, true_does}
use Rattle.rules.specs.Types.{RegionKind, variable, live, Tree, int, integer, form, sub, dec_tree}
use Rattle.rules.specs.File.{untyped_mark}
use Rattle.rules.specs.Module.{Module}
use Rattle.rules.specs.Flat.{Placed, Layout, count, one_byte, moved, sub_layout, flat, distance, dec_placed, dec_run, position_at, size}
use Rattle.rules.specs.Decode.{module_of}
use Rattle.layout.specs.Prims.{nth, count_sub}
use Rattle.rules.specs.Limits.{pages, page_bytes, memory_bytes}
use Rattle.rules.specs.Heap.{HeapTyping, dec_stands, dec_in_untyped}
use Rattle.layout.specs.Flat.{flat_bytes, size_prim, size_sub}
use Rattle.layout.specs.Runs.{run_matches, matches_run, distance_sub}
use Rattle.terms.specs.Heads.{place_of, tree_at}
use Rattle.terms.specs.HeadLaws.{place_out}
use Rattle.terms.specs.Extents.{Terms, Counted}
use Rattle.terms.specs.ExtentLaws.{module_term}
use Rattle.terms.specs.Readers.{entry_type, entry_term, entry_bytes, entry_form}
use Rattle.terms.specs.Compare.{under, sub_same, form_sub, does_map, does_both, does_nat}
use Rattle.equality.specs.Equal.{places_same}
use Rattle.positions.specs.Table.{term_layout}
use Rattle.positions.specs.Positions.{Keeps, Agree, under_agree, placed_of, Found}
use Rattle.positions.specs.Distances.{position_under, found_nth, found_off, layout_under}
use Rattle.positions.specs.declared.Primitive.{Primitive}

-- what holds of written variables and of live regions holds of both kinds
pub of_kinds : (P : RegionKind → Type 0) → P variable → P live → (k : RegionKind) → P k
of_kinds P v l variable = v
of_kinds P v l live = l

-- ---- a run by its primitives

module _ {k : RegionKind} (L : Layout k) (q : ℕ) (M : Layout k) where
  -- primitive i of M is that of L at position q + i
  abbrev pub same_at : ℕ → Bool
  same_at i = does (dec_placed (nth L (q + i)) (moved (distance L q) (nth M i)))

  pub run_none : count M ≡ 0 → false ≡ does (dec_run L q M)
  run_none h = sym (false_by (λ e. let s = (does_true (dec_run L q M) e).some in omega arith))

  pub run_short : count L < q + count M → false ≡ does (dec_run L q M)
  run_short h = sym (false_by (λ e. let s = (run_matches L q M (does_true (dec_run L q M) e)).room in omega arith))

  pub run_broken : (i : ℕ) → i < count M → same_at i ≡ false → false ≡ does (dec_run L q M)
  run_broken i l h =
      sym (false_by (λ e. true_not_false (true_does (dec_placed (nth L (q + i)) (moved (distance L q) (nth M i))) ((run_matches L q M (does_true (dec_run L q M) e)).each i l)) h))

  pub run_all : 0 < count M → q + count M ≤ count L → ((i : ℕ) → i < count M → same_at i ≡ true) → true ≡ does (dec_run L q M)
  run_all s r h =
      sym (true_does (dec_run L q M) (matches_run L q M (record { some = s; room = r; each = λ i l. does_true (dec_placed (nth L (q + i)) (moved (distance L q) (nth M i))) (h i l) })))

-- ---- one primitive

module _ (k : RegionKind) (f : Bytes) where
  pub placed_same : (x : Primitive) (from : ℕ) (y : Primitive)
      → eqb x.off (from + y.off) && places_same k f x.place x.to y.place y.to ≡ does (dec_placed (placed_of k f x) (moved from (placed_of k f y)))
  unfolding dec_placed places_same
  placed_same x from y =
      sym (does_map _ _ (dec_both (ℕ_discrete x.off (from + y.off)) (dec_tree (sub (under {k = k} x.to) (tree_at f x.place)) (sub (under y.to) (tree_at f y.place))))
      ∙ does_both (ℕ_discrete x.off (from + y.off)) (dec_tree (sub (under {k = k} x.to) (tree_at f x.place)) (sub (under y.to) (tree_at f y.place)))
      ∙ ap (λ (b : Bool). b && does (dec_tree (sub (under {k = k} x.to) (tree_at f x.place)) (sub (under y.to) (tree_at f y.place)))) (does_nat x.off (from + y.off)))

  -- at one place, under substitutions that agree, only the distances are left
  pub placed_alike : (x : Primitive) (from : ℕ) (y : Primitive) (agree : Bool) → eqb x.place y.place && agree ≡ true → (agree ≡ true → Agree x.to y.to)
      → eqb x.off (from + y.off) ≡ does (dec_placed (placed_of k f x) (moved from (placed_of k f y)))
  placed_alike x from y agree h so = sym (bool_same (eqb x.off (from + y.off) && true) (eqb x.off (from + y.off)) (λ e. (both (eqb x.off (from + y.off)) true e).0) (λ e. both_of e refl))
      ∙ ap (λ (b : Bool). eqb x.off (from + y.off) && b) (sym same) ∙ placed_same x from y
    where
      same : places_same k f x.place x.to y.place y.to ≡ true
      same = unfold places_same in
          let l = both (eqb x.place y.place) agree h in
          true_does (dec_tree (sub (under {k = k} x.to) (tree_at f x.place)) (sub (under y.to) (tree_at f y.place)))
          (sub_same (under {k = k} x.to) (under y.to) (under_agree x.to y.to (so l.1)) (tree_at f x.place) ∙ ap (λ (p : ℕ). sub (under {k = k} y.to) (tree_at f p)) (eqb-true x.place y.place l.0))

-- the sum of the code, as a difference
pub eqb_minus : (x from y : ℕ) → from ≤ x → eqb (x - from) y ≡ eqb x (from + y)
eqb_minus x from y h = bool_same (eqb (x - from) y) (eqb x (from + y))
    (λ e. eq-eqb x (from + y) (let z = eqb-true (x - from) y e in omega arith))
    (λ e. eq-eqb (x - from) y (let z = eqb-true x (from + y) e in omega arith))

pub eqb_less : (x from y : ℕ) → x < from → eqb x (from + y) ≡ false
eqb_less x from y h = ne_eqb x (from + y) (λ e. omega arith)

-- ---- the code's loop over a run

module _ (f : Bytes) (A : Layout variable) (p : Bytes) (d : ℕ) (B : Layout variable) (q : Bytes) where
  -- the first i primitives are the same, of both kinds of regions
  abbrev pub RunTo : ℕ → Type 0
  RunTo i = (j : RegionKind) (h : ℕ) → h < i → same_at (sub_layout (under {k = j} p) A) d (sub_layout (under q) B) h ≡ true

  module _ (first x y : Primitive) (i : ℕ) (a : Found f first p 0 (nth A d)) (b : Found f x p 0 (nth A (d + i))) (c : Found f y q 0 (nth B i)) (r : Bool)
      (is : (j : RegionKind) → r ≡ does (dec_placed (placed_of j f x) (moved first.off (placed_of j f y)))) where
    prim_same : (j : RegionKind) → r ≡ same_at (sub_layout (under {k = j} p) A) d (sub_layout (under q) B) i
    prim_same j =
        is j
        ∙ ap₂ (λ (P Q : Placed j). does (dec_placed P (moved first.off Q))) (found_nth f x p A (d + i) b j) (found_nth f y q B i c j)
        ∙ ap (λ (z : ℕ). does (dec_placed (nth (sub_layout (under {k = j} p) A) (d + i)) (moved z (nth (sub_layout (under q) B) i)))) (found_off f first p A d a ∙ sym (distance_sub (under {k = j} p) A d))

    pub run_more : r ≡ true → RunTo i → RunTo (i + 1)
    run_more e so j h l = ⊎_elim
        (λ m. so j h m)
        (λ m. let z : h ≡ i = omega arith in rw z (sym (prim_same j) ∙ e))
        (lt_or_le h i)

    pub run_stop : i < count B → r ≡ false → (j : RegionKind) → false ≡ does (dec_run (sub_layout (under {k = j} p) A) d (sub_layout (under q) B))
    run_stop l e j = run_broken (sub_layout (under {k = j} p) A) d (sub_layout (under q) B) i (rw (count_sub (under {k = j} q) B) l) (sym (prim_same j) ∙ e)

  pub run_end : 0 < count B → d + count B ≤ count A → (i : ℕ) → count B ≤ i → RunTo i → (j : RegionKind) → true ≡ does (dec_run (sub_layout (under {k = j} p) A) d (sub_layout (under q) B))
  run_end s r i l so j =
      let a = count_sub (under {k = j} p) A in
      let b = count_sub (under {k = j} q) B in
      run_all (sub_layout (under {k = j} p) A) d (sub_layout (under q) B) (omega arith) (omega arith) (λ h m. so j h (omega arith))

  pub run_empty : count B ≡ 0 → (j : RegionKind) → false ≡ does (dec_run (sub_layout (under {k = j} p) A) d (sub_layout (under q) B))
  run_empty e j = run_none (sub_layout (under {k = j} p) A) d (sub_layout (under q) B) (count_sub (under {k = j} q) B ∙ e)

  pub run_past : count A < d + count B → (j : RegionKind) → false ≡ does (dec_run (sub_layout (under {k = j} p) A) d (sub_layout (under q) B))
  run_past l j =
      let a = count_sub (under {k = j} p) A in
      let b = count_sub (under {k = j} q) B in
      run_short (sub_layout (under {k = j} p) A) d (sub_layout (under q) B) (omega arith)

-- terms u and t of the file under p and q, as they are held
abbrev pub RunIs : Bytes → ℕ → Bytes → ℕ → ℕ → Bytes → Bool → Type 0
RunIs f u p d t q r =
    (r ≡ does (dec_run (flat (module_of f) (sub (under {k = variable} p) ((module_of f).term u))) d (flat (module_of f) (sub (under q) ((module_of f).term t)))))
    × (r ≡ does (dec_run (flat (module_of f) (sub (under {k = live} p) ((module_of f).term u))) d (flat (module_of f) (sub (under q) ((module_of f).term t)))))

module _ (f : Bytes) (n s : ℕ) (h : Counted f n s) (u : ℕ) (p hp : Bytes) (kp : Keeps hp) (ap' : Agree hp p) (t : ℕ) (q hq : Bytes) (kq : Keeps hq) (aq : Agree hq q) (d a b : ℕ) (ea : a ≡ place_of n u) (eb : b ≡ place_of n t) where
  run_kind : (j : RegionKind) → does (dec_run (sub_layout (under {k = j} hp) (term_layout f s a)) d (sub_layout (under hq) (term_layout f s b)))
      ≡ does (dec_run (flat (module_of f) (sub (under {k = j} p) ((module_of f).term u))) d (flat (module_of f) (sub (under q) ((module_of f).term t))))
  run_kind j =
      ap₂ (λ (x y : ℕ). does (dec_run (sub_layout (under {k = j} hp) (term_layout f s x)) d (sub_layout (under hq) (term_layout f s y)))) ea eb
      ∙ ap₂ (λ (L M : Layout j). does (dec_run L d M)) (layout_under j f n s h u p hp kp ap') (layout_under j f n s h t q hq kq aq)

  pub run_is : (r : Bool) → ((j : RegionKind) → r ≡ does (dec_run (sub_layout (under {k = j} hp) (term_layout f s a)) d (sub_layout (under hq) (term_layout f s b)))) → RunIs f u p d t q r
  run_is r e = (e variable ∙ run_kind variable, e live ∙ run_kind live)

-- ---- runs by distance

abbrev pub RunAtIs : Bytes → ℕ → Bytes → ℕ → ℕ → Bytes → Bool → Type 0
RunAtIs f u p o t q r =
    (r ≡ does (dec_run (flat (module_of f) (sub (under {k = variable} p) (entry_type f u))) (position_at (flat (module_of f) (sub (under {k = variable} p) (entry_type f u))) o) (flat (module_of f) (sub (under q) ((module_of f).term t)))))
    × (r ≡ does (dec_run (flat (module_of f) (sub (under {k = live} p) (entry_type f u))) (position_at (flat (module_of f) (sub (under {k = live} p) (entry_type f u))) o) (flat (module_of f) (sub (under q) ((module_of f).term t)))))

pub run_at_is : (f : Bytes) (u : ℕ) → (u ≡ untyped_mark → ⊥) → (p : Bytes) → Keeps p → (o t : ℕ) (q : Bytes) (d : ℕ) → d ≡ position_at (flat (module_of f) ((module_of f).term u)) o → (r : Bool) → RunIs f u p d t q r → RunAtIs f u p o t q r
run_at_is f u typed p keeps o t q d e r h = rw (entry_term f u typed) (
  h.0 ∙ ap (λ (x : ℕ). does (dec_run (flat (module_of f) (sub (under {k = variable} p) ((module_of f).term u))) x (flat (module_of f) (sub (under q) ((module_of f).term t))))) (e ∙ sym (position_under variable f p keeps u o)),
  h.1 ∙ ap (λ (x : ℕ). does (dec_run (flat (module_of f) (sub (under {k = live} p) ((module_of f).term u))) x (flat (module_of f) (sub (under q) ((module_of f).term t))))) (e ∙ sym (position_under live f p keeps u o)),
)

-- the layout of an untyped region's type: one byte without primitives
pub untyped_layout : (k : RegionKind) (f : Bytes) (u : ℕ) (p : Bytes) → u ≡ untyped_mark → flat (module_of f) (sub (under {k = k} p) (entry_type f u)) ≡ one_byte
untyped_layout k f u p e = ap (λ (T : Tree variable). flat (module_of f) (sub (under {k = k} p) T)) (entry_bytes f u e) ∙ (unfold sub in flat_bytes (module_of f))

-- no run stands there
pub run_at_none : (f : Bytes) (u : ℕ) → u ≡ untyped_mark → (p : Bytes) (o t : ℕ) (q : Bytes) → RunAtIs f u p o t q false
run_at_none f u e p o t q = (none variable, none live)
  where
    none : (j : RegionKind) → false ≡ does (dec_run (flat (module_of f) (sub (under {k = j} p) (entry_type f u))) (position_at (flat (module_of f) (sub (under {k = j} p) (entry_type f u))) o) (flat (module_of f) (sub (under q) ((module_of f).term t))))
    none j =
        let L : Layout j = flat (module_of f) (sub (under {k = j} p) (entry_type f u)) in
        let M : Layout j = flat (module_of f) (sub (under q) ((module_of f).term t)) in
        let c : count L ≡ 0 = ap (λ (N : Layout j). count N) (untyped_layout j f u p e) in
        ⊎_elim (λ l. run_short L (position_at L o) M (omega arith)) (λ l. run_none L (position_at L o) M (omega arith)) (lt_or_le 0 (count M))

-- ---- addresses

-- the run of M stands at byte x of a page of objects of L: "inside", "sized", "fits" and "run" of `Stands`
unfoldable pub in_page : {k : RegionKind} → Layout k → ℕ → Layout k → Bool
in_page L x M = ltb 0 L.size && (leb (L.size * suc (x / L.size)) page_bytes && does (dec_run L (position_at L (x % L.size)) M))

abbrev pub InPageIs : Bytes → ℕ → Bytes → ℕ → ℕ → Bytes → Bool → Type 0
InPageIs f u p x t q r =
    (r ≡ in_page (flat (module_of f) (sub (under {k = variable} p) (entry_type f u))) x (flat (module_of f) (sub (under q) ((module_of f).term t))))
    × (r ≡ in_page (flat (module_of f) (sub (under {k = live} p) (entry_type f u))) x (flat (module_of f) (sub (under q) ((module_of f).term t))))

-- for every heap typing in which the page of a has this owner and the region this type
abbrev pub StandsIs : Bytes → ℕ → ℕ → ℕ → Bytes → ℕ → ℕ → Bytes → Bool → Type 0
StandsIs f r owner u p a t q b =
    (W : HeapTyping) → W.owner (a / page_bytes) ≡ owner → W.type r ≡ sub (under p) (entry_type f u)
    → b ≡ does (dec_stands (module_of f) W (sub (under q) ((module_of f).term t)) r a)

module _ {k : RegionKind} (L : Layout k) (x : ℕ) (M : Layout k) (sz : ℕ) (is : sz ≡ L.size) where
  pub page_none : sz ≡ 0 → false ≡ in_page L x M
  unfolding in_page
  page_none e = let z : L.size ≡ 0 = sym is ∙ e in rw z refl

  pub page_past : (sz ≡ 0 → ⊥) → page_bytes < x / sz * sz + sz → false ≡ in_page L x M
  unfolding in_page
  page_past d h =
      let c = mul_comm L.size (suc (x / L.size)) in
      let w : page_bytes < x / L.size * L.size + L.size = rw is at h in
      sym (ap₂ (λ (a b : Bool). a && (b && does (dec_run L (position_at L (x % L.size)) M))) (lt-ltb 0 L.size (omega arith)) (lt-leb (L.size * suc (x / L.size)) page_bytes (omega arith)))

  pub page_in : (sz ≡ 0 → ⊥) → x / sz * sz + sz ≤ page_bytes → (r : Bool) → r ≡ does (dec_run L (position_at L (x % sz)) M) → r ≡ in_page L x M
  unfolding in_page
  page_in d h r e =
      let c = mul_comm L.size (suc (x / L.size)) in
      let w : x / L.size * L.size + L.size ≤ page_bytes = rw is at h in
      e ∙ ap (λ (s : ℕ). does (dec_run L (position_at L (x % s)) M)) is
      ∙ sym (ap₂ (λ (a b : Bool). a && (b && does (dec_run L (position_at L (x % L.size)) M))) (lt-ltb 0 L.size (omega arith)) (le-leb (L.size * suc (x / L.size)) page_bytes (omega arith)))

-- sizes do not depend on regions; what is not there reads as i8, of one byte as an untyped region's place is
pub size_under : (k : RegionKind) (f p : Bytes) (n : ℕ) → Terms f n → (u : ℕ) → size (module_of f) ((module_of f).term u) ≡ size (module_of f) (sub (under {k = k} p) (entry_type f u))
size_under k f p n is u = go (ℕ_discrete u untyped_mark)
  where
    past : u ≡ untyped_mark → (module_of f).term u ≡ int 1
    past e = module_term f n is u ∙ ap (tree_at f) (place_out n u (omega (arith, is.few))) ∙ (unfold tree_at in refl)

    go : Dec (u ≡ untyped_mark) → size (module_of f) ((module_of f).term u) ≡ size (module_of f) (sub (under {k = k} p) (entry_type f u))
    go (yes e) = ap (λ (T : Tree variable). size (module_of f) T) (past e) ∙ size_prim (module_of f) (int 1) integer ∙ sym (ap (λ (L : Layout k). L.size) (untyped_layout k f u p e))
    go (no d) = sym (size_sub (under {k = k} p) (module_of f) ((module_of f).term u)) ∙ ap (λ (T : Tree variable). size (module_of f) (sub (under {k = k} p) T)) (sym (entry_term f u d))

stands_test : (m : Module) (W : HeapTyping) (T U : Tree live) (r a : ℕ) → W.type r ≡ U
    → does (dec_stands m W T r a) ≡ (ltb (a / page_bytes) pages && eqb (W.owner (a / page_bytes)) (suc r)) && in_page (flat m U) (a % page_bytes) (flat m T)
unfolding dec_stands in_page
stands_test m W T U r a e =
    let L : Layout live = flat m (W.type r) in
    does_map _ _ (dec_both (dec_both (dec_lt (a / page_bytes) pages) (ℕ_discrete (W.owner (a / page_bytes)) (suc r))) (dec_both (dec_lt 0 L.size) (dec_both (dec_le (L.size * suc (a % page_bytes / L.size)) page_bytes) (dec_run L (position_at L (a % page_bytes % L.size)) (flat m T)))))
    ∙ does_both (dec_both (dec_lt (a / page_bytes) pages) (ℕ_discrete (W.owner (a / page_bytes)) (suc r))) (dec_both (dec_lt 0 L.size) (dec_both (dec_le (L.size * suc (a % page_bytes / L.size)) page_bytes) (dec_run L (position_at L (a % page_bytes % L.size)) (flat m T))))
    ∙ ap₂ (λ (x y : Bool). x && y)
    (does_both (dec_lt (a / page_bytes) pages) (ℕ_discrete (W.owner (a / page_bytes)) (suc r)) ∙ ap₂ (λ (x y : Bool). x && y) (sym (does_lt (a / page_bytes) pages)) (does_nat (W.owner (a / page_bytes)) (suc r)))
    (does_both (dec_lt 0 L.size) (dec_both (dec_le (L.size * suc (a % page_bytes / L.size)) page_bytes) (dec_run L (position_at L (a % page_bytes % L.size)) (flat m T)))
    ∙ ap₂ (λ (x y : Bool). x && y) (sym (does_lt 0 L.size))
    (does_both (dec_le (L.size * suc (a % page_bytes / L.size)) page_bytes) (dec_run L (position_at L (a % page_bytes % L.size)) (flat m T))
    ∙ ap (λ (x : Bool). x && does (dec_run L (position_at L (a % page_bytes % L.size)) (flat m T))) (sym (does_le (L.size * suc (a % page_bytes / L.size)) page_bytes))))
    ∙ ap (λ (X : Tree live). (ltb (a / page_bytes) pages && eqb (W.owner (a / page_bytes)) (suc r)) && in_page (flat m X) (a % page_bytes) (flat m T)) e

module _ (f : Bytes) (r owner u : ℕ) (p : Bytes) (a t : ℕ) (q : Bytes) where
  stands_no : (ltb (a / page_bytes) pages && eqb owner (suc r) ≡ false) → StandsIs f r owner u p a t q false
  stands_no h W own ty =
      sym (stands_test (module_of f) W (sub (under q) ((module_of f).term t)) (sub (under p) (entry_type f u)) r a ty
      ∙ ap (λ (x : ℕ). (ltb (a / page_bytes) pages && eqb x (suc r)) && in_page (flat (module_of f) (sub (under {k = live} p) (entry_type f u))) (a % page_bytes) (flat (module_of f) (sub (under q) ((module_of f).term t)))) own
      ∙ ap (λ (b : Bool). b && in_page (flat (module_of f) (sub (under {k = live} p) (entry_type f u))) (a % page_bytes) (flat (module_of f) (sub (under q) ((module_of f).term t)))) h)

  pub stands_far : memory_bytes ≤ a → StandsIs f r owner u p a t q false
  stands_far h = stands_no (ap (λ (b : Bool). b && eqb owner (suc r)) (le-ltb (a / page_bytes) pages (omega arith)))

  pub stands_other : (owner ≡ suc r → ⊥) → StandsIs f r owner u p a t q false
  stands_other h = stands_no (and_no (ltb (a / page_bytes) pages) (eqb owner (suc r)) (inr (ne_eqb owner (suc r) h)))

  pub stands_in : a < memory_bytes → owner ≡ suc r → (b : Bool) → InPageIs f u p (a % page_bytes) t q b → StandsIs f r owner u p a t q b
  stands_in l e b h W own ty =
      sym (stands_test (module_of f) W (sub (under q) ((module_of f).term t)) (sub (under p) (entry_type f u)) r a ty
      ∙ ap₂ (λ (x y : Bool). (x && y) && in_page (flat (module_of f) (sub (under {k = live} p) (entry_type f u))) (a % page_bytes) (flat (module_of f) (sub (under q) ((module_of f).term t))))
      (lt-ltb (a / page_bytes) pages (omega arith)) (eq-eqb (W.owner (a / page_bytes)) (suc r) (own ∙ e))
      ∙ sym h.1)

-- ---- untyped pointers

-- for every file and every heap typing in which the page of a has this owner, and the region the type that entry u says
abbrev pub UntypedIs : ℕ → ℕ → ℕ → ℕ → ℕ → Bool → Type 0
UntypedIs r owner u a size b =
    (W : HeapTyping) (f p : Bytes) → W.owner (a / page_bytes) ≡ owner → W.type r ≡ sub (under p) (entry_type f u) → b ≡ does (dec_in_untyped W size r a)

module _ (r owner u a size : ℕ) where
  pub untyped_far : memory_bytes ≤ a → UntypedIs r owner u a size false
  untyped_far h W f p own ty = sym (false_by (λ e. let w = (does_true (dec_in_untyped W size r a) e).inside in omega arith))

  pub untyped_other : (owner ≡ suc r → ⊥) → UntypedIs r owner u a size false
  untyped_other h W f p own ty = sym (false_by (λ e. h (sym own ∙ (does_true (dec_in_untyped W size r a) e).own)))

  pub untyped_typed : (u ≡ untyped_mark → ⊥) → UntypedIs r owner u a size false
  untyped_typed h W f p own ty = sym (false_by (λ e.
      entry_form f u h (sym (form_sub (under {k = live} p) (entry_type f u)) ∙ ap form (sym ty ∙ (does_true (dec_in_untyped W size r a) e).untyped))))

  pub untyped_in : a < memory_bytes → owner ≡ suc r → u ≡ untyped_mark → UntypedIs r owner u a size (leb (a % page_bytes + size) page_bytes)
  untyped_in l e z W f p own ty = bool_same (leb (a % page_bytes + size) page_bytes) (does (dec_in_untyped W size r a))
      (λ h. true_does (dec_in_untyped W size r a) (record {
        inside = omega arith;
        own = own ∙ e;
        untyped = ty ∙ ap (sub (under p)) (entry_bytes f u z) ∙ (unfold sub in refl);
        fits = leb-true (a % page_bytes + size) page_bytes h;
      }))
      (λ h. le-leb (a % page_bytes + size) page_bytes (does_true (dec_in_untyped W size r a) h).fits)
