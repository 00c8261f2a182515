-- The primitives of owned pages, from tests of one primitive at a time: region by region, position by position, page by page, place by
-- place. A position has the same term in each place of its region's pages, so that it is found once for all of them. Assumes nothing.
use Rattle.std.specs.Prelude.{◌≡◌, None, refl, Bool, true, not, List, ◌≢◌, ◌⊎◌, eqb}
use Rattle.std.proofs.Math.Path.{sym, ap, subst}
use Rattle.std.proofs.Common.{◌∙◌, inl, inr, ⊎_elim, mul-suc}
use Prim.Native.Nat.{ℕ, zero, suc, ◌+◌, ◌-◌, ◌*◌, ◌<◌, ◌≤◌}
use Rattle.std.proofs.Math.Decide.{ℕ_discrete}
use native.Mathlib.Omega.{arith}
use Rattle.words.specs.Bytes.{Bytes, AllBytes}
use Rattle.words.specs.Choose.{lt_or_le}
use Rattle.words.specs.Decide.{none, more}
use Rattle.rules.specs.Limits.{pages, page_bytes}
use Rattle.rules.specs.File.{untyped_mark}
use Rattle.rules.specs.Types.{variable, live, Variable, Region, Tree, int, ptr, arr, struct, raw_ptr, bytes, form, sub, Primitive as IsPrimitive}
use Rattle.rules.specs.Flat.{Placed, at, off, type, Has, Layout, count, flat, flat_with, size, sub_layout}
use Rattle.rules.specs.Decode.{module_of}
use Rattle.rules.specs.State.{view, page_owner, frame_map, memory_number}
use Rattle.rules.specs.Heap.{close}
use Rattle.rules.specs.StateTest.{PrimitiveOk, PageOk}
use Rattle.layout.specs.Lists.{each_at}
use Rattle.layout.specs.Prims.{nth, count_sub, at_has}
use Rattle.layout.specs.Flat.{flat_has_prim, size_sub}
use Rattle.terms.specs.Heads.{place_of, tree_at}
use Rattle.terms.specs.HeadLaws.{place_in_law, place_out, place_le}
use Rattle.terms.specs.ExtentLaws.{module_term}
use Rattle.terms.specs.Readers.{entry_term, entry_bytes}
use Rattle.terms.specs.Compare.{under}
use Rattle.terms.specs.declared.Extent.{Extent}
use Rattle.positions.specs.declared.Primitive.{Primitive}
use Rattle.positions.specs.Table.{Table, term_layout, exact_of}
use Rattle.positions.specs.TableLaws.{layout_term}
use Rattle.positions.specs.Positions.{Keeps, Agree, Found, keeps_held}
use Rattle.positions.specs.Distances.{found_nth, layout_under}
use Rattle.positions.specs.Maps.{each_of, Narrow, map_list}
use Rattle.stack.specs.Tells.{Tells, tells_map, tells_yes, tells_not, tells_eq}
use Rattle.objects.specs.Homes.{region_tree, HomeIs, StandsAt}
use Rattle.marks.specs.Ends.{PlacesIn}
use Rattle.objects.specs.declared.Home.{Home}
use Rattle.registers.specs.Value.{map_short, type_is, type_some}
use Rattle.values.specs.Memory.{Points, PrimitiveAt, primitive_same, integer_at}
use Rattle.values.specs.Passes.{AllPrimitives}
use Rattle.values.specs.declared.pages.Objects.{Objects}

-- ---- page p, of n frames: the type of its objects, and each primitive of them

abbrev pub page_tree : Bytes → Bytes → ℕ → ℕ → Tree live
page_tree f s n p = region_tree f s n (page_owner s p - 1)

pub record PagePrimitives (f s : Bytes) (n p : ℕ) : Type 0 where
  pub is : PageOk (module_of f) (view s) n p ((view s).owner p)

-- objects have size z, and the primitive at distance d of each has term t under `to`: that of the object at place j, if there is
-- such a place
pub record PlaceOk (f s : Bytes) (n p z : ℕ) (to : Bytes) (t d j : ℕ) : Type 0 where
  pub is : z * suc j ≤ page_bytes → PrimitiveAt f s n to t (page_bytes * p + (z * j + d))

-- primitive i of each object
pub record PositionOk (f s : Bytes) (n p i : ℕ) : Type 0 where
  pub is : (j : ℕ) → j < page_bytes → size (module_of f) (page_tree f s n p) * suc j ≤ page_bytes
      → PrimitiveOk (module_of f) (view s) n p (flat (module_of f) (page_tree f s n p)) j (nth (flat (module_of f) (page_tree f s n p)) i)

-- ---- what is found once a page

-- o is what the objects of page p are: the term at its place, with regions put in
pub record ObjectsAre (f s : Bytes) (n p terms structs : ℕ) (o : Objects) : Type 0 where
  pub low : o.place ≤ terms
  pub keeps : Keeps o.to
  pub size : o.size ≡ size (module_of f) (page_tree f s n p)
  pub count : o.count ≡ count (term_layout f structs o.place)
  pub few : o.count ≤ 257
  pub layout : flat (module_of f) (page_tree f s n p) ≡ sub_layout (under {k = live} o.to) (term_layout f structs o.place)

pub objects_are : {f s : Bytes} {n p terms structs a : ℕ} {tab : List ℕ} {h : Home} {map to : Bytes} {e : Extent} → Table f terms structs tab → Narrow f
    → StandsAt f s n (page_owner s p - 1) h → h.entry ≢ untyped_mark → a ≡ place_of terms h.entry → map ≡ map_list s h.frame → Agree to map
    → e ≡ exact_of (flat (module_of f) ((module_of f).term h.entry)) → e.count ≤ 257
    → ObjectsAre f s n p terms structs (record { place = a; to = to; size = e.size; count = e.count })
objects_are {f} {s} {n} {p} {terms} {structs} {a} {tab} {h} {map} {to} {e} table narrow home typed ea em agree ee few =
    let T : Tree variable = (module_of f).term h.entry in
    let keeps : Keeps to = keeps_held to map (map_short s h.frame em) agree in
    let tree : page_tree f s n p ≡ sub (under {k = live} map) T =
    sym (type_is f s n (page_owner s p - 1)) ∙ type_some home narrow em ∙ ap (sub (under {k = live} map)) (entry_term f h.entry typed) in
    record {
      low = rw ea (place_le terms h.entry);
      keeps = keeps;
      size = ap (λ (x : Extent). x.size) ee ∙ sym (ap (size (module_of f)) tree ∙ size_sub (under {k = live} map) (module_of f) T);
      count = ap (λ (x : Extent). x.count) ee ∙ ap (λ (L : Layout variable). count L) (sym (ap (term_layout f structs) ea ∙ layout_term f terms structs table.counted h.entry));
      few = few;
      layout = ap (flat (module_of f)) tree ∙ sym (layout_under live f terms structs table.counted h.entry map to keeps agree)
          ∙ ap (λ (x : ℕ). sub_layout (under {k = live} to) (term_layout f structs x)) (sym ea);
    }

-- the number of a place
pub place_some : (n p : ℕ) → p ≤ n → p ≢ 0 → place_of n (p - 1) ≡ p
place_some n p l d = let q : suc (p - 1) ≡ p = omega (arith, d) in place_in_law n (p - 1) (omega (arith, d)) ∙ q

pub place_none : (n p : ℕ) → p ≡ 0 → place_of n n ≡ p
place_none n p e = place_out n n (omega arith) ∙ sym e

-- ---- place by place

-- a place that there is starts in the page
pub place_few : (z j : ℕ) → z * suc j ≤ page_bytes → z * j ≤ page_bytes
place_few z j h = let m = mul-suc z j in omega arith

module _ {f s : Bytes} {n p z : ℕ} {to : Bytes} {t d : ℕ} where
  pub place_by : {j : ℕ} {b : Bool} {x : ℕ} → z * suc j ≤ page_bytes → x ≡ page_bytes * p + (z * j + d) → Tells b (PrimitiveAt f s n to t x) → Tells b (PlaceOk f s n p z to t d j)
  place_by {j} h e u = tells_map (λ w. record { is = λ l. rw e at w }) (λ w. rw e (w.is h)) u

  -- past the last place
  pub places_ended : {many i : ℕ} → PlacesIn z many → ((j : ℕ) → j < i → PlaceOk f s n p z to t d j) → many ≤ i → Tells true ((j : ℕ) → j < page_bytes → PlaceOk f s n p z to t d j)
  places_ended {many} {i} q w e =
      tells_yes (λ j h. ⊎_elim (w j) (λ l. record { is = λ k. absurd (let a = q.past j h (omega arith) in omega arith) }) (lt_or_le j i))

-- ---- position by position

form_pointer : (σ : Variable → Region live) (T : Tree variable) → form T ≢ 1 → IsPrimitive (sub σ T) → (form T ≡ 2) ⊎ (form T ≡ 11)
unfolding sub
form_pointer σ (int w) d h = absurd (d refl)
form_pointer σ (ptr U r) d h = inl refl
form_pointer σ (arr n U) d h = elim h [ ]
form_pointer σ (struct N rs) d h = elim h [ ]
form_pointer σ (raw_ptr n r) d h = inr refl
form_pointer σ bytes d h = elim h [ ]

module _ {f s : Bytes} {n p terms structs : ℕ} {o : Objects} (are : ObjectsAre f s n p terms structs o) {tab : List ℕ} (table : Table f terms structs tab) (i : ℕ) (r : Primitive)
    (found : Found f r o.to 0 (nth (term_layout f structs o.place) i)) (t : ℕ) (et : place_of terms t ≡ r.place) where
  primitive : at r.off (sub (under {k = live} r.to) ((module_of f).term t)) ≡ nth (flat (module_of f) (page_tree f s n p)) i
  primitive =
      ap (λ (T : Tree variable). at r.off (sub (under {k = live} r.to) T)) (module_term f terms table.counted.terms t ∙ ap (tree_at f) et)
      ∙ found_nth f r o.to (term_layout f structs o.place) i found live
      ∙ ap (λ (L : Layout live). nth L i) (sym are.layout)

  position_to : ((j : ℕ) → j < page_bytes → PlaceOk f s n p o.size r.to t r.off j) → PositionOk f s n p i
  position_to w =
      let z = are.size in
      record { is = λ j h l. subst (λ (q : Placed live). PrimitiveOk (module_of f) (view s) n p (flat (module_of f) (page_tree f s n p)) j q) primitive (rw z at ((w j h).is (rw z l))).is }

  position_back : PositionOk f s n p i → (j : ℕ) → j < page_bytes → PlaceOk f s n p o.size r.to t r.off j
  position_back w j h =
      let z = are.size in
      record { is = λ l. record { is = rw z (subst (λ (q : Placed live). PrimitiveOk (module_of f) (view s) n p (flat (module_of f) (page_tree f s n p)) j q) (sym primitive) (w.is j h (rw z at l))) } }

  -- the bytes of an integer hold one of its values
  position_integer : {kind : ℕ} → kind ≡ form ((module_of f).term t) → AllBytes s → kind ≡ 1 → PositionOk f s n p i
  position_integer ek all e = position_to (λ j h. record { is = λ l. integer_at all (sym ek ∙ e) })

  -- what is no integer is a pointer
  pub position_pointer : {kind : ℕ} → kind ≡ form ((module_of f).term t) → kind ≢ 1 → i < o.count → Points f t
  position_pointer ek d l =
      let c : o.count ≡ count (flat (module_of f) (page_tree f s n p)) =
      are.count ∙ sym (count_sub (under {k = live} o.to) (term_layout f structs o.place)) ∙ ap (λ (L : Layout live). count L) (sym are.layout) in
      form_pointer (under {k = live} r.to) ((module_of f).term t) (λ e. d (ek ∙ e))
      (flat_has_prim (module_of f) (page_tree f s n p)
      (subst (λ (q : Placed live). Has (flat (module_of f) (page_tree f s n p)).prims (off q) (type q)) (sym primitive) (at_has (flat (module_of f) (page_tree f s n p)).prims i (at 0 (int 0)) (omega arith))))

-- ---- page by page: those of one owner

-- what holds of page p's objects holds of those of every page with its owner
pub objects_at : {f s : Bytes} {n p q terms structs : ℕ} {o : Objects} → page_owner s q ≡ page_owner s p → ObjectsAre f s n p terms structs o → ObjectsAre f s n q terms structs o
objects_at {f} {s} {n} e are =
    let t : page_tree f s n _ ≡ page_tree f s n _ = ap (λ (x : ℕ). region_tree f s n (x - 1)) (sym e) in
    record {
      low = are.low;
      keeps = are.keeps;
      size = are.size ∙ ap (size (module_of f)) t;
      count = are.count;
      few = are.few;
      layout = ap (flat (module_of f)) (sym t) ∙ are.layout;
    }

-- each place of page q, if its owner is x
pub record OwnedPlaces (f s : Bytes) (n x z : ℕ) (to : Bytes) (t d q : ℕ) : Type 0 where
  pub is : page_owner s q ≡ x → (j : ℕ) → j < page_bytes → PlaceOk f s n q z to t d j

pub places_other : {f s : Bytes} {n x z : ℕ} {to : Bytes} {t d q o : ℕ} → o ≡ page_owner s q → o ≢ x → Tells true (OwnedPlaces f s n x z to t d q)
places_other e h = tells_yes (record { is = λ k. absurd (h (e ∙ k)) })

pub places_owned : {f s : Bytes} {n x z : ℕ} {to : Bytes} {t d q o : ℕ} {b : Bool} → o ≡ page_owner s q → o ≡ x
    → Tells b ((j : ℕ) → j < page_bytes → PlaceOk f s n q z to t d j) → Tells b (OwnedPlaces f s n x z to t d q)
places_owned e h u = tells_map (λ w. record { is = λ k. w }) (λ w. w.is (sym e ∙ h)) u

-- the same of another term, of the same type
pub places_same_law : {f s : Bytes} {n x z : ℕ} {to : Bytes} {t d : ℕ} {old : Bytes} {u : ℕ} {b : Bool} → sub (under {k = live} old) ((module_of f).term u) ≡ sub (under to) ((module_of f).term t)
    → Tells b ((q : ℕ) → q < pages → OwnedPlaces f s n x z old u d q) → Tells b ((q : ℕ) → q < pages → OwnedPlaces f s n x z to t d q)
places_same_law e v =
    tells_map (λ w q h. record { is = λ o j l. record { is = λ k. primitive_same e (((w q h).is o j l).is k) } })
    (λ w q h. record { is = λ o j l. record { is = λ k. primitive_same (sym e) (((w q h).is o j l).is k) } }) v

-- primitive i of each object of each page with page p's owner
pub record OwnedPosition (f s : Bytes) (n p i : ℕ) : Type 0 where
  pub is : (q : ℕ) → q < pages → page_owner s q ≡ page_owner s p → PositionOk f s n q i

module _ {f s : Bytes} {n p terms structs : ℕ} {o : Objects} (are : ObjectsAre f s n p terms structs o) {tab : List ℕ} (table : Table f terms structs tab) (i : ℕ) (r : Primitive)
    (found : Found f r o.to 0 (nth (term_layout f structs o.place) i)) (t : ℕ) (et : place_of terms t ≡ r.place) where
  pub owned_by : {b : Bool} {x : ℕ} → x ≡ page_owner s p → Tells b ((q : ℕ) → q < pages → OwnedPlaces f s n x o.size r.to t r.off q) → Tells b (OwnedPosition f s n p i)
  owned_by ex u =
      tells_map
      (λ w. record { is = λ q h e. position_to (objects_at e are) table i r found t et ((w q h).is (e ∙ sym ex)) })
      (λ w q h. record { is = λ e. position_back (objects_at (e ∙ ex) are) table i r found t et (w.is q h (e ∙ ex)) })
      u

  pub owned_integer : {kind : ℕ} → kind ≡ form ((module_of f).term t) → AllBytes s → kind ≡ 1 → Tells true (OwnedPosition f s n p i)
  owned_integer ek all k = tells_yes (record { is = λ q h e. position_integer (objects_at e are) table i r found t et ek all k })

-- ---- region by region: a page whose owner no page before it has stands for all pages of its owner

pub record Apart (s : Bytes) (x q : ℕ) : Type 0 where
  pub is : page_owner s q ≢ x

pub apart_by : {s : Bytes} {x q o : ℕ} → o ≡ page_owner s q → Tells (not (eqb o x)) (Apart s x q)
apart_by {s} {x} {q} {o} e = tells_map (λ w. record { is = λ k. w (e ∙ k) }) (λ w k. w.is (sym e ∙ k)) (tells_not (tells_eq o x))

pub record Leads (f s : Bytes) (n p : ℕ) : Type 0 where
  pub is : ((q : ℕ) → q < p → Apart s (page_owner s p) q) → (q : ℕ) → q < pages → page_owner s q ≡ page_owner s p → PagePrimitives f s n q

page_none : (f s : Bytes) (n p : ℕ) → page_owner s p ≡ 0 → PagePrimitives f s n p
unfolding view
page_none f s n p z = record { is = subst (λ (x : ℕ). PageOk (module_of f) (view s) n p x) (sym z) tt }

owned : (s : Bytes) (p : ℕ) → page_owner s p ≢ 0 → suc (page_owner s p - 1) ≡ page_owner s p
owned s p d = omega (arith, d)

module _ (f s : Bytes) (n p : ℕ) (d : page_owner s p ≢ 0) where
  -- a region that is not live has no bytes: nothing is asked of its pages
  page_dead : region_tree f s n (page_owner s p - 1) ≡ int 0 → PagePrimitives f s n p
  unfolding view flat flat_with memory_number
  page_dead e =
      let z : 0 < 1 = omega arith in
      record { is = subst (λ (x : ℕ). PageOk (module_of f) (view s) n p x) (owned s p d) (rw e (λ j h l. more z none)) }

  -- nor of those of an untyped region
  page_untyped : region_tree f s n (page_owner s p - 1) ≡ bytes → PagePrimitives f s n p
  unfolding view flat flat_with
  page_untyped e = record { is = subst (λ (x : ℕ). PageOk (module_of f) (view s) n p x) (owned s p d) (rw e (λ j h l. none)) }

  module _ {terms structs : ℕ} {a : Objects} (are : ObjectsAre f s n p terms structs a) where
    counted : a.count ≡ count (flat (module_of f) (page_tree f s n p))
    counted =
        are.count ∙ sym (count_sub (under {k = live} a.to) (term_layout f structs a.place)) ∙ ap (λ (L : Layout live). count L) (sym are.layout)

    page_to : ((i : ℕ) → i < a.count → PositionOk f s n p i) → PagePrimitives f s n p
    unfolding view
    page_to w =
        let c = counted in
        record {
          is = subst (λ (x : ℕ). PageOk (module_of f) (view s) n p x) (owned s p d)
              (λ j h l. each_of (at 0 (int 0)) (flat (module_of f) (page_tree f s n p)).prims (λ i k. (w i (omega arith)).is j h l));
        }

    page_back : PagePrimitives f s n p → (i : ℕ) → i < a.count → PositionOk f s n p i
    unfolding view
    page_back w i k =
        let c = counted in
        record { is = λ j h l. each_at i (at 0 (int 0)) (omega arith) (subst (λ (x : ℕ). PageOk (module_of f) (view s) n p x) (sym (owned s p d)) w.is j h l) }

module _ {f s : Bytes} {n p o : ℕ} (eo : o ≡ page_owner s p) where
  pub leads_none : o ≡ 0 → Leads f s n p
  leads_none z = record { is = λ u q h e. page_none f s n q (e ∙ sym eo ∙ z) }

  pub leads_seen : ¬ ((q : ℕ) → q < p → Apart s o q) → Leads f s n p
  leads_seen seen = record { is = λ u. absurd (seen (rw eo u)) }

  pub leads_dead : o ≢ 0 → HomeIs f s n (o - 1) None → Leads f s n p
  leads_dead d w =
      record {
        is = λ u q h e.
            let eq : page_owner s q ≡ o = e ∙ sym eo in
            page_dead f s n q (λ k. d (sym eq ∙ k)) (ap (λ (x : ℕ). region_tree f s n (x - 1)) eq ∙ w);
      }

  pub leads_untyped : {h : Home} → o ≢ 0 → StandsAt f s n (o - 1) h → h.entry ≡ untyped_mark → Leads f s n p
  unfolding sub
  leads_untyped {h} d w b =
      record {
        is = λ u q l e.
            let eq : page_owner s q ≡ o = e ∙ sym eo in
            page_untyped f s n q (λ k. d (sym eq ∙ k))
            (ap (λ (x : ℕ). region_tree f s n (x - 1)) eq ∙ w.tree ∙ ap (close (frame_map s h.frame)) (entry_bytes f h.entry b));
      }

  pub leads_by : {terms structs : ℕ} {a : Objects} {b : Bool} → o ≢ 0 → p < pages → ((q : ℕ) → q < p → Apart s o q) → ObjectsAre f s n p terms structs a
      → Tells b ((i : ℕ) → i < a.count → OwnedPosition f s n p i) → Tells b (Leads f s n p)
  leads_by d l u are t =
      tells_map
      (λ w. record { is = λ v q h e. page_to f s n q (λ k. d (eo ∙ sym e ∙ k)) (objects_at e are) (λ i k. (w i k).is q h e) })
      (λ w i k. record { is = λ q h e. page_back f s n q (λ k. d (eo ∙ sym e ∙ k)) (objects_at e are) (w.is (rw (← eo) u) q h e) i k })
      t

-- the first page with owner x, of those before k
record First (s : Bytes) (x k : ℕ) : Type 0 where
  page : ℕ
  below : page < k
  has : page_owner s page ≡ x
  apart : (q : ℕ) → q < page → Apart s x q

first : (s : Bytes) (x k : ℕ) → First s x k ⊎ ((q : ℕ) → q < k → Apart s x q)
first s x zero = inr (λ q h. absurd (omega arith))
first s x (suc k) = go (first s x k) (ℕ_discrete (page_owner s k) x)
  where
    go : First s x k ⊎ ((q : ℕ) → q < k → Apart s x q) → Dec (page_owner s k ≡ x) → First s x (suc k) ⊎ ((q : ℕ) → q < suc k → Apart s x q)
    go (inl w) d = inl (record { page = w.page; below = (let l = w.below in omega arith); has = w.has; apart = w.apart })
    go (inr n) (yes e) = inl (record { page = k; below = omega arith; has = e; apart = n })
    go (inr n) (no d) = inr (λ q h. ⊎_elim (n q) (λ l. let e : q ≡ k = omega arith in rw e (record { is = d })) (lt_or_le q k))

led : {f s : Bytes} {n : ℕ} → ((p : ℕ) → p < pages → Leads f s n p) → (q : ℕ) → q < pages → PagePrimitives f s n q
led {f} {s} {n} w q l = go (first s (page_owner s q) (suc q))
  where
    go : First s (page_owner s q) (suc q) ⊎ ((z : ℕ) → z < suc q → Apart s (page_owner s q) z) → PagePrimitives f s n q
    go (inl a) = (w a.page (let b = a.below in omega arith)).is (rw a.has a.apart) q l (sym a.has)
    go (inr a) = absurd ((a q (omega arith)).is refl)

pub all_by : {f s : Bytes} {n : ℕ} {b : Bool} → n ≡ (view s).frames → Tells b ((p : ℕ) → p < pages → Leads f s n p) → Tells b (AllPrimitives f s)
all_by {f} {s} {n} e t =
    tells_map (λ w. record { each = λ p h. (led w p h).is }) (λ w p h. record { is = λ u q l k. record { is = w.each q l } }) (rw e at t)
