-- Laws of positions and runs: the first position at a distance; a run's primitives are the object's, o bytes further; runs
-- in runs, elements, equal primitives, runs under substitution, and that a run lies inside. What a law asks of the module stands
-- in `TypesOk` and `GoodTree`.
use Rattle.std.specs.Prelude.{◌≡◌, refl, ◌⊎◌, ◌≢◌, List, [], ◌∷◌, map, eqb, length, get_or, take, drop}
use Rattle.std.proofs.Math.Path.{sym, ap}
use Rattle.std.proofs.Common.{ap₂, ◌∙◌, subst, inl, inr, add-zero, add_assoc, not-suc-le-zero, le_of_suc-le-suc, length-take, length-drop, get_or-take, get_or-drop, get_or-append-add, ext_get_or}
use Rattle.std.proofs.Math.Bool.{Bool, not}
use Prim.Native.Nat.{ℕ, zero, suc, ◌+◌, ◌-◌, ◌*◌, ◌≤◌, ◌<◌}
use Rattle.std.proofs.Math.Nat.{mul-le-mul_right}
use native.Mathlib.Omega.{arith}
use Rattle.std.proofs.Math.ListN
use Rattle.std.proofs.Math.ListN.{length-map, get_or-append}
use Rattle.std.proofs.Math.Seq.{take-length}
use borrow.Author.Tests.{eqb-true, eq-eqb, ne_eqb, not-false}
use Rattle.words.specs.First.{first}
use Rattle.words.specs.FirstLaws.{first_before, first_is, first_fails, first_agree}
use Rattle.words.specs.Choose.{lt_or_le, true_not_false}
use Rattle.rules.specs.Limits.{size_limit}
use Rattle.rules.specs.Types.{RegionKind, Region, Tree, int, arr, width, sub, Primitive}
use Rattle.rules.specs.Module.{Module}
use Rattle.rules.specs.Flat.{Placed, at, off, type, Has, here, Layout, moved, packed, copies_of, placed_in, sub_layout, flat, size, count, distance, Run, RunAt, position_at, Same}
use Rattle.layout.specs.TypesOk.{GoodTree, TypesOk}
use Rattle.layout.specs.Lists.{each_at, get_d_map}
use Rattle.layout.specs.Prims.{moved_moved, moved_zero, moved_off, placed_off, placed_moved, has_moved, has_take, has_drop, at_has, nth, count_copies_of, copies_sized, count_sub}
use Rattle.layout.specs.Flat.{Ordered, ordered_flat, has_inside, flat_inside, flat_basic, basic_wide, PlainFields, Plain, distance_zero, filled_some, flat_arr, flat_prim, element_sized, flat_sub}

-- ---- positions

module _ {k : RegionKind} where
  -- of two primitives in order the later starts where the earlier has ended
  pub nth_apart : (a : ℕ) (l : List (Placed k)) (b : ℕ) (z : Placed k) → Ordered a l b → (i j : ℕ) → i < j → j < length l
      → off (get_or l i z) + width (type (get_or l i z)) ≤ off (get_or l j z)
  nth_apart a [] b z o i j h g = absurd (not-suc-le-zero g)
  nth_apart a (p ∷ l) b z o i zero h g = absurd (not-suc-le-zero h)
  nth_apart a (at d T ∷ l) b z o zero (suc j) h g = (has_inside (d + width T) l b o.2 (at_has l j z (le_of_suc-le-suc g))).0
  nth_apart a (at d T ∷ l) b z o (suc i) (suc j) h g = nth_apart (d + width T) l b z o.2 i j (le_of_suc-le-suc h) (le_of_suc-le-suc g)

  -- distances grow with positions
  abbrev pub Ascending : Layout k → Type 0
  Ascending L = (i j : ℕ) → i < j → j < count L → distance L i < distance L j

  abbrev pub Rising : Layout k → Type 0
  Rising L = (i j : ℕ) → i < j → j < count L → distance L i ≤ distance L j

  pub flat_rising : (m : Module) (T : Tree k) → Rising (flat m T)
  flat_rising m T i j h l = omega (arith, nth_apart 0 (flat m T).prims (size m T) (at 0 (int 0)) (ordered_flat m T) i j h l)

  module _ (m : Module) (ok : TypesOk m) (T : Tree k) (g : GoodTree m T) where
    pub flat_ascending : Ascending (flat m T)
    flat_ascending i j h l =
        let wide = basic_wide (each_at i (at 0 (int 0)) (omega arith) (flat_basic m ok T g)) in
        omega (arith, nth_apart 0 (flat m T).prims (size m T) (at 0 (int 0)) (ordered_flat m T) i j h l, wide)

  module _ (L : Layout k) where
    -- the position found is at the distance asked for
    pub position_distance : (o : ℕ) → position_at L o < count L → distance L (position_at L o) ≡ o
    unfolding position_at
    position_distance o h =
        let t : ℕ → Bool = λ q. not (eqb (distance L q) o) in
        eqb-true (distance L (position_at L o)) o (not-false (eqb (distance L (position_at L o)) o) (first_fails (count L) t h))

    -- none before it is
    pub position_before : (o j : ℕ) → j < position_at L o → distance L j ≢ o
    unfolding position_at
    position_before o j h e =
        true_not_false (first_before (count L) (λ q. not (eqb (distance L q) o)) j h) (ap not (eq-eqb (distance L j) o e))

    pub position_is : (o q : ℕ) → q < count L → ((j : ℕ) → j < q → distance L j ≢ o) → distance L q ≡ o → position_at L o ≡ q
    unfolding position_at
    position_is o q h before e =
        first_is (count L) (λ j. not (eqb (distance L j) o)) q (omega arith) (λ j l. ap not (ne_eqb (distance L j) o (before j l)))
        (λ l. ap not (eq-eqb (distance L q) o e))

    pub position_zero : 0 < count L → distance L 0 ≡ 0 → position_at L 0 ≡ 0
    position_zero h e = position_is 0 0 h (λ j l. absurd (not-suc-le-zero l)) e

-- ---- a run by its positions

-- primitive i of M is primitive q + i of L, with distances taken from the one at q
pub record Matches {k : RegionKind} (L : Layout k) (q : ℕ) (M : Layout k) : Type 0 where
  pub some : 0 < count M
  pub room : q + count M ≤ count L
  pub each : (i : ℕ) → i < count M → nth L (q + i) ≡ moved (distance L q) (nth M i)

module _ {k : RegionKind} (L : Layout k) (q : ℕ) (M : Layout k) where
  pub run_room : Run L q M → q + count M ≤ count L
  run_room r =
      let e : length (take (count M) (drop q L.prims)) ≡ count M = ap length r.equal ∙ length-map M.prims (moved (distance L q)) in
      omega (arith, r.some, e, length-take (count M) (drop q L.prims), length-drop q L.prims)

  pub run_matches : Run L q M → Matches L q M
  run_matches r = record {
    some = r.some;
    room = run_room r;
    each = λ i h.
        let z : Placed k = at 0 (int 0) in
        sym (get_or-drop q L.prims i z) ∙ sym (get_or-take (count M) (drop q L.prims) i z h) ∙ ap (λ (l : List (Placed k)). get_or l i z) r.equal
        ∙ get_d_map (moved (distance L q)) M.prims i z z h;
  }

  pub matches_run : Matches L q M → Run L q M
  matches_run r =
      let z : Placed k = at 0 (int 0) in
      let long : length (take (count M) (drop q L.prims)) ≡ count M = omega (arith, r.room, length-take (count M) (drop q L.prims), length-drop q L.prims) in
      record {
        some = r.some;
        equal = ext_get_or z (take (count M) (drop q L.prims)) (map (moved (distance L q)) M.prims) (long ∙ sym (length-map M.prims (moved (distance L q))))
            (λ i h.
            let l : i < count M = omega (arith, long, h) in
            get_or-take (count M) (drop q L.prims) i z l ∙ get_or-drop q L.prims i z ∙ r.each i l ∙ sym (get_d_map (moved (distance L q)) M.prims i z z l));
      }

  pub run_distance : Run L q M → (i : ℕ) → i < count M → distance L (q + i) ≡ distance L q + distance M i
  run_distance r i h = ap off ((run_matches r).each i h) ∙ moved_off (distance L q) (nth M i)

  -- each primitive of M is one of L
  pub run_has_from : Run L q M → {d : ℕ} {T : Tree k} → Has M.prims d T → Has L.prims (distance L q + d) T
  run_has_from r {d} {T} h =
      has_drop q L.prims (has_take (count M) (drop q L.prims) (subst (λ (l : List (Placed k)). Has l (distance L q + d) T) (sym r.equal) (has_moved (distance L q) h)))

module _ {k : RegionKind} where
  -- a run in a run is a run
  pub run_run_from : (L M N : Layout k) (p q : ℕ) → Run L p M → Run M q N → Run L (p + q) N
  run_run_from L M N p q r s =
      let a = run_matches L p M r in
      let b = run_matches M q N s in
      matches_run L (p + q) N
      (record {
        some = b.some;
        room = omega (arith, a.room, b.room);
        each = λ i h.
            let l : q + i < count M = omega (arith, b.room, h) in
            let g : q < count M = omega (arith, b.room, h) in
            ap (nth L) (add_assoc p q i) ∙ a.each (q + i) l ∙ ap (moved (distance L p)) (b.each i h) ∙ moved_moved (distance L p) (distance M q) (nth N i)
            ∙ ap (λ (x : ℕ). moved x (nth N i)) (sym (run_distance L p M r q g));
      })

  -- ---- a run by its distance

  module _ (L : Layout k) (o : ℕ) (M : Layout k) (r : RunAt L o M) where
    pub run_at_distance : distance L (position_at L o) ≡ o
    run_at_distance = position_distance L o (omega (arith, run_room L (position_at L o) M r, r.some))

    -- each primitive of M is, o bytes further, one of L
    pub run_has : {d : ℕ} {T : Tree k} → Has M.prims d T → Has L.prims (o + d) T
    run_has {d} {T} h = subst (λ (x : ℕ). Has L.prims (x + d) T) run_at_distance (run_has_from L (position_at L o) M r h)

  -- where the distances of L do not fall and those of M grow, position q of M is q after the position of M
  pub position_in : (L : Layout k) → Rising L → (o : ℕ) (M : Layout k) → Ascending M → RunAt L o M → (q : ℕ) → q < count M
      → position_at L (o + distance M q) ≡ position_at L o + q
  position_in L rise o M up r q h =
      let room = run_room L (position_at L o) M r in
      let is : (i : ℕ) → i < count M → distance L (position_at L o + i) ≡ o + distance M i =
      λ i l. run_distance L (position_at L o) M r i l ∙ ap (λ (x : ℕ). x + distance M i) (run_at_distance L o M r) in
      position_is L (o + distance M q) (position_at L o + q) (omega arith)
      (λ j l e. go j l e is room (lt_or_le j (position_at L o))) (is q h)
    where
      go : (j : ℕ) → j < position_at L o + q → distance L j ≡ o + distance M q → ((i : ℕ) → i < count M → distance L (position_at L o + i) ≡ o + distance M i)
          → position_at L o + count M ≤ count L → (j < position_at L o) ⊎ (position_at L o ≤ j) → ⊥
      go j l e is room (inl b) =
          let top = run_at_distance L o M r in
          let low = rise j (position_at L o) b (omega arith) in
          position_before L o j b (omega arith)
      go j l e is room (inr b) =
          let back : position_at L o + (j - position_at L o) ≡ j = omega arith in
          let there = is (j - position_at L o) (omega arith) in
          let same : distance L j ≡ o + distance M (j - position_at L o) = ap (distance L) (sym back) ∙ there in
          omega (arith, up (j - position_at L o) q (omega arith) h, same)

  -- M stands o bytes into L, N at position q of M
  pub run_run : (L : Layout k) → Rising L → (o : ℕ) (M : Layout k) → Ascending M → (q : ℕ) (N : Layout k) → RunAt L o M → Run M q N → RunAt L (o + distance M q) N
  run_run L rise o M up q N r s =
      subst (λ (x : ℕ). Run L x N) (sym (position_in L rise o M up r q (omega (arith, run_room M q N s, s.some))))
      (run_run_from L M N (position_at L o) q r s)

  -- ---- elements of an array

  pub nth_left : (L M : Layout k) (i : ℕ) → i < count L → nth (packed L M) i ≡ nth L i
  nth_left L M i h = get_or-append L.prims (map (moved L.size) M.prims) (at 0 (int 0)) i h

  pub nth_right : (L M : Layout k) (i : ℕ) → i < count M → nth (packed L M) (count L + i) ≡ moved L.size (nth M i)
  nth_right L M i h = get_or-append-add L.prims (map (moved L.size) M.prims) i (at 0 (int 0)) ∙ get_d_map (moved L.size) M.prims i (at 0 (int 0)) (at 0 (int 0)) h

  -- copy i of primitive j
  pub nth_copies : (n : ℕ) (L : Layout k) (i j : ℕ) → i < n → j < count L → nth (copies_of n L) (i * count L + j) ≡ moved (i * L.size) (nth L j)
  unfolding copies_of
  nth_copies zero L i j h l = absurd (not-suc-le-zero h)
  nth_copies (suc n) L zero j h l =
      let e : 0 * count L + j ≡ j = omega arith in
      let f : 0 * L.size ≡ 0 = omega arith in
      ap (nth (packed L (copies_of n L))) e ∙ nth_left L (copies_of n L) j l ∙ sym (moved_zero (nth L j)) ∙ ap (λ (x : ℕ). moved x (nth L j)) (sym f)
  nth_copies (suc n) L (suc i) j h l =
      let e : suc i * count L + j ≡ count L + (i * count L + j) = omega arith in
      let f : L.size + i * L.size ≡ suc i * L.size = omega arith in
      let g : suc i * count L ≤ n * count L = mul-le-mul_right (count L) (le_of_suc-le-suc h) in
      let c = count_copies_of n L in
      ap (nth (packed L (copies_of n L))) e ∙ nth_right L (copies_of n L) (i * count L + j) (omega arith) ∙ ap (moved L.size) (nth_copies n L i j (le_of_suc-le-suc h) l)
      ∙ moved_moved L.size (i * L.size) (nth L j) ∙ ap (λ (x : ℕ). moved x (nth L j)) f

  module _ (n : ℕ) (L : Layout k) (i : ℕ) (h : i < n) (some : 0 < count L) (zero-first : distance L 0 ≡ 0) where
    distance_copies : distance (copies_of n L) (i * count L) ≡ i * L.size
    distance_copies =
        let e : i * count L + 0 ≡ i * count L = omega arith in
        ap (distance (copies_of n L)) (sym e) ∙ ap off (nth_copies n L i 0 h some) ∙ moved_off (i * L.size) (nth L 0) ∙ ap (λ (x : ℕ). i * L.size + x) zero-first ∙ add-zero (i * L.size)

    run_copies : Run (copies_of n L) (i * count L) L
    run_copies =
        let g : suc i * count L ≤ n * count L = mul-le-mul_right (count L) h in
        matches_run (copies_of n L) (i * count L) L
        (record {
          some = some;
          room = let c = count_copies_of n L in omega arith;
          each = λ j l. nth_copies n L i j h l ∙ ap (λ (x : ℕ). moved x (nth L j)) (sym distance_copies);
        })

  module _ (m : Module) (plain : PlainFields m) (n : ℕ) (T : Tree k) (p : Plain T) (i : ℕ) (h : i < n) (sized : size m (arr n T) ≤ size_limit) where
    array_is : flat m (arr n T) ≡ copies_of n (flat m T)
    array_is = flat_arr m n T ∙ copies_sized n (flat m T) (element_sized m n T sized)

    first_at_zero : distance (flat m T) 0 ≡ 0
    first_at_zero =
        let one : 1 * size m T ≤ n * size m T = mul-le-mul_right {m = 1} {n = n} (size m T) (omega arith) in
        let all = element_sized m n T sized in
        distance_zero m plain T p (omega arith)

    -- element i of an array stands at position i * count and distance i * size
    pub has_element : 0 < count (flat m T) → Run (flat m (arr n T)) (i * count (flat m T)) (flat m T)
    has_element some = subst (λ (L : Layout k). Run L (i * count (flat m T)) (flat m T)) (sym array_is) (run_copies n (flat m T) i h some first_at_zero)

    pub distance_element : 0 < count (flat m T) → distance (flat m (arr n T)) (i * count (flat m T)) ≡ i * size m T
    distance_element some = ap (λ (L : Layout k). distance L (i * count (flat m T))) array_is ∙ distance_copies n (flat m T) i h some first_at_zero

  -- ---- equal primitives

  pub same_sym : (L M : Layout k) → Same L M → Same M L
  same_sym L M s = record { some = subst (λ (l : List (Placed k)). 0 < length l) s.equal s.some; equal = sym s.equal }

  map_moved_zero : (l : List (Placed k)) → map (moved 0) l ≡ l
  map_moved_zero [] = refl
  map_moved_zero (p ∷ l) = cc (moved_zero p, map_moved_zero l)

  -- what has the same primitives stands at its start
  pub same_run : (L M : Layout k) → distance L 0 ≡ 0 → Same L M → RunAt L 0 M
  same_run L M e s =
      subst (λ (x : ℕ). Run L x M) (sym (position_zero L s.some e))
      (record {
        some = (same_sym L M s).some;
        equal = ap (take (count M)) s.equal ∙ take-length M.prims ∙ sym (map_moved_zero M.prims) ∙ ap (λ (x : ℕ). map (moved x) M.prims) (sym e);
      })

  -- ---- one primitive

  -- a run of a primitive is that primitive
  pub run_prim : (m : Module) (L : Layout k) (o : ℕ) (P : Tree k) → Primitive P → RunAt L o (flat m P) → Has L.prims o P
  run_prim m L o P p r =
      subst (λ (x : ℕ). Has L.prims x P) (add-zero o)
      (run_has L o (flat m P) r (subst (λ (M : Layout k). Has M.prims 0 P) (sym (flat_prim m P p)) here))

  -- ---- a run lies inside

  pub run_size : (m : Module) → PlainFields m → (T U : Tree k) → Plain U → (o : ℕ) → RunAt (flat m T) o (flat m U) → o + size m U ≤ size m T
  run_size m plain T U p o r = go (lt_or_le 0 (size m U))
    where
      go : (0 < size m U) ⊎ (size m U ≤ 0) → o + size m U ≤ size m T
      go (inl h) =
          let c = filled_some m plain U p r.some (size m U - 1) (omega arith) in
          omega (arith, c.high, flat_inside m T (run_has (flat m T) o (flat m U) r c.has))
      go (inr h) = omega (arith, flat_inside m T (run_has (flat m T) o (flat m U) r (at_has (flat m U).prims 0 (at 0 (int 0)) r.some)))

-- ---- substitution

module _ {j k : RegionKind} (σ : Region j → Region k) where
  pub nth_sub : (L : Layout j) (i : ℕ) → nth (sub_layout σ L) i ≡ placed_in σ (nth L i)
  unfolding sub_layout sub
  nth_sub L i = ListN.get_or-map (placed_in σ) L.prims i (at 0 (int 0))

  pub distance_sub : (L : Layout j) (q : ℕ) → distance (sub_layout σ L) q ≡ distance L q
  distance_sub L q = ap off (nth_sub L q) ∙ placed_off σ (nth L q)

  pub position_sub : (L : Layout j) (o : ℕ) → position_at (sub_layout σ L) o ≡ position_at L o
  unfolding position_at
  position_sub L o =
      ap (λ (n : ℕ). first n (λ q. not (eqb (distance (sub_layout σ L) q) o))) (count_sub σ L)
      ∙ first_agree (count L) (λ q. not (eqb (distance (sub_layout σ L) q) o)) (λ q. not (eqb (distance L q) o)) (λ q h. ap (λ (x : ℕ). not (eqb x o)) (distance_sub L q))

  -- a run stays one under a substitution of both sides
  pub run_sub_layout : (L : Layout j) (q : ℕ) (M : Layout j) → Run L q M → Run (sub_layout σ L) q (sub_layout σ M)
  run_sub_layout L q M r =
      let a = run_matches L q M r in
      matches_run (sub_layout σ L) q (sub_layout σ M)
      (record {
        some = omega (arith, a.some, count_sub σ M);
        room = omega (arith, a.room, count_sub σ L, count_sub σ M);
        each = λ i h.
            nth_sub L (q + i) ∙ ap (placed_in σ) (a.each i (omega (arith, h, count_sub σ M))) ∙ placed_moved σ (distance L q) (nth M i)
            ∙ ap₂ moved (sym (distance_sub L q)) (sym (nth_sub M i));
      })

  pub same_sub_layout : (L M : Layout j) → Same L M → Same (sub_layout σ L) (sub_layout σ M)
  unfolding sub_layout
  same_sub_layout L M s = record { some = omega (arith, s.some, length-map L.prims (placed_in σ)); equal = ap (map (placed_in σ)) s.equal }

  -- the same of trees
  module _ (m : Module) (ok : TypesOk m) (T U : Tree j) (g : GoodTree m T) (h : GoodTree m U) where
    pub run_sub : (q : ℕ) → Run (flat m T) q (flat m U) → Run (flat m (sub σ T)) q (flat m (sub σ U))
    run_sub q r = rw (flat_sub m ok σ T g, flat_sub m ok σ U h) (run_sub_layout (flat m T) q (flat m U) r)

    pub same_sub : Same (flat m T) (flat m U) → Same (flat m (sub σ T)) (flat m (sub σ U))
    same_sub s = rw (flat_sub m ok σ T g, flat_sub m ok σ U h) (same_sub_layout (flat m T) (flat m U) s)

  pub flat_distance_sub : (m : Module) → TypesOk m → (T : Tree j) → GoodTree m T → (q : ℕ) → distance (flat m (sub σ T)) q ≡ distance (flat m T) q
  flat_distance_sub m ok T g q = rw (flat_sub m ok σ T g) (distance_sub (flat m T) q)
