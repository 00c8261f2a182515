-- Document 02, P1, of a step by a safe effect: what is handed out was free, is used from then on and all zeros, and the register has its
-- address; what is cleared are the places that are handed out or the page that is granted, so no other free object's bytes change but by a
-- store, and a used one's by a store alone; and a used object stays so until a free or a return. Assumes nothing.
use Rattle.std.specs.Prelude.{◌≡◌, refl, Bool, true, false, cond, ◌⊎◌, ◌≢◌, ℕ, suc, ◌+◌, ◌*◌, ◌-◌, ◌<◌, ◌≤◌}
use Rattle.std.proofs.Common.{sym, ap, ap₂, ◌∙◌, subst, inl, inr, mul-le-mul_left, mul-le-mul_right, arith}
use Rattle.std.proofs.Math.Decide.{ℕ_discrete, dec_lt, dec_le}
use Rattle.words.specs.Bytes.{byte_at}
use Rattle.words.specs.Decide.{dec_both}
use Rattle.rules.specs.Limits.{page_bytes, memory_bytes}
use Rattle.rules.specs.Module.{Module}
use Rattle.rules.specs.Flat.{size}
use Rattle.rules.specs.State.{View, view, memory_place}
use Rattle.rules.specs.Heap.{type_of}
use Rattle.rules.specs.Step.{Effect, assign, fetch, save, take_places, grant_page, free_place, go_to, emit, push, pop, finish, stop, stuck, closes}
use Rattle.rules.specs.Footprint.{Span, footprint, Within}
use Rattle.rules.specs.Run.{Step, state_after}
use Rattle.rules.specs.SafeStep.{InObject, Changes, place_bytes, InPlace, HandsOut, place, page, Taken, NewTaken, Differs, NewZero, FreeKept, UsedKept, UsedStays}
use Rattle.state.specs.Update.{upd2, upd2_same, upd2_cases, set_marks_cases, set_marks_in}
use Rattle.state.specs.Apply.{apply}
use Rattle.state.specs.Touched.{clear_of, by_take, by_grant}
use Rattle.soundness.specs.Good.{Good}
use Rattle.soundness.specs.Safe.{SafeTake, SafeGrant, Safe}

dec_within : (s : Span) (i : ℕ) → Dec (Within s i)
dec_within s i = dec_both (dec_le s.from i) (dec_lt i (s.from + s.bytes))

-- ---- places

-- an object of page p that has an address of page q
same_page : (s i p j q : ℕ) → InObject i p j s → page_bytes * q ≤ i → i < page_bytes * q + page_bytes → p ≡ q
same_page s i p j q h low high = omega (arith, h.low, h.high, h.whole, low, high)

-- an address in place j of a page, and in c places of the same size from place q on: place j is one of them
one_of : (s i p j q c : ℕ) → InObject i p j s → page_bytes * p + s * q ≤ i → i < page_bytes * p + s * q + s * c → (q ≤ j) × (j < q + c)
one_of s i p j q c h low high = go (dec_lt j q) (dec_lt j (q + c))
  where
    go : Dec (j < q) → Dec (j < q + c) → (q ≤ j) × (j < q + c)
    go (yes l) _ = absurd (omega (arith, h.high, low, mul-le-mul_left s l))
    go (no n) (yes l) = (omega arith, l)
    go (no n) (no l) = let past : q + c ≤ j = omega arith in absurd (omega (arith, h.low, high, mul-le-mul_left s past))

-- a place with an address has one of a page's marks
marked_place : (s i p j : ℕ) → InObject i p j s → j < page_bytes
marked_place s i p j h =
    let some : 0 < s = omega (arith, h.low, h.high) in
    let one : 1 * suc j ≤ s * suc j = mul-le-mul_right (suc j) some in
    omega (arith, h.whole, one)

-- ---- of a safe effect of top frame k

module _ (m : Module) (v : View) (k : ℕ) (frame : v.frames ≡ suc k) where
  -- a place that is handed out has the bytes of its page's objects
  taken_size : (p j c n a : ℕ) → SafeTake m v k p j c n a → place_bytes m v (v.owner p) ≡ n
  taken_size p j c n a f = ap (place_bytes m v) f.own ∙ ap (λ (x : ℕ). size m (type_of m v.fn v.map x f.region)) frame ∙ sym f.size

  -- what is cleared is handed out
  cleared_handed : (e : Effect) → Safe m v k e → (p j i : ℕ) → InPlace m v p j i → Within (footprint e).clears i → HandsOut e p j
  cleared_handed e f p j i h w = elim (clear_of e i w) [
    | by_take q o c n a d u ↦
        let t : SafeTake m v k q o c n a = subst (λ (x : Effect). Safe m v k x) d f in
        let at : p ≡ q = same_page _ i p j q h.inside (omega (arith, u)) (omega (arith, u, t.fits)) in
        let inside : InObject i q j n = subst (λ (s : ℕ). InObject i q j s) (taken_size q o c n a t) (subst (λ (x : ℕ). InObject i x j (place_bytes m v (v.owner x))) at h.inside) in
        let one = one_of n i q j o c inside u.0 u.1 in
        place o c n a (d ∙ sym (ap (λ (x : ℕ). take_places x o c n a) at)) one.0 one.1
    | by_grant q r c a d u ↦ page r c a (d ∙ sym (ap (λ (x : ℕ). grant_page x r c a) (same_page _ i p j q h.inside u.0 u.1)))
  ]

  -- what is handed out is cleared
  handed_cleared : (e : Effect) → Safe m v k e → (p j i : ℕ) → InPlace m v p j i → HandsOut e p j → Within (footprint e).clears i
  handed_cleared e f p j i h (place q c n a d l u) =
      let t : SafeTake m v k p q c n a = subst (λ (x : Effect). Safe m v k x) d f in
      let inside : InObject i p j n = subst (λ (s : ℕ). InObject i p j s) (taken_size p q c n a t) h.inside in
      subst (λ (x : Effect). Within (footprint x).clears i) (sym d) (omega (arith, inside.low, mul-le-mul_left n l), omega (arith, inside.high, mul-le-mul_left n u))
  handed_cleared e f p j i h (page r c a d) =
      subst (λ (x : Effect). Within (footprint x).clears i) (sym d) (omega (arith, h.inside.low), omega (arith, h.inside.high, h.inside.whole))

  -- what is handed out was not used
  handed_unused : Good m v (suc k) → (e : Effect) → Safe m v k e → (p j i : ℕ) → InPlace m v p j i → HandsOut e p j → v.mark p j ≡ 0
  handed_unused g e f p j i h (place q c n a d l u) =
      let at : q + (j - q) ≡ j = omega arith in
      ap (v.mark p) (sym at) ∙ (subst (λ (x : Effect). Safe m v k x) d f).unused (j - q) (omega arith)
  handed_unused g e f p j i h (page r c a d) = g.marks p h.page j (marked_place _ i p j h.inside) (subst (λ (x : Effect). Safe m v k x) d f).unowned

-- ---- marks

-- a return's: the page is closed, or all stays
closed_mark_law : {A : Type 0} (b : Bool) (x o : ℕ) → x ≢ 0 → (cond b 0 x ≢ 0) ⊎ (A ⊎ (cond b 0 o ≡ 0))
closed_mark_law true x o h = inr (inr refl)
closed_mark_law false x o h = inl h

-- a mark is taken away by a free of its place, or by a return that unowns its page
marks_stay : (m : Module) (v : View) (k : ℕ) (e : Effect) (p j : ℕ) → v.mark p j ≢ 0
    → ((apply m k e v).mark p j ≢ 0) ⊎ ((e ≡ free_place p j) ⊎ ((apply m k e v).owner p ≡ 0))
marks_stay m v k (assign a x) p j h = inl h
marks_stay m v k (fetch b a x w) p j h = inl h
marks_stay m v k (save b x w y) p j h = inl h
marks_stay m v k (take_places q o c n a) p j h = inl (set_marks_cases (λ (x : ℕ). x ≢ 0) v.mark q o c p j (λ d l u e. omega arith) h)
marks_stay m v k (grant_page q r c a) p j h = inl (set_marks_cases (λ (x : ℕ). x ≢ 0) v.mark q 0 c p j (λ d l u e. omega arith) h)
marks_stay m v k (free_place q o) p j h = go (ℕ_discrete p q) (ℕ_discrete j o)
  where
    kept : (p ≡ q → j ≡ o → ⊥) → upd2 v.mark q o 0 p j ≢ 0
    kept n = upd2_cases (λ (x : ℕ). x ≢ 0) v.mark q o 0 p j (λ d c e. n d c) h

    go : Dec (p ≡ q) → Dec (j ≡ o) → (upd2 v.mark q o 0 p j ≢ 0) ⊎ ((free_place q o ≡ free_place p j) ⊎ (v.owner p ≡ 0))
    go (yes d) (yes c) = inr (inl (ap₂ free_place (sym d) (sym c)))
    go (yes d) (no n) = inl (kept (λ _ c. n c))
    go (no n) _ = inl (kept (λ d _. n d))
marks_stay m v k (go_to d) p j h = inl h
marks_stay m v k (emit x) p j h = inl h
marks_stay m v k (push g μ ρ) p j h = inl h
marks_stay m v k (pop c a x) p j h = closed_mark_law (closes m v k p) (v.mark p j) (v.owner p) h
marks_stay m v k (finish x) p j h = closed_mark_law (closes m v k p) (v.mark p j) (v.owner p) h
marks_stay m v k (stop n) p j h = inl h
marks_stay m v k stuck p j h = inl h

-- ---- of a step: one field of SafeStep each

module _ (m : Module) (t : Step) (frame : (view t.state).frames ≡ suc t.top) (safe : Safe m (view t.state) t.top t.effect)
    (good : Good m (view t.state) (suc t.top)) where
  -- what is handed out is safe, and so is the view after it
  module _ (after : view (state_after m t) ≡ apply m t.top t.effect (view t.state)) where
    place_taken : (p j c n a : ℕ) → t.effect ≡ take_places p j c n a → Taken m t p j c a
    place_taken p j c n a d =
        let v : View = view t.state in
        let f : SafeTake m (view t.state) t.top p j c n a = subst (λ (x : Effect). Safe m (view t.state) t.top x) d safe in
        let is : view (state_after m t) ≡ apply m t.top (take_places p j c n a) (view t.state) = after ∙ ap (λ (x : Effect). apply m t.top x (view t.state)) d in
        record {
          count = f.count;
          free = f.unused;
          used = λ i l z. let y : ◌≡◌ {A = ℕ} 1 0 = sym (set_marks_in v.mark p j c (j + i) (omega arith) (omega arith)) ∙ ap (λ (u : View). u.mark p (j + i)) (sym is) ∙ z in omega arith;
          address =
              ap (λ (u : View). u.reg t.top a) is
              ∙ upd2_same v.reg t.top a (page_bytes * p + n * j)
              ∙ ap (λ (x : ℕ). page_bytes * p + x * j) (sym (taken_size m v t.top frame p j c n a f));
        }

    page_taken : (p r c a : ℕ) → t.effect ≡ grant_page p r c a → Taken m t p 0 c a
    page_taken p r c a d =
        let v : View = view t.state in
        let f : SafeGrant m (view t.state) t.top p r c a = subst (λ (x : Effect). Safe m (view t.state) t.top x) d safe in
        let is : view (state_after m t) ≡ apply m t.top (grant_page p r c a) (view t.state) = after ∙ ap (λ (x : Effect). apply m t.top x (view t.state)) d in
        record {
          count = f.count;
          free = λ i l. good.marks p f.inside (0 + i) (omega (arith, f.places)) f.unowned;
          used = λ i l z. let y : ◌≡◌ {A = ℕ} 1 0 = sym (set_marks_in v.mark p 0 c (0 + i) (omega arith) (omega arith)) ∙ ap (λ (u : View). u.mark p (0 + i)) (sym is) ∙ z in omega arith;
          address = ap (λ (u : View). u.reg t.top a) is ∙ upd2_same v.reg t.top a (page_bytes * p) ∙ omega arith;
        }

    pub new_taken : NewTaken m t
    new_taken = record { place = place_taken; page = page_taken }

    pub used_stays : UsedStays m t
    used_stays p j h =
        subst (λ (u : View). (u.mark p j ≢ 0) ⊎ ((t.effect ≡ free_place p j) ⊎ (u.owner p ≡ 0))) (sym after) (marks_stay m (view t.state) t.top t.effect p j h)

  in_pages : (p j i : ℕ) → InPlace m (view t.state) p j i → i < memory_bytes
  in_pages p j i h = omega (arith, h.page, h.inside.high, h.inside.whole)

  pub new_zero : ((i : ℕ) → i < memory_bytes → Within (footprint t.effect).clears i → byte_at (state_after m t) (memory_place i) ≡ 0) → NewZero m t
  new_zero clears p j i h o = clears i (in_pages p j i h) (handed_cleared m (view t.state) t.top frame t.effect safe p j i h o)

  module _ (keeps : (i : ℕ) → i < memory_bytes → ¬ Changes t.effect i → byte_at (state_after m t) (memory_place i) ≡ byte_at t.state (memory_place i)) where
    -- a byte of any place that differs is stored to, or the place is handed out
    changed : (p j i : ℕ) → InPlace m (view t.state) p j i → Differs m t i → Within (footprint t.effect).stores i ⊎ HandsOut t.effect p j
    changed p j i h d = go (dec_within (footprint t.effect).stores i) (dec_within (footprint t.effect).clears i)
      where
        go : Dec (Within (footprint t.effect).stores i) → Dec (Within (footprint t.effect).clears i) → Within (footprint t.effect).stores i ⊎ HandsOut t.effect p j
        go (yes w) _ = inl w
        go (no a) (yes w) = inr (cleared_handed m (view t.state) t.top frame t.effect safe p j i h w)
        go (no a) (no b) = absurd (d (keeps i (in_pages p j i h) (λ c. elim c [ inl x ↦ a x | inr x ↦ b x ])))

    pub free_kept : FreeKept m t
    free_kept p j i h u d = changed p j i h d

    pub used_kept : UsedKept m t
    used_kept p j i h u d = elim (changed p j i h d) [
      | inl w ↦ w
      | inr o ↦ absurd (u (handed_unused m (view t.state) t.top frame good t.effect safe p j i h o))
    ]
