-- Each change of a state keeps it good: one lemma for each change of which the effects are made. Assumes nothing.
use Rattle.std.specs.Prelude.{◌≡◌, refl, ◌⊎◌, ◌≢◌, List, ℕ, suc, ◌+◌, ◌*◌, ◌<◌, ◌≤◌}
use Rattle.std.proofs.Common.{sym, ap, ◌∙◌, subst, inl, inr, ⊎_elim, not-suc-le-zero, mul-le-mul_left, arith}
use Rattle.std.proofs.Math.Nat.{suc_inj}
use Rattle.std.proofs.Math.Decide.{ℕ_discrete, dec_lt}
use Rattle.words.specs.Choose.{cond_no, came_no, cond_split}
use Rattle.rules.specs.Limits.{pages, page_bytes, most_frames, live_regions}
use Rattle.words.specs.Decide.{does_true, does_false}
use Rattle.rules.specs.Types.{variable, live, Variable, region, Tree, width, arg, Uses}
use Rattle.rules.specs.Module.{Module, regions, argument, call}
use Rattle.rules.specs.Flat.{size}
use Rattle.rules.specs.State.{InRange, View, memory_number}
use Rattle.rules.specs.Heap.{close, Local, Live, dec_local, live_list, type_of, HeapTyping, heap_typing, InUntyped, Value}
use Rattle.rules.specs.Step.{closes}
use Rattle.rules.specs.StateTest.{Chained, FramesOk}
use Rattle.soundness.specs.Fresh.{In}
use Rattle.layout.specs.Types.{close_agree, close_sub, sub_prim, Outer, outer_close, outer_all}
use Rattle.layout.specs.Flat.{flat_inside, flat_has_prim, SamePlace, Apart}
use Rattle.layout.specs.Heap.{Slot, Kept, value_keep, value_zero, value_bound, slots_apart, slot_inside, untyped_apart}
use Rattle.state.specs.Update.{upd, upd_same, upd_other, upd_cases, upd2_cases, set_marks_cases, stored, cleared, memory_number_stored, memory_number_stored_apart, memory_number_cleared, memory_number_cleared_apart}
use Rattle.state.specs.Apply.{wrote, moved, saved, marked, occupied, emptied, granted, pushed, closed, closed_owner, closed_mark}
use Rattle.soundness.specs.Facts.{ModuleOk}
use Rattle.soundness.specs.Good.{Good, type_of_agree, type_of_miss, CallRule, map_live, fresh_map, outer_page, live_in, live_more}

-- ---- frames that agree below n

pub live_agree : (m : Module) (fn gn : ℕ → ℕ) (map nap : ℕ → ℕ → ℕ) (n x : ℕ)
    → ((k : ℕ) → k < n → gn k ≡ fn k) → ((k : ℕ) → k < n → nap k ≡ map k) → Live m fn map n x → Live m gn nap n x
live_agree m fn gn map nap n x e d l = record { frame = l.frame; below = l.below; local = rw (e l.frame l.below, d l.frame l.below) l.local }

chained_agree : (m : Module) (fn pc gn qc : ℕ → ℕ) (map nap : ℕ → ℕ → ℕ) (k : ℕ)
    → gn k ≡ fn k → gn (suc k) ≡ fn (suc k) → qc k ≡ pc k → nap k ≡ map k → nap (suc k) ≡ map (suc k) → Chained m fn pc map k → Chained m gn qc nap k
chained_agree m fn pc gn qc map nap k e f q d c l =
    let s = l.caller.site in
    record {
      caller = record {
        known = rw e l.caller.known;
        inside = rw (e, q) l.caller.inside;
        site = record { result = s.result; callee = s.callee; regions = s.regions; arguments = s.arguments; is = rw (e, q) s.is };
      };
      callee = rw f l.callee;
      through = λ i h. rw (c, d) (l.through i (rw f at h));
    }

frames_agree : (m : Module) (fn pc gn qc : ℕ → ℕ) (map nap : ℕ → ℕ → ℕ) (n : ℕ)
    → ((k : ℕ) → k < n → gn k ≡ fn k) → ((k : ℕ) → k < n → qc k ≡ pc k) → ((k : ℕ) → k < n → nap k ≡ map k) → FramesOk m fn pc map n → FramesOk m gn qc nap n
frames_agree m fn pc gn qc map nap n e c d s = record {
  few = s.few;
  known = λ k h. rw (e k h) (s.known k h);
  stands = λ k h. rw (e k h, c k h) (s.stands k h);
  lowest = λ h. e 0 h ∙ s.lowest h;
  chain = λ k h.
      let here : k < n = omega arith in
      chained_agree m fn pc gn qc map nap k (e k here) (e (suc k) h) (c k here) (d k here) (d (suc k) h) (s.chain k h);
  different = λ k h i a j b f. rw (e k h, d k h) (s.different k h i (rw (e k h) at a) j (rw (e k h) at b) f);
  fresh = λ k h i a l.
      s.fresh k h i (rw (e k h) at a)
      (live_agree m gn fn nap map k (suc (map k ((m.function (fn k)).region_params + i))) (λ j b. sym (e j (omega arith))) (λ j b. sym (d j (omega arith))) (rw (e k h, d k h) at l));
  numbered = λ k h i a. rw (e k h, d k h) (s.numbered k h i (rw (e k h) at a));
}

frames_less : (m : Module) (fn pc : ℕ → ℕ) (map : ℕ → ℕ → ℕ) (k : ℕ) → FramesOk m fn pc map (suc k) → FramesOk m fn pc map k
frames_less m fn pc map k s = record {
  few = omega (arith, s.few);
  known = λ j h. s.known j (omega arith);
  stands = λ j h. s.stands j (omega arith);
  lowest = λ h. s.lowest (omega arith);
  chain = λ j h. s.chain j (omega arith);
  different = λ j h. s.different j (omega arith);
  fresh = λ j h. s.fresh j (omega arith);
  numbered = λ j h. s.numbered j (omega arith);
}

-- one frame more
frames_more : (m : Module) (fn pc : ℕ → ℕ) (map : ℕ → ℕ → ℕ) (n : ℕ) → FramesOk m fn pc map n → n < most_frames → 0 < n → fn n < m.functions → pc n < (m.function (fn n)).code_length
    → ((k : ℕ) → suc k ≡ n → Chained m fn pc map k)
    → ((i : ℕ) → i < (m.function (fn n)).locals → (j : ℕ) → j < (m.function (fn n)).locals → i ≢ j → map n ((m.function (fn n)).region_params + i) ≢ map n ((m.function (fn n)).region_params + j))
    → ((i : ℕ) → i < (m.function (fn n)).locals → ¬ Live m fn map n (suc (map n ((m.function (fn n)).region_params + i))))
    → ((i : ℕ) → i < (m.function (fn n)).locals → map n ((m.function (fn n)).region_params + i) < live_regions)
    → FramesOk m fn pc map (suc n)
frames_more m fn pc map n s few some known stands link different fresh numbered = record {
  few = few;
  known = λ k h. elim (ℕ_discrete k n) [ yes e ↦ rw e known | no d ↦ s.known k (omega arith) ];
  stands = λ k h. elim (ℕ_discrete k n) [ yes e ↦ rw e stands | no d ↦ s.stands k (omega arith) ];
  lowest = λ h. s.lowest some;
  chain = λ k h. elim (ℕ_discrete (suc k) n) [ yes e ↦ link k e | no d ↦ s.chain k (omega arith) ];
  different = λ k h. elim (ℕ_discrete k n) [ yes e ↦ rw e different | no d ↦ s.different k (omega arith) ];
  fresh = λ k h. elim (ℕ_discrete k n) [ yes e ↦ rw e fresh | no d ↦ s.fresh k (omega arith) ];
  numbered = λ k h. elim (ℕ_discrete k n) [ yes e ↦ rw e numbered | no d ↦ s.numbered k (omega arith) ];
}

-- ---- an instruction further, or elsewhere, in the top frame

frames_move : (m : Module) (fn pc : ℕ → ℕ) (map : ℕ → ℕ → ℕ) (k d : ℕ) → FramesOk m fn pc map (suc k) → d < (m.function (fn k)).code_length → FramesOk m fn (upd pc k d) map (suc k)
frames_move m fn pc map k d s h = record {
  few = s.few;
  known = s.known;
  stands = λ j l. upd_cases (λ (x : ℕ). x < (m.function (fn j)).code_length) pc k d j (λ e. rw e h) (λ e. s.stands j l);
  lowest = s.lowest;
  chain = λ j l. chained_agree m fn pc fn (upd pc k d) map map j refl refl (upd_other pc k d j (omega arith)) refl refl (s.chain j l);
  different = s.different;
  fresh = s.fresh;
  numbered = s.numbered;
}

pub good_moved : (m : Module) (v : View) (k d : ℕ) → Good m v (suc k) → d < (m.function (v.fn k)).code_length → Good m (moved k d v) (suc k)
good_moved m v k d g h = record {
  frames = frames_move m v.fn v.pc v.map k d g.frames h;
  in_range = g.in_range;
  owners = g.owners;
  marks = g.marks;
  registers = g.registers;
  slots = g.slots;
}

-- ---- 16 to 25: a register

pub good_wrote : (m : Module) (v : View) (k a x : ℕ) → Good m v (suc k) → suc (v.pc k) < (m.function (v.fn k)).code_length
    → Value m (heap_typing m v (suc k)) (close (v.map k) ((m.function (v.fn k)).register_type a)) x → Good m (wrote k a x v) (suc k)
good_wrote m v k a x g h y = record {
  frames = frames_move m v.fn v.pc v.map k (suc (v.pc k)) g.frames h;
  in_range = g.in_range;
  owners = g.owners;
  marks = g.marks;
  registers = λ j l b i.
      upd2_cases (λ (z : ℕ). Value m (heap_typing m v (suc k)) (close (v.map j) ((m.function (v.fn j)).register_type b)) z) v.reg k a x j b
      (λ e d. rw (e, d) y) (g.registers j l b i);
  slots = g.slots;
}

-- ---- 26: one primitive

pub good_saved : (m : Module) (v : View) (n x y : ℕ) (q : Tree live) → Good m v n → Slot m (heap_typing m v n) x q → Value m (heap_typing m v n) q y → Good m (saved x (width q) y v) n
good_saved m v n x y q g s h = record {
  frames = g.frames;
  in_range = g.in_range;
  owners = g.owners;
  marks = g.marks;
  registers = g.registers;
  slots = λ z t l. go z t l (slots_apart m (heap_typing m v n) x z q t s l);
}
  where
    go : (z : ℕ) (t : Tree live) → Slot m (heap_typing m v n) z t → SamePlace x q z t ⊎ Apart x q z t
        → Value m (heap_typing m v n) t (memory_number (stored v.memory x (width q) y) z (width t))
    go z t l (inl e) = rw (← e.place, ← e.tree, memory_number_stored v.memory x (width q) y (value_bound m (heap_typing m v n) q y h)) h
    go z t l (inr e) = rw (memory_number_stored_apart v.memory x (width q) y z (width t) e.gap) (g.slots z t l)

-- ---- 38: a byte of an untyped page

pub good_stored : (m : Module) (v : View) (n a o y c r : ℕ) → Good m v n → InUntyped (heap_typing m v n) c r a → o < c → Good m (saved (a + o) 1 y v) n
good_stored m v n a o y c r g u l = record {
  frames = g.frames;
  in_range = g.in_range;
  owners = g.owners;
  marks = g.marks;
  registers = g.registers;
  slots = λ x q s.
      rw (memory_number_stored_apart v.memory (a + o) 1 y x (width q) (⊎_elim (λ b. inl (omega arith)) (λ b. inr b) (untyped_apart m (heap_typing m v n) c r a o x q u l s))) (g.slots x q s);
}

-- ---- 28: a mark taken away

pub good_freed : (m : Module) (v : View) (n p j : ℕ) → Good m v n → Good m (marked p j 0 v) n
good_freed m v n p j g = record {
  frames = g.frames;
  in_range = g.in_range;
  owners = g.owners;
  marks = λ q l i o e. upd2_cases (λ (x : ℕ). x ≡ 0) v.mark p j 0 q i (λ d c. refl) (g.marks q l i o e);
  registers = g.registers;
  slots = g.slots;
}

-- ---- 27, 36: places that are handed out, and a new page

-- c places of an owned page are used
pub good_occupied : (m : Module) (v : View) (n p j c : ℕ) → Good m v n → v.owner p ≢ 0 → Good m (occupied p j c v) n
good_occupied m v n p j c g h = record {
  frames = g.frames;
  in_range = g.in_range;
  owners = g.owners;
  marks = λ q l i o e. set_marks_cases (λ (x : ℕ). x ≡ 0) v.mark p j c q i (λ d a b. absurd (h (rw d at e))) (g.marks q l i o e);
  registers = g.registers;
  slots = g.slots;
}

-- c places of page p from place j on become zero: a slot lies in one of them, where zero is a value, or apart
pub good_emptied : (m : Module) (v : View) (n p j c s r : ℕ) → Good m v n → v.owner p ≡ suc r → s ≡ size m (type_of m v.fn v.map n r) → s * j + s * c ≤ page_bytes
    → Good m (emptied (page_bytes * p + s * j) (s * c) v) n
good_emptied m v n p j c s r g own is whole = record {
  frames = g.frames;
  in_range = g.in_range;
  owners = g.owners;
  marks = g.marks;
  registers = g.registers;
  slots = λ x q l. page x q l (ℕ_discrete l.page p);
}
  where
    KeptValue : (x : ℕ) (q : Tree live) → Type 0
    KeptValue x q = Value m (heap_typing m v n) q (memory_number (cleared v.memory (page_bytes * p + s * j) (s * c)) x (width q))

    apart : (x : ℕ) (q : Tree live) → Slot m (heap_typing m v n) x q → (page_bytes * p + s * j + s * c ≤ x) ⊎ (x + width q ≤ page_bytes * p + s * j) → KeptValue x q
    apart x q l h = rw (memory_number_cleared_apart v.memory (page_bytes * p + s * j) (s * c) x (width q) h) (g.slots x q l)

    page : (x : ℕ) (q : Tree live) (l : Slot m (heap_typing m v n) x q) → Dec (l.page ≡ p) → KeptValue x q
    page x q l (no d) = elsewhere (dec_lt l.page p)
      where
        end : l.distance + width q ≤ size m (type_of m v.fn v.map n l.region)
        end = slot_inside m (heap_typing m v n) x q l

        elsewhere : Dec (l.page < p) → KeptValue x q
        elsewhere (yes b) = apart x q l (inr (omega (arith, l.address, l.fits, end)))
        elsewhere (no b) = apart x q l (inl (omega (arith, l.address, l.fits, end, whole)))
    page x q l (yes d) = place (dec_lt l.place j) (dec_lt l.place (j + c))
      where
        same : size m (type_of m v.fn v.map n l.region) ≡ s
        same =
            let e : l.region ≡ r = suc_inj (sym l.own ∙ ap v.owner d ∙ own) in
            ap (λ (i : ℕ). size m (type_of m v.fn v.map n i)) e ∙ sym is

        end : l.distance + width q ≤ s
        end = rw same at (slot_inside m (heap_typing m v n) x q l)

        at : x ≡ page_bytes * p + (s * l.place + l.distance)
        at = l.address ∙ (λ i. page_bytes * d i + (same i * l.place + l.distance))

        place : Dec (l.place < j) → Dec (l.place < j + c) → KeptValue x q
        place (yes b) _ = apart x q l (inr (omega (arith, at, end, mul-le-mul_left s b)))
        place (no b) (no o) = let past : j + c ≤ l.place = omega arith in apart x q l (inl (omega (arith, at, mul-le-mul_left s past)))
        place (no b) (yes o) =
            let from : j ≤ l.place = omega arith in
            rw (memory_number_cleared v.memory (page_bytes * p + s * j) (s * c) x (width q) (omega (arith, at, mul-le-mul_left s from)) (omega (arith, at, end, mul-le-mul_left s o)))
            (value_zero m (heap_typing m v n) q (flat_has_prim m (type_of m v.fn v.map n l.region) l.has))

pub good_granted : (m : Module) (v : View) (n p r : ℕ) → Good m v n → InRange v.range p → v.owner p ≡ 0 → Live m v.fn v.map n (suc r) → Good m (granted p r v) n
good_granted m v n p r g a e l = record {
  frames = g.frames;
  in_range = λ q b. upd_cases (λ (x : ℕ). 0 < x → InRange v.range q) v.owner p (suc r) q (λ d h. rw d a) (λ d. g.in_range q b);
  owners = λ q b. upd_cases (λ (x : ℕ). 0 < x → Live m v.fn v.map n x) v.owner p (suc r) q (λ d h. l) (λ d. g.owners q b);
  marks = λ q b j o. upd_cases (λ (x : ℕ). x ≡ 0 → v.mark q j ≡ 0) v.owner p (suc r) q (λ d h. g.marks q b j o (ap v.owner d ∙ e)) (λ d. g.marks q b j o);
  registers = λ k h i j.
      value_keep m before after (close (v.map k) ((m.function (v.fn k)).register_type i)) (v.reg k i) (kept (close (v.map k) ((m.function (v.fn k)).register_type i))) (g.registers k h i j);
  slots = λ x q s. page x q s (ℕ_discrete s.page p);
}
  where
    before : HeapTyping
    before = heap_typing m v n

    after : HeapTyping
    after = heap_typing m (granted p r v) n

    kept : (q : Tree live) → Outer (Kept before after) q
    kept q = outer_all (Kept before after) q (λ s. record {
      type = refl;
      pages = λ i h. upd_other v.owner p (suc r) i (λ d. let z : 0 ≡ suc s = sym e ∙ ap v.owner (sym d) ∙ h in omega arith) ∙ h;
    })

    page : (x : ℕ) (q : Tree live) (s : Slot m after x q) → Dec (s.page ≡ p) → Value m after q (memory_number (cleared v.memory (page_bytes * p) page_bytes) x (width q))
    page x q s (yes d) =
        let T : Tree live = type_of m v.fn v.map n s.region in
        let y : ℕ = size m T * s.place + s.distance in
        let at : x ≡ page_bytes * p + y = rw (← d) s.address in
        rw (at, memory_number_cleared v.memory (page_bytes * p) page_bytes (page_bytes * p + y) (width q) (omega arith) (omega (arith, flat_inside m T s.has, s.fits)))
        (value_zero m after q (flat_has_prim m T s.has))
    page x q s (no d) =
        let T : Tree live = type_of m v.fn v.map n s.region in
        let y : ℕ = size m T * s.place + s.distance in
        let at : x ≡ page_bytes * s.page + y = s.address in
        let old : Slot m before x q = record {
          region = s.region;
          page = s.page;
          place = s.place;
          distance = s.distance;
          inside = s.inside;
          own = sym (upd_other v.owner p (suc r) s.page d) ∙ s.own;
          fits = s.fits;
          has = s.has;
          address = s.address;
        } in
        let same : memory_number (cleared v.memory (page_bytes * p) page_bytes) x (width q) ≡ memory_number v.memory x (width q) =
        memory_number_cleared_apart v.memory (page_bytes * p) page_bytes x (width q)
        (elim (dec_lt s.page p) [ yes b ↦ inr (omega (arith, at, flat_inside m T s.has, s.fits)) | no b ↦ inl (omega (arith, at)) ]) in
        rw same (value_keep m before after q (memory_number v.memory x (width q)) (kept q) (g.slots x q old))

-- ---- a slot under another heap typing that has the same type for its region

slot_in : (m : Module) (before after : HeapTyping) (x : ℕ) (q : Tree live) (s : Slot m after x q) → after.type s.region ≡ before.type s.region → before.owner s.page ≡ suc s.region → Slot m before x q
slot_in m before after x q s e own = record {
  region = s.region;
  page = s.page;
  place = s.place;
  distance = s.distance;
  inside = s.inside;
  own = own;
  fits = rw e at s.fits;
  has = rw e at s.has;
  address = rw e at s.address;
}

-- ---- 34: the top frame's local regions are closed

module _ (m : Module) (ok : ModuleOk m) (v : View) (k : ℕ) (g : Good m v (suc k)) where
  low_fn : (j : ℕ) → j < k → upd v.fn k 0 j ≡ v.fn j
  low_fn j h = upd_other v.fn k 0 j (omega arith)

  low_pc : (j : ℕ) → j < k → upd v.pc k 0 j ≡ v.pc j
  low_pc j h = upd_other v.pc k 0 j (omega arith)

  low_map : (j : ℕ) → j < k → upd v.map k (λ _. 0) j ≡ v.map j
  low_map j h = upd_other v.map k (λ _. 0) j (omega arith)

  low_reg : (j : ℕ) → j < k → upd v.reg k (λ _. 0) j ≡ v.reg j
  low_reg j h = upd_other v.reg k (λ _. 0) j (omega arith)

  -- a region of a lower frame's map is not closed
  pub below_open : (j i : ℕ) → j < k → i < regions (m.function (v.fn j)) → ¬ Local (m.function (v.fn k)) (v.map k) (suc (v.map j i))
  below_open j i h l c = fresh_map m ok v.fn v.pc v.map (suc k) g.frames k c.index j i (omega arith) c.below h l (sym (suc_inj c.is))

  -- a region that is not closed keeps its type and its pages
  pub open_kept : (r : ℕ) → ¬ Local (m.function (v.fn k)) (v.map k) (suc r) → Kept (heap_typing m v (suc k)) (heap_typing m (closed m k v) k) r
  open_kept r n = record {
    type = type_of_agree m (upd v.fn k 0) v.fn (upd v.map k (λ _. 0)) v.map k low_fn low_map r ∙ sym (type_of_miss m v.fn v.map k r n);
    pages = λ p e. cond_split (λ (x : ℕ). x ≡ suc r) (closes m v k p) 0 (v.owner p)
        (λ c. absurd (n (rw e at (does_true (dec_local (m.function (v.fn k)) (v.map k) (v.owner p)) c)))) (λ c. e);
  }

  -- what an owner that is left says
  pub left_owner : (p : ℕ) → 0 < closed_owner m v k p → (closed_owner m v k p ≡ v.owner p) × (¬ Local (m.function (v.fn k)) (v.map k) (v.owner p))
  left_owner p h =
      let c = came_no (λ (x : ℕ). 0 < x) (closes m v k p) 0 (v.owner p) (λ l. not-suc-le-zero l) h in
      (cond_no 0 (v.owner p) c.0, does_false (dec_local (m.function (v.fn k)) (v.map k) (v.owner p)) c.0)

  -- it is local to a lower frame
  left_live : (x : ℕ) → Live m v.fn v.map (suc k) x → ¬ Local (m.function (v.fn k)) (v.map k) x → Live m v.fn v.map k x
  left_live x l n = go (ℕ_discrete l.frame k)
    where
      go : Dec (l.frame ≡ k) → Live m v.fn v.map k x
      go (yes e) = absurd (n (rw e at l.local))
      go (no d) = record { frame = l.frame; below = omega (arith, l.below); local = l.local }

  closed_marks : (p : ℕ) → p < pages → (j : ℕ) → j < page_bytes → closed_owner m v k p ≡ 0 → closed_mark m v k p j ≡ 0
  closed_marks p l j o h =
      cond_split (λ (x : ℕ). x ≡ 0) (closes m v k p) 0 (v.mark p j) (λ c. refl) (λ c. g.marks p l j o (sym (cond_no 0 (v.owner p) c) ∙ h))

  closed_range : (p : ℕ) → p < pages → 0 < closed_owner m v k p → InRange v.range p
  closed_range p l = cond_split (λ (x : ℕ). 0 < x → InRange v.range p) (closes m v k p) 0 (v.owner p) (λ c h. absurd (not-suc-le-zero h)) (λ c. g.in_range p l)

  pub good_closed : Good m (closed m k v) k
  good_closed = record {
    frames = frames_agree m v.fn v.pc (upd v.fn k 0) (upd v.pc k 0) v.map (upd v.map k (λ _. 0)) k low_fn low_pc low_map (frames_less m v.fn v.pc v.map k g.frames);
    in_range = closed_range;
    owners = λ p b h.
        let c = left_owner p h in
        rw c.0 (live_agree m v.fn (upd v.fn k 0) v.map (upd v.map k (λ _. 0)) k (v.owner p) low_fn low_map
        (left_live (v.owner p) (g.owners p b (rw c.0 at h)) c.1));
    marks = closed_marks;
    registers = λ j h a i.
        let inside : a < (m.function (v.fn j)).registers = rw (low_fn j h) at i in
        rw (low_fn j h, low_map j h, low_reg j h)
        (value_keep m (heap_typing m v (suc k)) (heap_typing m (closed m k v) k) (close (v.map j) ((m.function (v.fn j)).register_type a)) (v.reg j a)
        (outer_close (Kept (heap_typing m v (suc k)) (heap_typing m (closed m k v) k)) (v.map j) (regions (m.function (v.fn j))) ((m.function (v.fn j)).register_type a)
        ((ok.function (v.fn j) (g.frames.known j (omega arith))).register_scope a inside)
        (λ y l. open_kept (v.map j y) (below_open j y h l)))
        (g.registers j (omega arith) a inside));
    slots = λ x q s.
        let r : ℕ = s.region in
        let c = left_owner s.page (rw s.own (omega arith)) in
        let own : v.owner s.page ≡ suc r = sym c.0 ∙ s.own in
        let still : ¬ Local (m.function (v.fn k)) (v.map k) (suc r) = λ z. c.1 (rw own z) in
        let old : Slot m (heap_typing m v (suc k)) x q = slot_in m (heap_typing m v (suc k)) (heap_typing m (closed m k v) k) x q s (open_kept r still).type own in
        let l = left_live (suc r) (rw own at (g.owners s.page s.inside (rw own (omega arith)))) still in
        value_keep m (heap_typing m v (suc k)) (heap_typing m (closed m k v) k) q (memory_number v.memory x (width q))
        (outer_page m ok v.fn v.pc v.map (suc k) g.frames (Kept (heap_typing m v (suc k)) (heap_typing m (closed m k v) k)) r s.distance q
        (record { frame = l.frame; below = omega (arith, l.below); local = l.local })
        (λ j h. open_kept (v.map l.frame j) (below_open l.frame j l.below h))
        (rw (open_kept r still).type at s.has))
        (g.slots x q old);
  }

-- ---- 33: one frame more

-- What a call makes: the callee's map is the call's regions through the caller's map, then regions that are not live.
pub record SafePush (m : Module) (v : View) (k g : ℕ) (μ ρ : ℕ → ℕ) : Type 0 where
  pub room : suc k < most_frames
  pub result : ℕ
  pub regions : List Variable
  pub arguments : List ℕ
  pub at : (m.function (v.fn k)).code (v.pc k) ≡ call result g regions arguments
  pub rule : CallRule m (m.function (v.fn k)) result g regions arguments
  pub through : (i : ℕ) → i < (m.function g).region_params → μ i ≡ v.map k (arg regions (region i)).number
  pub fresh : (i : ℕ) → i < (m.function g).locals → ¬ In (μ ((m.function g).region_params + i)) (live_list m v.fn v.map (suc k))
  pub different : (i : ℕ) → i < (m.function g).locals → (j : ℕ) → j < (m.function g).locals → i ≢ j → μ ((m.function g).region_params + i) ≢ μ ((m.function g).region_params + j)
  pub numbered : (i : ℕ) → i < (m.function g).locals → μ ((m.function g).region_params + i) < live_regions
  pub spare : (i : ℕ) → (m.function g).region_params + (m.function g).locals ≤ i → μ i ≡ 0
  pub values : (i : ℕ) → i < (m.function g).params → ρ i ≡ v.reg k (argument arguments i)
  pub zeros : (i : ℕ) → (m.function g).params ≤ i → ρ i ≡ 0

module _ (m : Module) (ok : ModuleOk m) (v : View) (k g : ℕ) (μ ρ : ℕ → ℕ) (y : Good m v (suc k)) (f : SafePush m v k g μ ρ) where
  old_fn : (j : ℕ) → j < suc k → upd v.fn (suc k) g j ≡ v.fn j
  old_fn j h = upd_other v.fn (suc k) g j (omega arith)

  old_pc : (j : ℕ) → j < suc k → upd v.pc (suc k) 0 j ≡ v.pc j
  old_pc j h = upd_other v.pc (suc k) 0 j (omega arith)

  old_map : (j : ℕ) → j < suc k → upd v.map (suc k) μ j ≡ v.map j
  old_map j h = upd_other v.map (suc k) μ j (omega arith)

  old_reg : (j : ℕ) → j < suc k → upd v.reg (suc k) ρ j ≡ v.reg j
  old_reg j h = upd_other v.reg (suc k) ρ j (omega arith)

  low : k < suc k
  low = omega arith

  -- a new region is not live
  new_region : (i : ℕ) → i < (m.function g).locals → ¬ Live m v.fn v.map (suc k) (suc (μ ((m.function g).region_params + i)))
  new_region i h l = f.fresh i h (live_in m v.fn v.map (suc k) (μ ((m.function g).region_params + i)) l)

  link : Chained m (upd v.fn (suc k) g) (upd v.pc (suc k) 0) (upd v.map (suc k) μ) k
  link = record {
    caller = record {
      known = rw (old_fn k low) (y.frames.known k low);
      inside = rw (old_fn k low, old_pc k low) (y.frames.stands k low);
      site = record { result = f.result; callee = g; regions = f.regions; arguments = f.arguments; is = rw (old_fn k low, old_pc k low) f.at };
    };
    callee = sym (upd_same v.fn (suc k) g);
    through = λ i h. rw (upd_same v.map (suc k) μ, old_map k low) (f.through i (rw (upd_same v.fn (suc k) g) at h));
  }

  pushed_frames : FramesOk m (upd v.fn (suc k) g) (upd v.pc (suc k) 0) (upd v.map (suc k) μ) (suc (suc k))
  pushed_frames =
      frames_more m (upd v.fn (suc k) g) (upd v.pc (suc k) 0) (upd v.map (suc k) μ) (suc k)
      (frames_agree m v.fn v.pc (upd v.fn (suc k) g) (upd v.pc (suc k) 0) v.map (upd v.map (suc k) μ) (suc k) old_fn old_pc old_map y.frames)
      f.room (omega arith) (rw (upd_same v.fn (suc k) g) f.rule.known)
      (rw (upd_same v.fn (suc k) g, upd_same v.pc (suc k) 0) (ok.function g f.rule.known).ranges.some)
      (λ j e. subst (λ (x : ℕ). Chained m (upd v.fn (suc k) g) (upd v.pc (suc k) 0) (upd v.map (suc k) μ) x) (sym (suc_inj e)) link)
      (rw (upd_same v.fn (suc k) g, upd_same v.map (suc k) μ) f.different)
      (rw (upd_same v.fn (suc k) g, upd_same v.map (suc k) μ)
      (λ i h l. new_region i h (live_agree m (upd v.fn (suc k) g) v.fn (upd v.map (suc k) μ) v.map (suc k) (suc (μ ((m.function g).region_params + i))) (λ j b. sym (old_fn j b)) (λ j b. sym (old_map j b)) l)))
      (rw (upd_same v.fn (suc k) g, upd_same v.map (suc k) μ) f.numbered)

  pub live_kept : (r : ℕ) → Live m v.fn v.map (suc k) (suc r) → Kept (heap_typing m v (suc k)) (heap_typing m (pushed k g μ ρ v) (suc (suc k))) r
  live_kept r l = record {
    type =
        type_of_miss m (upd v.fn (suc k) g) (upd v.map (suc k) μ) (suc k) r miss
        ∙ type_of_agree m (upd v.fn (suc k) g) v.fn (upd v.map (suc k) μ) v.map (suc k) old_fn old_map r;
    pages = λ p e. e;
  }
    where
      miss : ¬ Local (m.function (upd v.fn (suc k) g (suc k))) (upd v.map (suc k) μ (suc k)) (suc r)
      miss c =
          let d : Local (m.function g) μ (suc r) = rw (upd_same v.fn (suc k) g, upd_same v.map (suc k) μ) at c in
          new_region d.index d.below (rw d.is l)

  map_kept : (j i : ℕ) → j < suc k → i < regions (m.function (v.fn j)) → Kept (heap_typing m v (suc k)) (heap_typing m (pushed k g μ ρ v) (suc (suc k))) (v.map j i)
  map_kept j i h l =
      live_kept (v.map j i) (live_more m v.fn v.map (suc j) (suc k) (suc (v.map j i)) (omega arith) (map_live m ok v.fn v.pc v.map (suc k) y.frames j i h l))

  -- arguments are values of the callee's types, and zero is one of every type
  new_reg : (a : ℕ) → a < (m.function g).registers → Value m (heap_typing m (pushed k g μ ρ v) (suc (suc k))) (close μ ((m.function g).register_type a)) (ρ a)
  new_reg a h = go (dec_lt a (m.function g).params)
    where
      T : Tree variable
      T = (m.function g).register_type a

      after : HeapTyping
      after = heap_typing m (pushed k g μ ρ v) (suc (suc k))

      go : Dec (a < (m.function g).params) → Value m (heap_typing m (pushed k g μ ρ v) (suc (suc k))) (close μ ((m.function g).register_type a)) (ρ a)
      go (yes b) =
          let s : Uses (m.function g).region_params T = (ok.function g f.rule.known).param_scope a b in
          let x : ℕ = argument f.arguments a in
          let e : close (v.map k) ((m.function (v.fn k)).register_type x) ≡ close μ T =
          ap (close (v.map k)) (f.rule.arguments a b).1 ∙ close_sub (v.map k) f.regions T
          ∙ sym (close_agree (m.function g).region_params μ (λ i. v.map k (arg f.regions (region i)).number) T s f.through) in
          rw (f.values a b)
          (value_keep m (heap_typing m v (suc k)) after (close μ T) (v.reg k x)
          (outer_close (Kept (heap_typing m v (suc k)) after) μ (m.function g).region_params T s
          (λ j l. rw (f.through j l) (map_kept k (arg f.regions (region j)).number low (f.rule.scope j l))))
          (rw e at (y.registers k low x (f.rule.arguments a b).0)))
      go (no b) =
          rw (f.zeros a (omega arith))
          (value_zero m after (close μ T) (sub_prim (λ r. region (μ r.number)) T ((ok.function g f.rule.known).register_primitive a h)))

  pub good_pushed : Good m (pushed k g μ ρ v) (suc (suc k))
  good_pushed = record {
    frames = pushed_frames;
    in_range = y.in_range;
    owners = λ p b h.
        live_more m (upd v.fn (suc k) g) (upd v.map (suc k) μ) (suc k) (suc (suc k)) (v.owner p) (omega arith)
        (live_agree m v.fn (upd v.fn (suc k) g) v.map (upd v.map (suc k) μ) (suc k) (v.owner p) old_fn old_map (y.owners p b h));
    marks = y.marks;
    registers = λ j h a i. elim (ℕ_discrete j (suc k)) [
      | yes e ↦
          rw (e, upd_same v.fn (suc k) g, upd_same v.map (suc k) μ, upd_same v.reg (suc k) ρ)
          (new_reg a (rw (e, upd_same v.fn (suc k) g) at i))
      | no d ↦
          let l : j < suc k = omega arith in
          let inside : a < (m.function (v.fn j)).registers = rw (old_fn j l) at i in
          rw (old_fn j l, old_map j l, old_reg j l)
          (value_keep m (heap_typing m v (suc k)) (heap_typing m (pushed k g μ ρ v) (suc (suc k))) (close (v.map j) ((m.function (v.fn j)).register_type a)) (v.reg j a)
          (outer_close (Kept (heap_typing m v (suc k)) (heap_typing m (pushed k g μ ρ v) (suc (suc k)))) (v.map j) (regions (m.function (v.fn j))) ((m.function (v.fn j)).register_type a)
          ((ok.function (v.fn j) (y.frames.known j l)).register_scope a inside) (λ x b. map_kept j x l b))
          (y.registers j l a inside))
    ];
    slots = λ x q s.
        let r : ℕ = s.region in
        let l : Live m v.fn v.map (suc k) (suc r) = rw s.own at (y.owners s.page s.inside (rw s.own (omega arith))) in
        let old : Slot m (heap_typing m v (suc k)) x q = slot_in m (heap_typing m v (suc k)) (heap_typing m (pushed k g μ ρ v) (suc (suc k))) x q s (live_kept r l).type s.own in
        value_keep m (heap_typing m v (suc k)) (heap_typing m (pushed k g μ ρ v) (suc (suc k))) q (memory_number v.memory x (width q))
        (outer_page m ok v.fn v.pc v.map (suc k) y.frames (Kept (heap_typing m v (suc k)) (heap_typing m (pushed k g μ ρ v) (suc (suc k)))) r s.distance q l
        (λ j h. map_kept l.frame j l.below h)
        (rw (live_kept r l).type at s.has))
        (y.slots x q old);
  }
