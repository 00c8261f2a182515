-- Progress: in a good state of a well-typed module the next effect is safe, so it is not stuck. One case for each kind; the typing rule
-- is the step's one static guard, and each other guard is a fact of the state. Assumes nothing.
use Rattle.std.specs.Prelude.{◌≡◌, cond, not, ◌≢◌, eqb, ltb, length, get_or}
use Rattle.std.proofs.Math.Path.{refl, sym, ap, subst}
use Rattle.std.proofs.Common.{◌∙◌, mul-le-mul_left, mul-le-mul_right, ltb-true, eqb-true}
use Rattle.std.proofs.Math.Logic.{inl, inr}
use mathlib.Core.List.{List}
use Prim.Native.Nat.{ℕ, zero, suc, ◌+◌, ◌*◌, ◌-◌, ◌^◌, ◌/◌, ◌%◌, ◌<◌, ◌≤◌}
use Rattle.std.proofs.Math.Nat.{div-add-mod}
use Rattle.std.proofs.Math.Decide.{ℕ_discrete, dec_lt}
use native.Mathlib.Omega.{arith}
use Rattle.std.proofs.Math.ListN.{get_or-eq_default}
use Rattle.std.proofs.lemmas.Bool.{not-false}
use Rattle.words.specs.Bytes.{Bytes, AllBytes, byte_at}
use Rattle.words.specs.FirstLaws.{first_from_least}
use Rattle.words.specs.Choose.{cond_lt, cond_nlt, cond_split, split_lt, split_eq, both}
use Rattle.rules.specs.Limits.{pages, page_bytes, most_frames, output_bytes, zero_address, check_fails, no_page, index_past, form_ended, output_full, too_deep}
use Rattle.words.specs.Decide.{does, does_true, dec_all}
use Rattle.rules.specs.Types.{variable, live, Variable, region, Tree, int, ptr, arr, raw_ptr, sub, width, arg, Uses, in_ptr, Primitive}
use Rattle.rules.specs.Module.{Module, Function, regions, argument, Instruction, operate, check, check_bytes, call}
use Rattle.rules.specs.Flat.{Layout, flat, size, distance, Same}
use Rattle.rules.specs.Typing.{◌⊢◌∶◌, Untyped, Typed, t_constant, t_copy, t_operate, t_quotient, t_compare, t_zero_extend, t_sign_extend, t_address, t_address_bytes, t_check_integer, t_check_pointer, t_field, t_index, t_load, t_store, t_new, t_free, t_input, t_output, t_jump, t_branch, t_call, t_return, t_new_bytes, t_load_byte, t_store_byte, t_check_bytes}
use Rattle.rules.specs.Decision.{dec_typed}
use Rattle.rules.specs.State.{low_page, end_page, View}
use Rattle.rules.specs.Heap.{close, dec_live, live_list, type_of, HeapTyping, heap_typing, places_in_page, Stands, dec_stands, InUntyped, dec_in_untyped, Value}
use Rattle.rules.specs.Arithmetic.{Computed, value, halt, operation_of, operated, cut, sign_extended}
use Rattle.rules.specs.Step.{Effect, assign, fetch, save, take_places, grant_page, free_place, go_to, emit, push, pop, stop, need, on_int, on_ptr, on_arr, on_raw, on_call, StandsAtCall, dec_stands_at_call, lowest_numbers, Home, dec_home, has_room, room_page, run_starts, unused_place, has_place, unowned_page, allocate, allocate_in, not_zero, computed, Held, dec_held, callee_map, callee_registers, returned, exec, effect_at}
use Rattle.rules.specs.StateTest.{Listed, Chained, site_unique}
use Rattle.rules.specs.SafeStep.{Touches, TouchesBytes, places_of}
use Rattle.layout.specs.TypesOk.{GoodTree, good_ptr, good_raw, RegionTree}
use Rattle.state.specs.Update.{upd_same}
use Rattle.state.specs.Apply.{granted}
use Rattle.state.specs.Regions.{length_numbers}
use Rattle.state.specs.Runs.{run_unused}
use Rattle.layout.specs.Flat.{flat_bytes}
use Rattle.layout.specs.Close.{close_width, close_prim, close_bytes, size_close}
use Rattle.layout.specs.Heap.{Slot, stands_slot, value_bound}
use Rattle.layout.specs.Pointers.{stands_field, stands_element, stands_object, touched_object, touched_bytes}
use Rattle.typing.specs.Facts.{FunctionFacts, GoesOn}
use Rattle.soundness.specs.Facts.{ModuleOk}
use Rattle.soundness.specs.Fresh.{numbers_out, numbers_differ, numbers_small, number_in}
use Rattle.soundness.specs.Operations.{Fits, cut_lt, operate_fits, quotient_fits, compare_fits}
use Rattle.soundness.specs.Good.{Good, CallRule, chain_rule, through_types, map_live, map_typed, live_length}
use Rattle.soundness.specs.Preserve.{SafePush}
use Rattle.soundness.specs.Safe.{Next, UntypedByte, SafeFree, SafePop, Safe}

-- ---- guards and choices: what holds of each effect behind them holds of the whole

module _ (P : Effect → Type 0) where
  need_safe : {A : Type 0} (d : Dec A) (e : Effect) → A → P e → P (need d e)
  unfolding need
  need_safe (yes h) e a p = p
  need_safe (no n) e a p = absurd (n a)

  not_zero_safe : (x : ℕ) (e : Effect) → P (stop zero_address) → (x ≢ 0 → P e) → P (not_zero x e)
  unfolding not_zero
  not_zero_safe x e p q = split_eq P x 0 (stop zero_address) e (λ z. p) q

  on_int_safe : (T : Tree variable) (w : ℕ) (e : ℕ → Effect) → T ≡ int w → P (e w) → P (on_int T e)
  unfolding on_int
  on_int_safe T w e h p = rw h p

  on_ptr_safe : (T U : Tree variable) (r : Variable) (e : Tree variable → ℕ → Effect) → T ≡ ptr U r → P (e U r.number) → P (on_ptr T e)
  unfolding on_ptr
  on_ptr_safe T U r e h p = rw h p

  on_raw_safe : (T : Tree variable) (n : ℕ) (r : Variable) (e : ℕ → ℕ → Effect) → T ≡ raw_ptr n r → P (e n r.number) → P (on_raw T e)
  unfolding on_raw
  on_raw_safe T n r e h p = rw h p

  on_call_safe : {m : Module} {fn pc : ℕ → ℕ} {k : ℕ} (d : Dec (StandsAtCall m fn pc k)) (e : StandsAtCall m fn pc k → Effect) → StandsAtCall m fn pc k → ((h : StandsAtCall m fn pc k) → P (e h)) → P (on_call d e)
  unfolding on_call
  on_call_safe (yes h) e a p = p h
  on_call_safe (no n) e a p = absurd (n a)

listed : (n : ℕ) → 31 ≤ n → n ≤ 39 → Listed n
listed n a b = record { low = a; high = b }

sign_lt : (u w x : ℕ) → sign_extended u w x < 256 ^ u
unfolding sign_extended
sign_lt u w x = cut_lt u (cond (ltb (2 * x) (256 ^ w)) x (x + (256 ^ 4 - 256 ^ w)))

-- the target of a pointer is a right type too
target_ok : {m : Module} {T : Tree variable} {r : Variable} → GoodTree m (ptr T r) → GoodTree m T
target_ok (good_ptr t) = t

-- the bytes of an untyped pointer
raw_count : {m : Module} {n : ℕ} {r : Variable} → GoodTree m (raw_ptr n r) → (0 < n) × (n ≤ page_bytes)
raw_count (good_raw some few) = (some, few)

-- as many places as fit into a page
places_fit : (s n : ℕ) → n ≤ places_in_page s → s * n ≤ page_bytes
places_fit s n l =
    let a : s * n ≤ s * (page_bytes / s) = mul-le-mul_left s l in
    let b : s * (page_bytes / s) + page_bytes % s ≡ page_bytes = div-add-mod page_bytes s in
    omega (arith, a, b)

-- ---- the kinds

-- the function of frame k
abbrev top : Module → View → ℕ → Function
top m v k = m.function (v.fn k)

module _ (m : Module) (ok : ModuleOk m) (form : Bytes) (bytes : AllBytes form) (v : View) (k : ℕ) (g : Good m v (suc k)) where
  low : k < suc k
  low = omega arith

  facts : FunctionFacts m (top m v k)
  facts = ok.function (v.fn k) (g.frames.known k low)

  held : (b : ℕ) → b < (top m v k).registers → Held m form v k (top m v k) b
  held b h = g.registers k low b h

  register_ok : (a : ℕ) → a < (top m v k).registers → GoodTree m ((top m v k).register_type a)
  register_ok a h = ok.types.register_types (v.fn k) a (g.frames.known k low) h

  region_ok : (i : ℕ) → i < regions (top m v k) → RegionTree m ((top m v k).region_type i)
  region_ok i h = ok.types.region_types (v.fn k) i (g.frames.known k low) h

  region_size_law : (i : ℕ) → i < regions (top m v k) → (0 < size m ((top m v k).region_type i)) × (size m ((top m v k).region_type i) ≤ page_bytes)
  region_size_law i h = facts.region_size i

  -- of a pointer register: its target is a right type, its region is in scope
  pointee_ok : (b : ℕ) (T : Tree variable) (r : Variable) → top m v k ⊢ b ∶ ptr T r → GoodTree m T
  pointee_ok b T r p = target_ok (subst (GoodTree m) p.1 (register_ok b p.0))

  pointer_scope : (b : ℕ) (T : Tree variable) (r : Variable) → top m v k ⊢ b ∶ ptr T r → r.number < regions (top m v k)
  pointer_scope b T r p = go (subst (Uses (regions (top m v k))) p.1 (facts.register_scope b p.0))
    where
      go : Uses (regions (top m v k)) (ptr T r) → r.number < regions (top m v k)
      go (in_ptr h u) = h

  -- a pointer register that is not zero: its run
  pointed : (b : ℕ) (T : Tree variable) (r : Variable) → top m v k ⊢ b ∶ ptr T r → v.reg k b ≢ 0
      → Stands m (heap_typing m v (suc k)) (close (v.map k) T) (v.map k r.number) (v.reg k b)
  unfolding sub
  pointed b T r p n =
      let x : Value m (heap_typing m v (suc k)) (close (v.map k) (ptr T r)) (v.reg k b) = subst (λ (U : Tree variable). Value m (heap_typing m v (suc k)) (close (v.map k) U) (v.reg k b)) p.1 (held b p.0) in
      elim x [ inl z ↦ absurd (n z) | inr h ↦ h ]

  -- an untyped pointer register that is not zero: its bytes
  raw_pointed : (b n : ℕ) (r : Variable) → top m v k ⊢ b ∶ raw_ptr n r → v.reg k b ≢ 0 → InUntyped (heap_typing m v (suc k)) n (v.map k r.number) (v.reg k b)
  unfolding sub
  raw_pointed b n r p z =
      let x : Value m (heap_typing m v (suc k)) (close (v.map k) (raw_ptr n r)) (v.reg k b) = subst (λ (U : Tree variable). Value m (heap_typing m v (suc k)) (close (v.map k) U) (v.reg k b)) p.1 (held b p.0) in
      elim x [ inl e ↦ absurd (z e) | inr h ↦ h ]

  -- an integer, a run or untyped bytes into a register
  set_int : (a w x : ℕ) → top m v k ⊢ a ∶ int w → Next m v k → x < 256 ^ w → Safe m v k (assign a x)
  unfolding sub
  set_int a w x r n h = record { register = r.0; next = n; value = rw r.1 h }

  set_run : (a : ℕ) (T : Tree variable) (r : Variable) (x : ℕ) → top m v k ⊢ a ∶ ptr T r → Next m v k
      → Stands m (heap_typing m v (suc k)) (close (v.map k) T) (v.map k r.number) x → Safe m v k (assign a x)
  unfolding sub
  set_run a T r x p n h = record { register = p.0; next = n; value = rw p.1 (inr h) }

  set_bytes : (a n : ℕ) (r : Variable) (x : ℕ) → top m v k ⊢ a ∶ raw_ptr n r → Next m v k → InUntyped (heap_typing m v (suc k)) n (v.map k r.number) x → Safe m v k (assign a x)
  unfolding sub
  set_bytes a n r x p next h = record { register = p.0; next = next; value = rw p.1 (inr h) }

  int_held : (b w : ℕ) → top m v k ⊢ b ∶ int w → v.reg k b < 256 ^ w
  unfolding sub
  int_held b w r = subst (λ (U : Tree variable). Value m (heap_typing m v (suc k)) (close (v.map k) U) (v.reg k b)) r.1 (held b r.0)

  -- an address is an i32: what a register of four bytes holds
  address_lt : (b : ℕ) (T : Tree variable) → top m v k ⊢ b ∶ T → width T ≡ 4 → v.reg k b < 256 ^ 4
  address_lt b T p e =
      subst (λ (w : ℕ). v.reg k b < 256 ^ w) (close_width (v.map k) T ∙ e)
      (value_bound m (heap_typing m v (suc k)) (close (v.map k) T) (v.reg k b)
      (subst (λ (U : Tree variable). Value m (heap_typing m v (suc k)) (close (v.map k) U) (v.reg k b)) p.1 (held b p.0)))

  computed_safe : (a w : ℕ) (c : Computed) → top m v k ⊢ a ∶ int w → Next m v k → Fits w c → Safe m v k (computed a c)
  unfolding computed
  computed_safe a w (value x) r n h = set_int a w x r n h
  computed_safe a w (halt i) r n h = h

  operate_safe : (o a b c u w : ℕ) → top m v k ⊢ b ∶ int u → top m v k ⊢ c ∶ int u → top m v k ⊢ a ∶ int w → Next m v k
      → Fits w (operated (operation_of o) u (v.reg k b) (v.reg k c)) → Safe m v k (exec m form v k (top m v k) (operate o a b c))
  unfolding exec
  operate_safe o a b c u w rb rc ra n h =
      need_safe (Safe m v k) (dec_held m form v k (top m v k) b) _ (held b rb.0)
      (need_safe (Safe m v k) (dec_held m form v k (top m v k) c) _ (held c rc.0)
      (on_int_safe (Safe m v k) ((top m v k).register_type b) u (λ w. computed a (operated (operation_of o) w (v.reg k b) (v.reg k c))) rb.1
      (computed_safe a w (operated (operation_of o) u (v.reg k b) (v.reg k c)) ra n h)))

  -- the guard of kinds 22, 27, 28, 36 and 39
  home : (r : ℕ) → r < regions (top m v k) → Home m v.fn v.map k (top m v k) r
  home r h = record {
    scope = h;
    alive = map_live m ok v.fn v.pc v.map (suc k) g.frames k r low h;
    type = map_typed m ok v.fn v.pc v.map (suc k) g.frames k r low h;
  }

  -- the size of an object of a region in scope
  object_size : (r : ℕ) → r < regions (top m v k) → size m (type_of m v.fn v.map (suc k) (v.map k r)) ≡ size m ((top m v k).region_type r)
  object_size r h = ap (size m) (home r h).type ∙ size_close (v.map k) m ((top m v k).region_type r)

  check_safe : (a b : ℕ) (T : Tree variable) (r : Variable) → b < (top m v k).registers → top m v k ⊢ a ∶ ptr T r → Next m v k → Safe m v k (exec m form v k (top m v k) (check a b))
  unfolding exec
  check_safe a b T r hb ra n =
      need_safe (Safe m v k) (dec_held m form v k (top m v k) b) _ (held b hb)
      (on_ptr_safe (Safe m v k) ((top m v k).register_type a) T r
      (λ T r. need (dec_home m v.fn v.map k (top m v k) r) (cond (eqb (v.reg k b) 0) (stop check_fails)
      (cond (does (dec_stands m (heap_typing m v (suc k)) (close (v.map k) T) (v.map k r) (v.reg k b))) (assign a (v.reg k b)) (stop check_fails))))
      ra.1
      (need_safe (Safe m v k) (dec_home m v.fn v.map k (top m v k) r.number) _ (home r.number (pointer_scope a T r ra))
      (split_eq (Safe m v k) (v.reg k b) 0 (stop check_fails) _ (λ z. listed check_fails (omega arith) (omega arith))
      (λ z. cond_split (Safe m v k) (does (dec_stands m (heap_typing m v (suc k)) (close (v.map k) T) (v.map k r.number) (v.reg k b))) (assign a (v.reg k b)) (stop check_fails)
      (λ h. set_run a T r (v.reg k b) ra n (does_true (dec_stands m (heap_typing m v (suc k)) (close (v.map k) T) (v.map k r.number) (v.reg k b)) h))
      (λ h. listed check_fails (omega arith) (omega arith))))))

  -- ---- 25 and 26

  -- the primitive that a pointer register a to type T names
  slot_of : (a : ℕ) (T : Tree variable) (r : Variable) → Primitive T → top m v k ⊢ a ∶ ptr T r → v.reg k a ≢ 0 → Slot m (heap_typing m v (suc k)) (v.reg k a) (close (v.map k) T)
  slot_of a T r c p z = stands_slot m (heap_typing m v (suc k)) (close (v.map k) T) (v.map k r.number) (v.reg k a) (close_prim (v.map k) T c) (pointed a T r p z)

  touches : (a : ℕ) (T : Tree variable) (r : Variable) → Primitive T → top m v k ⊢ a ∶ ptr T r → v.reg k a ≢ 0 → Touches m v k a (v.reg k a) (width T)
  touches a T r c p z =
      let h = pointed a T r p z in
      let i = pointer_scope a T r p in
      record {
        target = T;
        within = r;
        names = record { register = p; scope = i; alive = map_live m ok v.fn v.pc v.map (suc k) g.frames k r.number low i; run = h };
        address = refl;
        object = touched_object m ok.types (heap_typing m v (suc k)) (v.map k) T (pointee_ok a T r p) (v.map k r.number) (v.reg k a) h;
        bytes = touched_bytes m ok.types (heap_typing m v (suc k)) (v.map k) T (pointee_ok a T r p) (v.map k r.number) (v.reg k a) h c;
      }

  -- ---- 37 and 38

  -- a byte among those that an untyped pointer register names
  touches_byte : (b n : ℕ) (r : Variable) (o : ℕ) → top m v k ⊢ b ∶ raw_ptr n r → Untyped (top m v k) r → v.reg k b ≢ 0 → o < n → TouchesBytes m v k b (v.reg k b + o) 1
  touches_byte b n r o p u z below = record {
    count = n;
    within = r;
    names = record { register = p; scope = u.0; alive = (home r.number u.0).alive; bytes = raw_pointed b n r p z };
    bytes = λ i l h. (omega arith, omega arith);
  }

  untyped_byte : (b n : ℕ) (r : Variable) (o : ℕ) → top m v k ⊢ b ∶ raw_ptr n r → v.reg k b ≢ 0 → o < n → UntypedByte m v k (v.reg k b + o) 1
  untyped_byte b n r o p z below = record {
    count = n;
    region = v.map k r.number;
    start = v.reg k b;
    offset = o;
    inside = raw_pointed b n r p z;
    below = below;
    address = refl;
    one = refl;
  }

  -- the type of a register of one byte
  byte_type : (a : ℕ) → top m v k ⊢ a ∶ int 1 → close (v.map k) ((top m v k).register_type a) ≡ int 1
  unfolding sub
  byte_type a p = ap (close (v.map k)) p.1

  -- ---- 39

  check_bytes_safe : (a b n : ℕ) (r : Variable) → b < (top m v k).registers → top m v k ⊢ a ∶ raw_ptr n r → Untyped (top m v k) r → Next m v k → Safe m v k (exec m form v k (top m v k) (check_bytes a b))
  unfolding exec
  check_bytes_safe a b n r hb ra u next =
      need_safe (Safe m v k) (dec_held m form v k (top m v k) b) _ (held b hb)
      (on_raw_safe (Safe m v k) ((top m v k).register_type a) n r
      (λ n r. need (dec_home m v.fn v.map k (top m v k) r) (cond (eqb (v.reg k b) 0) (stop check_fails)
      (cond (does (dec_in_untyped (heap_typing m v (suc k)) n (v.map k r) (v.reg k b))) (assign a (v.reg k b)) (stop check_fails))))
      ra.1
      (need_safe (Safe m v k) (dec_home m v.fn v.map k (top m v k) r.number) _ (home r.number u.0)
      (split_eq (Safe m v k) (v.reg k b) 0 (stop check_fails) _ (λ z. listed check_fails (omega arith) (omega arith))
      (λ z. cond_split (Safe m v k) (does (dec_in_untyped (heap_typing m v (suc k)) n (v.map k r.number) (v.reg k b))) (assign a (v.reg k b)) (stop check_fails)
      (λ h. set_bytes a n r (v.reg k b) ra next (does_true (dec_in_untyped (heap_typing m v (suc k)) n (v.map k r.number) (v.reg k b)) h))
      (λ h. listed check_fails (omega arith) (omega arith))))))

  -- ---- 27, 28 and 36

  -- a place of the region, as a run of the pointer's target
  object_run : (W : HeapTyping) → W.type ≡ type_of m v.fn v.map (suc k) → (a : ℕ) (T : Tree variable) (r : Variable) → top m v k ⊢ a ∶ ptr T r
      → Same (flat m T) (flat m ((top m v k).region_type r.number)) → (p j : ℕ) → p < pages → W.owner p ≡ suc (v.map k r.number)
      → size m ((top m v k).region_type r.number) * suc j ≤ page_bytes
      → Stands m W (close (v.map k) T) (v.map k r.number) (page_bytes * p + size m ((top m v k).region_type r.number) * j)
  object_run W same a T r ra e p j inside own fits =
      let h = pointer_scope a T r ra in
      stands_object m ok.types W (v.map k) T ((top m v k).region_type r.number) (v.map k r.number) p j (pointee_ok a T r ra) (region_ok r.number h) e
      (ap (λ (t : ℕ → Tree live). t (v.map k r.number)) same ∙ (home r.number h).type) inside own fits

  -- places of untyped bytes
  bytes_run : (W : HeapTyping) → W.type ≡ type_of m v.fn v.map (suc k) → (n : ℕ) (r : Variable) → Untyped (top m v k) r → 0 < n → (p j : ℕ) → p < pages → W.owner p ≡ suc (v.map k r.number)
      → size m ((top m v k).region_type r.number) * j + size m ((top m v k).region_type r.number) * n ≤ page_bytes
      → InUntyped W n (v.map k r.number) (page_bytes * p + size m ((top m v k).region_type r.number) * j)
  bytes_run W same n r u some p j inside own fits =
      let s : ℕ = size m ((top m v k).region_type r.number) in
      let one : s ≡ 1 = ap (λ (T : Tree variable). size m T) u.1 ∙ ap (λ (L : Layout variable). L.size) (flat_bytes m) in
      let at : s * j ≡ j = ap (λ (x : ℕ). x * j) one ∙ omega arith in
      let many : s * n ≡ n = ap (λ (x : ℕ). x * n) one ∙ omega arith in
      let page : (page_bytes * p + s * j) / page_bytes ≡ p = omega (arith, at, many, fits) in
      record {
        inside = rw page inside;
        own = ap W.owner page ∙ own;
        untyped = ap (λ (t : ℕ → Tree live). t (v.map k r.number)) same ∙ (home r.number u.0).type ∙ ap (close (v.map k)) u.1 ∙ close_bytes (v.map k);
        fits = omega (arith, at, many, fits);
      }

  -- 27: the address of a place is a value of its register's type, wherever the place lies
  new_value : (a : ℕ) (T : Tree variable) (r : Variable) → top m v k ⊢ a ∶ ptr T r → Same (flat m T) (flat m ((top m v k).region_type r.number))
      → (W : HeapTyping) → W.type ≡ type_of m v.fn v.map (suc k) → (p j : ℕ) → p < pages → W.owner p ≡ suc (v.map k r.number)
      → size m ((top m v k).region_type r.number) * j + size m ((top m v k).region_type r.number) * 1 ≤ page_bytes
      → Value m W (close (v.map k) ((top m v k).register_type a)) (page_bytes * p + size m ((top m v k).region_type r.number) * j)
  unfolding sub
  new_value a T r ra e W same p j inside own fits = rw ra.1 (inr (object_run W same a T r ra e p j inside own (omega (arith, fits))))

  -- 36: n untyped bytes
  new_bytes_law : (a n : ℕ) (r : Variable) → top m v k ⊢ a ∶ raw_ptr n r → Untyped (top m v k) r
      → (W : HeapTyping) → W.type ≡ type_of m v.fn v.map (suc k) → (p j : ℕ) → p < pages → W.owner p ≡ suc (v.map k r.number)
      → size m ((top m v k).region_type r.number) * j + size m ((top m v k).region_type r.number) * n ≤ page_bytes
      → Value m W (close (v.map k) ((top m v k).register_type a)) (page_bytes * p + size m ((top m v k).region_type r.number) * j)
  unfolding sub
  new_bytes_law a n r ra u W same p j inside own fits =
      rw ra.1 (inr (bytes_run W same n r u (raw_count (subst (λ (T : Tree variable). GoodTree m T) ra.1 (register_ok a ra.0))).0 p j inside own fits))

  -- as many as a page has
  new_few : (a n : ℕ) (r : Variable) → top m v k ⊢ a ∶ raw_ptr n r → Untyped (top m v k) r → size m ((top m v k).region_type r.number) * n ≤ page_bytes
  new_few a n r ra u =
      let one : size m ((top m v k).region_type r.number) ≡ 1 = ap (λ (T : Tree variable). size m T) u.1 ∙ ap (λ (L : Layout variable). L.size) (flat_bytes m) in
      rw one (omega (arith, (raw_count (subst (λ (T : Tree variable). GoodTree m T) ra.1 (register_ok a ra.0))).1))

  -- c places in a row of region variable r, as many as register a's type asks for, whose address is a value of that type wherever they lie
  allocate_safe : (a r c : ℕ) → a < (top m v k).registers → r < regions (top m v k) → Next m v k → size m ((top m v k).region_type r) * c ≤ page_bytes
      → c ≡ places_of ((top m v k).register_type a)
      → ((W : HeapTyping) → W.type ≡ type_of m v.fn v.map (suc k) → (p j : ℕ) → p < pages → W.owner p ≡ suc (v.map k r)
      → size m ((top m v k).region_type r) * j + size m ((top m v k).region_type r) * c ≤ page_bytes
      → Value m W (close (v.map k) ((top m v k).register_type a)) (page_bytes * p + size m ((top m v k).region_type r) * j))
      → Safe m v k (allocate_in v (v.map k r) (size m ((top m v k).region_type r)) c a)
  unfolding allocate room_page unowned_page has_room has_place
  allocate_safe a r c ra scope n few count lies =
      split_lt (Safe m v k) p hi (take_places p (unused_place v.mark room c p) c s a) (cond (ltb q hi) (grant_page q i c a) (stop no_page)) old
      (λ _. split_lt (Safe m v k) q hi (grant_page q i c a) (stop no_page) fresh (λ _. listed no_page (omega arith) (omega arith)))
    where
      i : ℕ
      i = v.map k r

      s : ℕ
      s = size m ((top m v k).region_type r)

      room : ℕ
      room = places_in_page s

      lo : ℕ
      lo = low_page v.range

      hi : ℕ
      hi = end_page v.range

      p : ℕ
      p = room_page v.owner (has_place v.mark room c) lo hi i

      q : ℕ
      q = unowned_page v.owner lo hi

      -- each place has a byte
      places : (x : ℕ) → s * x ≤ page_bytes → x ≤ page_bytes
      places x h = let one : 1 * x ≤ s * x = mul-le-mul_right x (region_size_law r scope).0 in omega (arith, h, one)

      old : p < hi → Safe m v k (take_places p (unused_place v.mark room c p) c s a)
      old h =
          let j : ℕ = unused_place v.mark room c p in
          let l = first_from_least (λ p. not (has_room v.owner (has_place v.mark room c) i p)) lo (hi - lo) in
          let from = l.from in
          let inside : p < pages = omega arith in
          let b = not-false (has_room v.owner (has_place v.mark room c) i p) (l.fails (omega arith)) in
          let d = both (eqb (v.owner p) (suc i)) (ltb j (run_starts room c)) b in
          let own : v.owner p ≡ suc i = eqb-true (v.owner p) (suc i) d.0 in
          let place : j < run_starts room c = ltb-true j (run_starts room c) d.1 in
          let whole : s * (j + c) ≤ page_bytes = places_fit s (j + c) (omega arith) in
          let fits : s * j + s * c ≤ page_bytes = omega (arith, whole) in
          record {
            region = i;
            inside = inside;
            own = own;
            size = sym (object_size r scope);
            places = places (j + c) whole;
            fits = fits;
            unused = run_unused v.mark room c p place;
            count = count;
            register = record { register = ra; next = n; value = lies (heap_typing m v (suc k)) refl p j inside own fits };
          }

      fresh : q < hi → Safe m v k (grant_page q i c a)
      fresh h =
          let l = first_from_least (λ p. not (eqb (v.owner p) 0)) lo (hi - lo) in
          let from = l.from in
          let inside : q < pages = omega arith in
          let z : v.owner q ≡ 0 = eqb-true (v.owner q) 0 (not-false (eqb (v.owner q) 0) (l.fails (omega arith))) in
          let at : page_bytes * q + s * 0 ≡ page_bytes * q = omega arith in
          record {
            in_range = (from, h);
            inside = inside;
            unowned = z;
            alive = (home r scope).alive;
            places = places c few;
            fits = rw (object_size r scope) few;
            count = count;
            register = record {
              register = ra;
              next = n;
              value = rw at at (lies (heap_typing m (granted q i v) (suc k)) refl q 0 inside (upd_same v.owner q (suc i)) (omega (arith, few)));
            };
          }

  -- the place of a pointer to a whole object
  free_safe : (a : ℕ) (T : Tree variable) (r : Variable) → top m v k ⊢ a ∶ ptr T r → Next m v k → v.reg k a ≢ 0
      → SafeFree m v k (v.reg k a / page_bytes) (v.reg k a % page_bytes / size m ((top m v k).region_type r.number))
  free_safe a T r ra n z =
      let h = pointed a T r ra z in
      let scope = pointer_scope a T r ra in
      let s : ℕ = size m ((top m v k).region_type r.number) in
      let j : ℕ = v.reg k a % page_bytes / s in
      let fits : s * suc j ≤ page_bytes = rw (object_size r.number scope) at h.fits in
      let one : 1 * suc j ≤ s * suc j = mul-le-mul_right (suc j) (region_size_law r.number scope).0 in
      record { next = n; inside = h.inside; place = omega (arith, fits, one) }

  -- ---- 33

  push_safe : (a h : ℕ) (rs : List Variable) (xs : List ℕ) → (top m v k).code (v.pc k) ≡ call a h rs xs → CallRule m (top m v k) a h rs xs → suc k < most_frames
      → SafePush m v k h (callee_map m form v k (top m v k) (m.function h) rs) (callee_registers m form v k (top m v k) (m.function h) xs)
  unfolding callee_map callee_registers
  push_safe a h rs xs at rule room = record {
    room = room;
    result = a;
    regions = rs;
    arguments = xs;
    at = at;
    rule = rule;
    through = λ i l. cond_lt (v.map k (arg rs (region i)).number) (get_or new (i - (m.function h).region_params) 0) l;
    fresh = λ i l. rw (local i) (numbers_out (m.function h).locals lives (get_or new i 0) (number_in (m.function h).locals lives i l));
    different = λ i l j o d. rw (local i, local j) (numbers_differ (m.function h).locals lives i j l o d);
    numbered = λ i l. rw (local i)
        (let x = numbers_small (m.function h).locals lives (get_or new i 0) (number_in (m.function h).locals lives i l) in
        omega (arith, x, live_length m ok v.fn v.map (suc k) g.frames.known, (ok.function h rule.known).ranges.regions));
    spare = λ i l.
        cond_nlt (v.map k (arg rs (region i)).number) (get_or new (i - (m.function h).region_params) 0) {m = i} {n = (m.function h).region_params} (omega arith)
        ∙ get_or-eq_default new 0 (omega (arith, length_numbers (m.function h).locals lives));
    values = λ i l. cond_lt (v.reg k (argument xs i)) 0 l;
    zeros = λ i l. cond_nlt (v.reg k (argument xs i)) 0 l;
  }
    where
      lives : List ℕ
      lives = live_list m v.fn v.map (suc k)

      new : List ℕ
      new = lowest_numbers (m.function h).locals (live_list m v.fn v.map (suc k))

      local : (i : ℕ) → callee_map m form v k (top m v k) (m.function h) rs ((m.function h).region_params + i) ≡ get_or (lowest_numbers (m.function h).locals (live_list m v.fn v.map (suc k))) i 0
      local i =
          let p : ℕ = (m.function h).region_params in
          let e : p + i - p ≡ i = omega arith in
          cond_nlt (v.map k (arg rs (region (p + i))).number) (get_or new (p + i - p) 0) {m = p + i} {n = p} (omega arith) ∙ ap (λ (x : ℕ). get_or new x 0) e

  -- ---- 34

  return_safe : (a : ℕ) → top m v k ⊢ a ∶ (top m v k).result → (n : ℕ) → n ≡ k → Safe m v k (returned m form v k (top m v k) n (v.reg k a))
  unfolding returned
  return_safe a r zero e =
      let bottom : v.fn k ≡ 0 = ap v.fn (sym e) ∙ g.frames.lowest (omega arith) in
      let is : (top m v k).register_type a ≡ int 4 = r.1 ∙ ap (λ (x : ℕ). (m.function x).result) bottom ∙ ok.entry.returns in
      (sym e, int_held a 4 (r.0, is))
  return_safe a r (suc c) e =
      let inside : suc c < suc k = omega arith in
      let below : c < suc k = omega arith in
      let old = g.frames.chain c inside in
      on_call_safe (Safe m v k) (dec_stands_at_call m v.fn v.pc c) _ old.caller
      (λ h.
      let l : Chained m v.fn v.pc v.map c = record {
        caller = h;
        callee = (site_unique h old.caller).0 ∙ old.callee;
        through = rw (site_unique h old.caller).1 old.through;
      } in
      let rule = chain_rule m ok v.fn v.pc v.map (suc k) g.frames c below l in
      let caller = ok.function (v.fn c) (g.frames.known c below) in
      let same : close (v.map k) ((top m v k).register_type a) ≡ close (v.map c) ((m.function (v.fn c)).register_type h.site.result) =
      ap (close (v.map k)) r.1 ∙ ap (λ (j : ℕ). close (v.map j) (m.function (v.fn j)).result) (sym e)
      ∙ sym (through_types m ok v.fn v.pc v.map (suc k) g.frames c l (m.function (v.fn (suc c))).result (ok.function (v.fn (suc c)) (g.frames.known (suc c) inside)).result_scope)
      ∙ ap (close (v.map c)) (sym rule.result.1) in
      let on : GoesOn (call h.site.result h.site.callee h.site.regions h.site.arguments) (v.pc c) (m.function (v.fn c)).code_length =
      subst (λ (i : Instruction). GoesOn i (v.pc c) (m.function (v.fn c)).code_length) h.site.is (caller.goes_on (v.pc c) (g.frames.stands c below)) in
      let popped : SafePop m v k c h.site.result (v.reg k a) = record { caller = sym e; register = rule.result.0; next = on; value = rw same at (held a r.0) } in
      need_safe (Safe m v k) (ℕ_discrete h.site.callee (v.fn k)) _ (l.callee ∙ ap v.fn e)
      (need_safe (Safe m v k) (dec_typed m (m.function (v.fn c)) ((m.function (v.fn c)).code (v.pc c))) (pop c h.site.result (v.reg k a)) (caller.typed (v.pc c) (g.frames.stands c below)) popped))

  -- ---- all kinds

  kind_safe : {i : Instruction} → (top m v k).code (v.pc k) ≡ i → Typed m (top m v k) i → GoesOn i (v.pc k) (top m v k).code_length → Safe m v k (exec m form v k (top m v k) i)
  unfolding exec
  kind_safe e (t_constant {a} {d} {w} ra h) n = set_int a w d ra n h
  kind_safe e (t_copy {a} {b} {T} rb ra) n =
      need_safe (Safe m v k) (dec_held m form v k (top m v k) b) (assign a (v.reg k b)) (held b rb.0)
      (record { register = ra.0; next = n; value = rw (ra.1 ∙ sym rb.1) (held b rb.0) })
  kind_safe e (t_operate {o} {a} {b} {c} {w} l rb rc ra) n =
      operate_safe o a b c w w rb rc ra n (operate_fits o w (v.reg k b) (v.reg k c) l (int_held b w rb) (int_held c w rc))
  kind_safe e (t_quotient {o} {a} {b} {c} l rb rc ra) n =
      operate_safe o a b c 4 4 rb rc ra n (rw l (quotient_fits (v.reg k b) (v.reg k c)))
  kind_safe e (t_compare {o} {a} {b} {c} {w} l h rb rc ra) n =
      operate_safe o a b c w 1 rb rc ra n (compare_fits o w (v.reg k b) (v.reg k c) l h)
  kind_safe e (t_zero_extend {a} {b} {v = u} {w} rb ra) n =
      need_safe (Safe m v k) (dec_held m form v k (top m v k) b) _ (held b rb.0)
      (on_int_safe (Safe m v k) ((top m v k).register_type a) w (λ u. assign a (cut u (v.reg k b))) ra.1
      (set_int a w (cut w (v.reg k b)) ra n (cut_lt w (v.reg k b))))
  kind_safe e (t_sign_extend {a} {b} {v = u} {w} rb ra) n =
      need_safe (Safe m v k) (dec_held m form v k (top m v k) b) _ (held b rb.0)
      (on_int_safe (Safe m v k) ((top m v k).register_type a) w (λ x. on_int ((top m v k).register_type b) (λ y. assign a (sign_extended x y (v.reg k b)))) ra.1
      (on_int_safe (Safe m v k) ((top m v k).register_type b) u (λ y. assign a (sign_extended w y (v.reg k b))) rb.1
      (set_int a w (sign_extended w u (v.reg k b)) ra n (sign_lt w u (v.reg k b)))))
  kind_safe e (t_address {a} {b} {r} {T} rb ra) n =
      need_safe (Safe m v k) (dec_held m form v k (top m v k) b) _ (held b rb.0) (set_int a 4 (v.reg k b) ra n (address_lt b (ptr T r) rb refl))
  kind_safe e (t_address_bytes {a} {b} {n = count} {r} rb ra) n =
      need_safe (Safe m v k) (dec_held m form v k (top m v k) b) _ (held b rb.0) (set_int a 4 (v.reg k b) ra n (address_lt b (raw_ptr count r) rb refl))
  kind_safe e (t_check_integer {a} {b} {r} {T} rb ra) n = check_safe a b T r rb.0 ra n
  kind_safe e (t_check_pointer {a} {b} {q} {r} {S} {T} rb ra) n = check_safe a b T r rb.0 ra n
  kind_safe e (t_field {a} {b} {d} {r} {T} {U} rb ra run) n =
      need_safe (Safe m v k) (dec_held m form v k (top m v k) b) _ (held b rb.0)
      (on_ptr_safe (Safe m v k) ((top m v k).register_type b) T r (λ T r. not_zero (v.reg k b) (assign a (v.reg k b + distance (flat m T) d))) rb.1
      (not_zero_safe (Safe m v k) (v.reg k b) _ (listed zero_address (omega arith) (omega arith))
      (λ z. set_run a U r (v.reg k b + distance (flat m T) d) ra n
      (stands_field m ok.types (heap_typing m v (suc k)) (v.map k) T U (v.map k r.number) (v.reg k b) d (pointee_ok b T r rb) (pointee_ok a U r ra) run (pointed b T r rb z)))))
  kind_safe e (t_index {a} {b} {c} {n = count} {r} {T} rb rc ra) n =
      need_safe (Safe m v k) (dec_held m form v k (top m v k) b) _ (held b rb.0)
      (need_safe (Safe m v k) (dec_held m form v k (top m v k) c) _ (held c rc.0)
      (on_ptr_safe (Safe m v k) ((top m v k).register_type b) (arr count T) r
      (λ T r. on_arr T (λ x U. not_zero (v.reg k b) (cond (ltb (v.reg k c) x) (assign a (v.reg k b + v.reg k c * size m U)) (stop index_past)))) rb.1
      (unfold on_arr in
      not_zero_safe (Safe m v k) (v.reg k b) _ (listed zero_address (omega arith) (omega arith))
      (λ z. split_lt (Safe m v k) (v.reg k c) count (assign a (v.reg k b + v.reg k c * size m T)) (stop index_past)
      (λ h. set_run a T r (v.reg k b + v.reg k c * size m T) ra n
      (stands_element m ok.types (heap_typing m v (suc k)) (v.map k) T count (v.map k r.number) (v.reg k b) (v.reg k c) (pointee_ok b (arr count T) r rb) h (pointed b (arr count T) r rb z)))
      (λ h. listed index_past (omega arith) (omega arith))))))
  kind_safe e (t_load {a} {b} {r} {T} rb ra) n =
      need_safe (Safe m v k) (dec_held m form v k (top m v k) b) _ (held b rb.0)
      (not_zero_safe (Safe m v k) (v.reg k b) _ (listed zero_address (omega arith) (omega arith)) (λ z.
      let prim : Primitive T = subst (λ (U : Tree variable). Primitive U) ra.1 (facts.register_primitive a ra.0) in
      rw ra.1 (record {
        register = ra.0;
        next = n;
        from = inl (rw ra.1 (slot_of b T r prim rb z));
        bytes = rw ra.1 (sym (close_width (v.map k) T));
        touches = inl (touches b T r prim rb z);
      })))
  kind_safe e (t_store {a} {b} {r} {T} ra rb) n =
      need_safe (Safe m v k) (dec_held m form v k (top m v k) a) _ (held a ra.0)
      (need_safe (Safe m v k) (dec_held m form v k (top m v k) b) _ (held b rb.0)
      (not_zero_safe (Safe m v k) (v.reg k a) _ (listed zero_address (omega arith) (omega arith)) (λ z.
      let prim : Primitive T = subst (λ (U : Tree variable). Primitive U) rb.1 (facts.register_primitive b rb.0) in
      rw rb.1 (record {
        next = n;
        what = inl (record {
          type = close (v.map k) T;
          slot = slot_of a T r prim ra z;
          bytes = sym (close_width (v.map k) T);
          value = subst (λ (U : Tree variable). Value m (heap_typing m v (suc k)) (close (v.map k) U) (v.reg k b)) rb.1 (held b rb.0);
        });
        touches = inl (touches a T r prim ra z);
      }))))
  kind_safe e (t_new {a} {r} {T} ra scope same) n =
      on_ptr_safe (Safe m v k) ((top m v k).register_type a) T r
      (λ T r. need (dec_home m v.fn v.map k (top m v k) r) (allocate_in v (v.map k r) (size m ((top m v k).region_type r)) 1 a)) ra.1
      (need_safe (Safe m v k) (dec_home m v.fn v.map k (top m v k) r.number) _ (home r.number scope)
      (allocate_safe a r.number 1 ra.0 scope n (omega (arith, (region_size_law r.number scope).1)) (sym (ap places_of ra.1)) (new_value a T r ra same)))
  kind_safe e (t_free {a} {r} {T} ra scope same) n =
      need_safe (Safe m v k) (dec_held m form v k (top m v k) a) _ (held a ra.0)
      (on_ptr_safe (Safe m v k) ((top m v k).register_type a) T r
      (λ T r. need (dec_home m v.fn v.map k (top m v k) r) (not_zero (v.reg k a) (free_place (v.reg k a / page_bytes) (v.reg k a % page_bytes / size m ((top m v k).region_type r))))) ra.1
      (need_safe (Safe m v k) (dec_home m v.fn v.map k (top m v k) r.number) _ (home r.number scope)
      (not_zero_safe (Safe m v k) (v.reg k a) _ (listed zero_address (omega arith) (omega arith)) (λ z. free_safe a T r ra n z))))
  kind_safe e (t_input {a} {c} rc ra) n =
      need_safe (Safe m v k) (dec_held m form v k (top m v k) c) _ (held c rc.0)
      (split_lt (Safe m v k) (v.reg k c) (length form) (assign a (byte_at form (v.reg k c))) (stop form_ended)
      (λ h. set_int a 1 (byte_at form (v.reg k c)) ra n (bytes (v.reg k c)))
      (λ h. listed form_ended (omega arith) (omega arith)))
  kind_safe e (t_output {b} rb) n =
      need_safe (Safe m v k) (dec_held m form v k (top m v k) b) _ (held b rb.0)
      (split_lt (Safe m v k) v.output_count output_bytes (emit (v.reg k b)) (stop output_full)
      (λ h. (n, h, int_held b 1 rb))
      (λ h. listed output_full (omega arith) (omega arith)))
  kind_safe e (t_jump h) n = h
  kind_safe e (t_branch {a} {d} {w} ra h) n =
      need_safe (Safe m v k) (dec_held m form v k (top m v k) a) _ (held a ra.0)
      (split_eq (Safe m v k) (v.reg k a) 0 (go_to (suc (v.pc k))) (go_to d) (λ z. n) (λ z. h))
  kind_safe e (t_call {a} {g = h} {rs} {xs} known scope types arguments result) n =
      let rule : CallRule m (top m v k) a h rs xs = record { known = known; scope = scope; region_types = types; arguments = arguments; result = result } in
      need_safe (Safe m v k) (dec_all (λ i. dec_held m form v k (top m v k) (argument xs i)) (m.function h).params) _ (λ i l. held (argument xs i) (arguments i l).0)
      (need_safe (Safe m v k) (dec_all (λ i. dec_live m v.fn v.map (suc k) (suc (v.map k (arg rs (region i)).number))) (m.function h).region_params) _
      (λ i l. (home (arg rs (region i)).number (scope i l)).alive)
      (split_lt (Safe m v k) (suc k) most_frames (push h (callee_map m form v k (top m v k) (m.function h) rs) (callee_registers m form v k (top m v k) (m.function h) xs)) (stop too_deep)
      (λ l. push_safe a h rs xs e rule l) (λ l. listed too_deep (omega arith) (omega arith))))
  kind_safe e (t_return {a} ra) n = need_safe (Safe m v k) (dec_held m form v k (top m v k) a) _ (held a ra.0) (return_safe a ra k refl)
  kind_safe e (t_new_bytes {a} {n = count} {r} ra u) n =
      on_raw_safe (Safe m v k) ((top m v k).register_type a) count r
      (λ c r. need (dec_home m v.fn v.map k (top m v k) r) (allocate_in v (v.map k r) (size m ((top m v k).region_type r)) c a)) ra.1
      (need_safe (Safe m v k) (dec_home m v.fn v.map k (top m v k) r.number) _ (home r.number u.0)
      (allocate_safe a r.number count ra.0 u.0 n (new_few a count r ra u) (sym (ap places_of ra.1)) (new_bytes_law a count r ra u)))
  kind_safe e (t_load_byte {a} {b} {c} {n = count} {r} rb u rc ra) n =
      need_safe (Safe m v k) (dec_held m form v k (top m v k) b) _ (held b rb.0)
      (need_safe (Safe m v k) (dec_held m form v k (top m v k) c) _ (held c rc.0)
      (on_raw_safe (Safe m v k) ((top m v k).register_type b) count r
      (λ x r. not_zero (v.reg k b) (cond (ltb (v.reg k c) x) (fetch b a (v.reg k b + v.reg k c) 1) (stop index_past))) rb.1
      (not_zero_safe (Safe m v k) (v.reg k b) _ (listed zero_address (omega arith) (omega arith))
      (λ z. split_lt (Safe m v k) (v.reg k c) count (fetch b a (v.reg k b + v.reg k c) 1) (stop index_past)
      (λ h. record {
        register = ra.0;
        next = n;
        from = inr (byte_type a ra, untyped_byte b count r (v.reg k c) rb z h);
        bytes = sym (ap width (byte_type a ra));
        touches = inr (touches_byte b count r (v.reg k c) rb u z h);
      })
      (λ h. listed index_past (omega arith) (omega arith))))))
  kind_safe e (t_store_byte {a} {b} {c} {n = count} {r} ra u rc rb) n =
      need_safe (Safe m v k) (dec_held m form v k (top m v k) a) _ (held a ra.0)
      (need_safe (Safe m v k) (dec_held m form v k (top m v k) b) _ (held b rb.0)
      (need_safe (Safe m v k) (dec_held m form v k (top m v k) c) _ (held c rc.0)
      (on_raw_safe (Safe m v k) ((top m v k).register_type a) count r
      (λ x r. not_zero (v.reg k a) (cond (ltb (v.reg k c) x) (save a (v.reg k a + v.reg k c) 1 (v.reg k b)) (stop index_past))) ra.1
      (not_zero_safe (Safe m v k) (v.reg k a) _ (listed zero_address (omega arith) (omega arith))
      (λ z. split_lt (Safe m v k) (v.reg k c) count (save a (v.reg k a + v.reg k c) 1 (v.reg k b)) (stop index_past)
      (λ h. record {
        next = n;
        what = inr (untyped_byte a count r (v.reg k c) ra z h);
        touches = inr (touches_byte a count r (v.reg k c) ra u z h);
      })
      (λ h. listed index_past (omega arith) (omega arith)))))))
  kind_safe e (t_check_bytes {a} {b} {n = count} {r} {T} rb address ra u) n = check_bytes_safe a b count r rb.0 ra u n

  -- the next effect of a good state is safe
  pub progress : Safe m v k (effect_at m form v (suc k))
  unfolding effect_at
  progress =
      let typed = facts.typed (v.pc k) (g.frames.stands k low) in
      need_safe (Safe m v k) (dec_lt k most_frames) _ g.frames.few
      (need_safe (Safe m v k) (dec_lt (v.fn k) m.functions) _ (g.frames.known k low)
      (need_safe (Safe m v k) (dec_lt (v.pc k) (top m v k).code_length) _ (g.frames.stands k low)
      (need_safe (Safe m v k) (dec_typed m (top m v k) ((top m v k).code (v.pc k))) _ typed
      (kind_safe refl typed (facts.goes_on (v.pc k) (g.frames.stands k low))))))
