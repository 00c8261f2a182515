-- The typing rules decided: `dec_typed` computes, and its answer is the judgment itself or its refutation. Refusal 7 is where it
-- says no. Nothing here needs to be read to know what the rules are. Assumes nothing.
use Rattle.std.specs.Prelude.{◌≡◌, refl, ◌≢◌, List, ℕ, ◌^◌, ◌<◌, ◌≤◌}
use Rattle.std.proofs.Common.{sym, ap, ◌∙◌, subst, inl, inr, arith}
use Rattle.std.proofs.Math.Decide.{ℕ_discrete, dec_lt, dec_le}
use Rattle.words.specs.Decide.{map_dec, dec_both, dec_either, dec_all, dec_the}
use Rattle.rules.specs.Types.{variable, Variable, region, dec_region, Tree, int, ptr, arr, struct, raw_ptr, bytes, sub, arg, form, dec_tree}
use Rattle.rules.specs.Module.{Module, Function, regions, argument, Instruction, constant, copy, operate, zero_extend, sign_extend, address, check, field, index, load, store, new, free, input, output, jump, branch, call, return, new_bytes, load_byte, store_byte, check_bytes}
use Rattle.rules.specs.Flat.{Run, Same, dec_run, dec_same, flat}
use Rattle.rules.specs.Operands.{signed_quotient, last_operation}
use Rattle.rules.specs.Typing.{◌⊢◌∶◌, Untyped, AnAddress, Typed, t_constant, t_copy, t_operate, t_quotient, t_compare, t_zero_extend, t_sign_extend, t_address, t_address_bytes, t_check_integer, t_check_pointer, t_field, t_index, t_load, t_store, t_new, t_free, t_input, t_output, t_jump, t_branch, t_call, t_return, t_new_bytes, t_load_byte, t_store_byte, t_check_bytes}

-- ---- forms of a tree

pub record IsInt (T : Tree variable) : Type 0 where
  pub w : ℕ
  pub is : T ≡ int w

pub record IsPtr (T : Tree variable) : Type 0 where
  pub target : Tree variable
  pub region : Variable
  pub is : T ≡ ptr target region

pub record IsArr (T : Tree variable) : Type 0 where
  pub n : ℕ
  pub element : Tree variable
  pub is : T ≡ arr n element

pub record IsRaw (T : Tree variable) : Type 0 where
  pub n : ℕ
  pub region : Variable
  pub is : T ≡ raw_ptr n region

pub differ : (T U : Tree variable) → form T ≢ form U → T ≢ U
differ T U n e = n (ap form e)

unfoldable pub as_int : (T : Tree variable) → Dec (IsInt T)
as_int (int w) = yes (record { w = w; is = refl })
as_int (ptr T r) = no (λ h. differ (ptr T r) (int h.w) (λ e. omega arith) h.is)
as_int (arr n T) = no (λ h. differ (arr n T) (int h.w) (λ e. omega arith) h.is)
as_int (struct N rs) = no (λ h. differ (struct N rs) (int h.w) (λ e. omega arith) h.is)
as_int (raw_ptr n r) = no (λ h. differ (raw_ptr n r) (int h.w) (λ e. omega arith) h.is)
as_int bytes = no (λ h. differ bytes (int h.w) (λ e. omega arith) h.is)

unfoldable pub as_ptr : (T : Tree variable) → Dec (IsPtr T)
as_ptr (int w) = no (λ h. differ (int w) (ptr h.target h.region) (λ e. omega arith) h.is)
as_ptr (ptr T r) = yes (record { target = T; region = r; is = refl })
as_ptr (arr n T) = no (λ h. differ (arr n T) (ptr h.target h.region) (λ e. omega arith) h.is)
as_ptr (struct N rs) = no (λ h. differ (struct N rs) (ptr h.target h.region) (λ e. omega arith) h.is)
as_ptr (raw_ptr n r) = no (λ h. differ (raw_ptr n r) (ptr h.target h.region) (λ e. omega arith) h.is)
as_ptr bytes = no (λ h. differ bytes (ptr h.target h.region) (λ e. omega arith) h.is)

unfoldable pub as_arr : (T : Tree variable) → Dec (IsArr T)
as_arr (int w) = no (λ h. differ (int w) (arr h.n h.element) (λ e. omega arith) h.is)
as_arr (ptr T r) = no (λ h. differ (ptr T r) (arr h.n h.element) (λ e. omega arith) h.is)
as_arr (arr n T) = yes (record { n = n; element = T; is = refl })
as_arr (struct N rs) = no (λ h. differ (struct N rs) (arr h.n h.element) (λ e. omega arith) h.is)
as_arr (raw_ptr n r) = no (λ h. differ (raw_ptr n r) (arr h.n h.element) (λ e. omega arith) h.is)
as_arr bytes = no (λ h. differ bytes (arr h.n h.element) (λ e. omega arith) h.is)

unfoldable pub as_raw : (T : Tree variable) → Dec (IsRaw T)
as_raw (int w) = no (λ h. differ (int w) (raw_ptr h.n h.region) (λ e. omega arith) h.is)
as_raw (ptr T r) = no (λ h. differ (ptr T r) (raw_ptr h.n h.region) (λ e. omega arith) h.is)
as_raw (arr n T) = no (λ h. differ (arr n T) (raw_ptr h.n h.region) (λ e. omega arith) h.is)
as_raw (struct N rs) = no (λ h. differ (struct N rs) (raw_ptr h.n h.region) (λ e. omega arith) h.is)
as_raw (raw_ptr n r) = yes (record { n = n; region = r; is = refl })
as_raw bytes = no (λ h. differ bytes (raw_ptr h.n h.region) (λ e. omega arith) h.is)

-- the types that kind 39 takes
unfoldable pub dec_an_address : (T : Tree variable) → Dec (AnAddress T)
dec_an_address (int w) = ℕ_discrete w 4
dec_an_address (ptr T r) = yes tt
dec_an_address (arr n T) = no (λ h. h)
dec_an_address (struct N rs) = no (λ h. h)
dec_an_address (raw_ptr n r) = yes tt
dec_an_address bytes = no (λ h. h)

-- ---- registers

unfoldable pub dec_reg : (f : Function) (a : ℕ) (T : Tree variable) → Dec (f ⊢ a ∶ T)
dec_reg f a T = dec_both (dec_lt a f.registers) (dec_tree (f.register_type a) T)

-- a rule that names the width of register b
unfoldable pub with_int : (f : Function) (b : ℕ) (P : ℕ → Type 0) → ((w : ℕ) → P w → f.register_type b ≡ int w) → ((w : ℕ) → Dec (P w)) → Dec ((w : ℕ) × P w)
with_int f b P is dec = elim (as_int (f.register_type b)) [
  | yes i ↦ dec_the i.w (λ x p. cc (is x p, i.is)) (dec i.w)
  | no n ↦ no (λ h. n (record { w = h.0; is = is h.0 h.1 }))
]

-- a rule that names the target and the region of pointer register b
unfoldable pub with_ptr : (f : Function) (b : ℕ) (P : Tree variable → Variable → Type 0) → ((T : Tree variable) (r : Variable) → P T r → f.register_type b ≡ ptr T r) → ((T : Tree variable) (r : Variable) → Dec (P T r)) → Dec ((T : Tree variable) × ((r : Variable) × P T r))
with_ptr f b P is dec = elim (as_ptr (f.register_type b)) [
  | yes i ↦ dec_the i.target (λ T h. cc (is T h.0 h.1, i.is)) (dec_the i.region (λ r h. cc (is i.target r h, i.is)) (dec i.target i.region))
  | no n ↦ no (λ h. n (record { target = h.0; region = h.1.0; is = is h.0 h.1.0 h.1.1 }))
]

-- a rule that names the bytes and the region of untyped pointer register b
unfoldable pub with_raw : (f : Function) (b : ℕ) (P : ℕ → Variable → Type 0) → ((n : ℕ) (r : Variable) → P n r → f.register_type b ≡ raw_ptr n r) → ((n : ℕ) (r : Variable) → Dec (P n r)) → Dec ((n : ℕ) × ((r : Variable) × P n r))
with_raw f b P is dec = elim (as_raw (f.register_type b)) [
  | yes i ↦ dec_the i.n (λ n h. cc (is n h.0 h.1, i.is)) (dec_the i.region (λ r h. cc (is i.n r h, i.is)) (dec i.n i.region))
  | no n ↦ no (λ h. n (record { n = h.0; region = h.1.0; is = is h.0 h.1.0 h.1.1 }))
]

unfoldable pub an_int : (f : Function) (a : ℕ) → Dec ((w : ℕ) × (f ⊢ a ∶ int w))
an_int f a = with_int f a (λ w. f ⊢ a ∶ int w) (λ w h. h.1) (λ w. dec_reg f a (int w))

unfoldable pub a_ptr : (f : Function) (a : ℕ) → Dec ((T : Tree variable) × ((r : Variable) × (f ⊢ a ∶ ptr T r)))
a_ptr f a = with_ptr f a (λ T r. f ⊢ a ∶ ptr T r) (λ T r h. h.1) (λ T r. dec_reg f a (ptr T r))

unfoldable pub a_raw : (f : Function) (b : ℕ) → Dec ((n : ℕ) × ((r : Variable) × (f ⊢ b ∶ raw_ptr n r)))
a_raw f b = with_raw f b (λ n r. f ⊢ b ∶ raw_ptr n r) (λ n r h. h.1) (λ n r. dec_reg f b (raw_ptr n r))

-- register b is an untyped pointer into an untyped region
unfoldable pub dec_untyped : (f : Function) (b : ℕ) → Dec ((n : ℕ) × ((r : Variable) × ((f ⊢ b ∶ raw_ptr n r) × Untyped f r)))
dec_untyped f b = with_raw f b (λ n r. (f ⊢ b ∶ raw_ptr n r) × Untyped f r) (λ n r h. h.0.1)
    (λ n r. dec_both (dec_reg f b (raw_ptr n r)) (dec_both (dec_lt r.number (regions f)) (dec_tree (f.region_type r.number) bytes)))

-- ---- the rules

module _ (m : Module) (f : Function) where
  unfoldable pub dec_constant : (a d : ℕ) → Dec (Typed m f (constant a d))
  dec_constant a d = map_dec (λ h. t_constant h.1.0 h.1.1) (λ t. elim t [ t_constant {w = w} p q ↦ (w, (p, q)) ])
      (with_int f a (λ w. (f ⊢ a ∶ int w) × (d < 256 ^ w)) (λ w h. h.0.1) (λ w. dec_both (dec_reg f a (int w)) (dec_lt d (256 ^ w))))

  unfoldable pub dec_copy : (a b : ℕ) → Dec (Typed m f (copy a b))
  dec_copy a b = map_dec (λ h. t_copy (h.0, refl) h.1) (λ t. elim t [ t_copy p q ↦ (p.0, (q.0, q.1 ∙ sym p.1)) ]) (dec_both (dec_lt b f.registers) (dec_reg f a (f.register_type b)))

  unfoldable pub dec_operate : (o a b c : ℕ) → Dec (Typed m f (operate o a b c))
  dec_operate o a b c = map_dec
      (λ h. elim h [
        | inl p ↦ t_operate p.1.1.0 p.1.0 p.1.1.1.0 p.1.1.1.1
        | inr (inl q) ↦ t_quotient q.0 q.1.0 q.1.1.0 q.1.1.1
        | inr (inr q) ↦ t_compare q.1.1.0 q.1.1.1.0 q.1.0 q.1.1.1.1.0 q.1.1.1.1.1
      ])
      (λ t. elim t [
        | t_operate {w = w} l p q r ↦ inl (w, (p, (l, (q, r))))
        | t_quotient e p q r ↦ inr (inl (e, (p, (q, r))))
        | t_compare {w = w} k l p q r ↦ inr (inr (w, (p, (k, (l, (q, r))))))
      ])
      (dec_either
      (with_int f b (λ w. (f ⊢ b ∶ int w) × ((o < signed_quotient) × ((f ⊢ c ∶ int w) × (f ⊢ a ∶ int w)))) (λ w h. h.0.1)
      (λ w. dec_both (dec_reg f b (int w)) (dec_both (dec_lt o signed_quotient) (dec_both (dec_reg f c (int w)) (dec_reg f a (int w))))))
      (dec_either
      (dec_both (ℕ_discrete o signed_quotient) (dec_both (dec_reg f b (int 4)) (dec_both (dec_reg f c (int 4)) (dec_reg f a (int 4)))))
      (with_int f b (λ w. (f ⊢ b ∶ int w) × ((signed_quotient < o) × ((o ≤ last_operation) × ((f ⊢ c ∶ int w) × (f ⊢ a ∶ int 1))))) (λ w h. h.0.1)
      (λ w. dec_both (dec_reg f b (int w)) (dec_both (dec_lt signed_quotient o) (dec_both (dec_le o last_operation) (dec_both (dec_reg f c (int w)) (dec_reg f a (int 1)))))))))

  unfoldable pub dec_zero : (a b : ℕ) → Dec (Typed m f (zero_extend a b))
  dec_zero a b = map_dec (λ h. t_zero_extend h.1.1 h.0.1) (λ t. elim t [ t_zero_extend {v = v} {w = w} p q ↦ ((w, q), (v, p)) ]) (dec_both (an_int f a) (an_int f b))

  unfoldable pub dec_signed : (a b : ℕ) → Dec (Typed m f (sign_extend a b))
  dec_signed a b = map_dec (λ h. t_sign_extend h.1.1 h.0.1) (λ t. elim t [ t_sign_extend {v = v} {w = w} p q ↦ ((w, q), (v, p)) ]) (dec_both (an_int f a) (an_int f b))

  unfoldable pub dec_address : (a b : ℕ) → Dec (Typed m f (address a b))
  dec_address a b = map_dec
      (λ h. elim h.1 [ inl p ↦ t_address p.1.1 h.0 | inr p ↦ t_address_bytes p.1.1 h.0 ])
      (λ t. elim t [ t_address {r = r} {T = T} p q ↦ (q, inl (T, (r, p))) | t_address_bytes {n = n} {r = r} p q ↦ (q, inr (n, (r, p))) ])
      (dec_both (dec_reg f a (int 4)) (dec_either (a_ptr f b) (a_raw f b)))

  unfoldable pub dec_check : (a b : ℕ) → Dec (Typed m f (check a b))
  dec_check a b = map_dec
      (λ h. elim h.0 [ inl p ↦ t_check_integer p h.1.1.1 | inr p ↦ t_check_pointer p.1.1 h.1.1.1 ])
      (λ t. elim t [ t_check_integer {r = r} {T = T} p q ↦ (inl p, (T, (r, q))) | t_check_pointer {q = s} {r = r} {S = S} {T = T} p q ↦ (inr (S, (s, p)), (T, (r, q))) ])
      (dec_both (dec_either (dec_reg f b (int 4)) (a_ptr f b)) (a_ptr f a))

  unfoldable pub dec_field : (a b d : ℕ) → Dec (Typed m f (field a b d))
  dec_field a b d = map_dec (λ h. t_field h.1.1.0 h.1.1.1.1.1.0.0 h.1.1.1.1.1.1) (λ t. elim t [ t_field {r = r} {T = T} {U = U} p q h ↦ (T, (r, (p, (U, (r, ((q, refl), h)))))) ])
      (with_ptr f b (λ T r. (f ⊢ b ∶ ptr T r) × ((U : Tree variable) × ((q : Variable) × (((f ⊢ a ∶ ptr U r) × (q ≡ r)) × Run (flat m T) d (flat m U))))) (λ T r h. h.0.1)
      (λ T r. dec_both (dec_reg f b (ptr T r))
      (with_ptr f a (λ U q. ((f ⊢ a ∶ ptr U r) × (q ≡ r)) × Run (flat m T) d (flat m U)) (λ U q h. h.0.0.1 ∙ ap (ptr U) (sym h.0.1))
      (λ U q. dec_both (dec_both (dec_reg f a (ptr U r)) (dec_region q r)) (dec_run (flat m T) d (flat m U))))))

  unfoldable pub dec_index : (a b c : ℕ) → Dec (Typed m f (index a b c))
  dec_index a b c = go (as_ptr (f.register_type b))
    where
      back : Typed m f (index a b c) → (n : ℕ) × ((T : Tree variable) × ((r : Variable) × ((f ⊢ b ∶ ptr (arr n T) r) × ((f ⊢ c ∶ int 4) × (f ⊢ a ∶ ptr T r)))))
      back (t_index {n = n} {r = r} {T = T} p q s) = (n, (T, (r, (p, (q, s)))))

      element : (i : IsPtr (f.register_type b)) → Dec (IsArr i.target) → Dec (Typed m f (index a b c))
      element i (yes j) = map_dec
          (λ h. t_index (h.1.0, i.is ∙ ap (λ (T : Tree variable). ptr T i.region) j.is) h.1.1 h.0)
          (λ s.
          let k = back s in
          let e : i.target ≡ arr k.0 k.1.0 = cc (i.is, k.1.1.1.0.1) in
          let t : k.1.0 ≡ j.element = cc (e, j.is) in
          let r : k.1.1.0 ≡ i.region = cc (i.is, k.1.1.1.0.1) in
          (rw (t, r) at k.1.1.1.1.1, (k.1.1.1.0.0, k.1.1.1.1.0)))
          (dec_both (dec_reg f a (ptr j.element i.region)) (dec_both (dec_lt b f.registers) (dec_reg f c (int 4))))
      element i (no n) = no (λ s. let k = back s in
          n (record { n = k.0; element = k.1.0; is = cc (i.is, k.1.1.1.0.1) }))

      go : Dec (IsPtr (f.register_type b)) → Dec (Typed m f (index a b c))
      go (yes i) = element i (as_arr i.target)
      go (no n) = no (λ s. let k = back s in n (record { target = arr k.0 k.1.0; region = k.1.1.0; is = k.1.1.1.0.1 }))

  -- p points to the type of register v
  unfoldable pub dec_through : (p v : ℕ) → Dec ((r : Variable) × ((f ⊢ p ∶ ptr (f.register_type v) r) × (v < f.registers)))
  dec_through p v = map_dec
      (λ h. (h.1.0, (subst (λ (T : Tree variable). f ⊢ p ∶ ptr T h.1.0) h.1.1.1 h.1.1.0.0, h.1.1.0.1)))
      (λ s. (f.register_type v, (s.0, ((s.1.0, s.1.1), refl))))
      (with_ptr f p (λ T r. ((f ⊢ p ∶ ptr T r) × (v < f.registers)) × (T ≡ f.register_type v)) (λ T r h. h.0.0.1)
      (λ T r. dec_both (dec_both (dec_reg f p (ptr T r)) (dec_lt v f.registers)) (dec_tree T (f.register_type v))))

  unfoldable pub dec_load : (a b : ℕ) → Dec (Typed m f (load a b))
  dec_load a b = map_dec (λ h. t_load h.1.0 (h.1.1, refl)) (λ t. elim t [ t_load {r = r} p q ↦ (r, ((p.0, p.1 ∙ ap (λ (T : Tree variable). ptr T r) (sym q.1)), q.0)) ]) (dec_through b a)

  unfoldable pub dec_store : (a b : ℕ) → Dec (Typed m f (store a b))
  dec_store a b = map_dec (λ h. t_store h.1.0 (h.1.1, refl)) (λ t. elim t [ t_store {r = r} p q ↦ (r, ((p.0, p.1 ∙ ap (λ (T : Tree variable). ptr T r) (sym q.1)), q.0)) ]) (dec_through a b)

  -- a points to a whole object of its region
  unfoldable pub dec_whole : (a : ℕ) → Dec ((T : Tree variable) × ((r : Variable) × ((f ⊢ a ∶ ptr T r) × ((r.number < regions f) × Same (flat m T) (flat m (f.region_type r.number))))))
  dec_whole a =
      with_ptr f a (λ T r. (f ⊢ a ∶ ptr T r) × ((r.number < regions f) × Same (flat m T) (flat m (f.region_type r.number)))) (λ T r h. h.0.1)
      (λ T r. dec_both (dec_reg f a (ptr T r)) (dec_both (dec_lt r.number (regions f)) (dec_same (flat m T) (flat m (f.region_type r.number)))))

  unfoldable pub dec_new : (a : ℕ) → Dec (Typed m f (new a))
  dec_new a = map_dec (λ h. t_new h.1.1.0 h.1.1.1.0 h.1.1.1.1) (λ t. elim t [ t_new {r = r} {T = T} p q s ↦ (T, (r, (p, (q, s)))) ]) (dec_whole a)

  unfoldable pub dec_free : (a : ℕ) → Dec (Typed m f (free a))
  dec_free a = map_dec (λ h. t_free h.1.1.0 h.1.1.1.0 h.1.1.1.1) (λ t. elim t [ t_free {r = r} {T = T} p q s ↦ (T, (r, (p, (q, s)))) ]) (dec_whole a)

  unfoldable pub dec_input : (a c : ℕ) → Dec (Typed m f (input a c))
  dec_input a c = map_dec (λ h. t_input h.0 h.1) (λ t. elim t [ t_input p q ↦ (p, q) ]) (dec_both (dec_reg f c (int 4)) (dec_reg f a (int 1)))

  unfoldable pub dec_output : (b : ℕ) → Dec (Typed m f (output b))
  dec_output b = map_dec t_output (λ t. elim t [ t_output p ↦ p ]) (dec_reg f b (int 1))

  unfoldable pub dec_jump : (d : ℕ) → Dec (Typed m f (jump d))
  dec_jump d = map_dec t_jump (λ t. elim t [ t_jump p ↦ p ]) (dec_lt d f.code_length)

  unfoldable pub dec_branch : (a d : ℕ) → Dec (Typed m f (branch a d))
  dec_branch a d = map_dec (λ h. t_branch h.0.1 h.1) (λ t. elim t [ t_branch {w = w} p q ↦ ((w, p), q) ]) (dec_both (an_int f a) (dec_lt d f.code_length))

  unfoldable pub dec_call : (a g : ℕ) (rs : List Variable) (xs : List ℕ) → Dec (Typed m f (call a g rs xs))
  dec_call a g rs xs = map_dec (λ h. t_call h.0.0 h.1.0 h.1.1.0 h.1.1.1 h.0.1) (λ t. elim t [ t_call k s t u r ↦ ((k, r), (s, (t, u))) ])
      (dec_both (dec_both (dec_lt g m.functions) (dec_reg f a (sub (arg rs) (m.function g).result)))
      (dec_both (dec_all (λ i. dec_lt (arg rs (region i)).number (regions f)) (m.function g).region_params)
      (dec_both (dec_all (λ i. dec_tree (f.region_type (arg rs (region i)).number) (sub (arg rs) ((m.function g).region_type i))) (m.function g).region_params)
      (dec_all (λ i. dec_reg f (argument xs i) (sub (arg rs) ((m.function g).register_type i))) (m.function g).params))))

  unfoldable pub dec_return : (a : ℕ) → Dec (Typed m f (return a))
  dec_return a = map_dec t_return (λ t. elim t [ t_return p ↦ p ]) (dec_reg f a f.result)

  unfoldable pub dec_new_bytes : (a : ℕ) → Dec (Typed m f (new_bytes a))
  dec_new_bytes a = map_dec (λ h. t_new_bytes h.1.1.0 h.1.1.1) (λ t. elim t [ t_new_bytes {n = n} {r = r} p u ↦ (n, (r, (p, u))) ]) (dec_untyped f a)

  unfoldable pub dec_load_byte : (a b c : ℕ) → Dec (Typed m f (load_byte a b c))
  dec_load_byte a b c = map_dec (λ h. t_load_byte h.0.1.1.0 h.0.1.1.1 h.1.0 h.1.1) (λ t. elim t [ t_load_byte {n = n} {r = r} p u q s ↦ ((n, (r, (p, u))), (q, s)) ])
      (dec_both (dec_untyped f b) (dec_both (dec_reg f c (int 4)) (dec_reg f a (int 1))))

  unfoldable pub dec_store_byte : (a b c : ℕ) → Dec (Typed m f (store_byte a b c))
  dec_store_byte a b c = map_dec (λ h. t_store_byte h.0.1.1.0 h.0.1.1.1 h.1.0 h.1.1) (λ t. elim t [ t_store_byte {n = n} {r = r} p u q s ↦ ((n, (r, (p, u))), (q, s)) ])
      (dec_both (dec_untyped f a) (dec_both (dec_reg f c (int 4)) (dec_reg f b (int 1))))

  unfoldable pub dec_check_bytes : (a b : ℕ) → Dec (Typed m f (check_bytes a b))
  dec_check_bytes a b = map_dec (λ h. t_check_bytes (h.0.0, refl) h.0.1 h.1.1.1.0 h.1.1.1.1)
      (λ t. elim t [ t_check_bytes {n = n} {r = r} p s q u ↦ ((p.0, subst AnAddress (sym p.1) s), (n, (r, (q, u)))) ])
      (dec_both (dec_both (dec_lt b f.registers) (dec_an_address (f.register_type b))) (dec_untyped f a))

  unfoldable pub dec_typed : (i : Instruction) → Dec (Typed m f i)
  dec_typed (constant a d) = dec_constant a d
  dec_typed (copy a b) = dec_copy a b
  dec_typed (operate o a b c) = dec_operate o a b c
  dec_typed (zero_extend a b) = dec_zero a b
  dec_typed (sign_extend a b) = dec_signed a b
  dec_typed (address a b) = dec_address a b
  dec_typed (check a b) = dec_check a b
  dec_typed (field a b d) = dec_field a b d
  dec_typed (index a b c) = dec_index a b c
  dec_typed (load a b) = dec_load a b
  dec_typed (store a b) = dec_store a b
  dec_typed (new a) = dec_new a
  dec_typed (free a) = dec_free a
  dec_typed (input a c) = dec_input a c
  dec_typed (output b) = dec_output b
  dec_typed (jump d) = dec_jump d
  dec_typed (branch a d) = dec_branch a d
  dec_typed (call a g rs xs) = dec_call a g rs xs
  dec_typed (return a) = dec_return a
  dec_typed (new_bytes a) = dec_new_bytes a
  dec_typed (load_byte a b c) = dec_load_byte a b c
  dec_typed (store_byte a b c) = dec_store_byte a b c
  dec_typed (check_bytes a b) = dec_check_bytes a b
