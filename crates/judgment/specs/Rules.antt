-- Each typing rule as the code tests it is the decision's answer. Document 01, "Typing the instructions", in its order. Assumes nothing.
use Rattle.std.specs.Prelude.{◌≡◌, refl, Bool, true, false, ◌&&◌, ◌||◌, ◌⊎◌, ◌↔◌, ℕ, ◌^◌, ◌<◌, ◌≤◌, ltb, leb, eqb}
use Rattle.std.proofs.Common.{sym, ap, ◌∙◌, inl, inr, arith}
use Rattle.std.proofs.Math.Path.{subst}
use borrow.Author.Tests.{lt-ltb, le-ltb, ne_eqb}
use Rattle.words.specs.Choose.{lt_reads, le_reads, eq_reads, and_reads, or_reads}
use Rattle.words.specs.Decide.{does}
use Rattle.rules.specs.Types.{variable, Variable, Tree, int, ptr, arr, struct, raw_ptr, bytes, form, number_of, inner, region_of, dec_tree}
use Rattle.rules.specs.Module.{Module, Function, regions, constant, copy, operate, zero_extend, sign_extend, address, check, field, index, load, store, new, free, input, output, jump, branch, return, new_bytes, load_byte, store_byte, check_bytes}
use Rattle.rules.specs.Flat.{Run, Same, dec_run, dec_same, flat}
use Rattle.rules.specs.Operands.{signed_quotient, last_operation}
use Rattle.rules.specs.Typing.{◌⊢◌∶◌, AnAddress, Typed, t_constant, t_copy, t_operate, t_quotient, t_compare, t_zero_extend, t_sign_extend, t_address, t_address_bytes, t_check_integer, t_check_pointer, t_field, t_index, t_load, t_store, t_new, t_free, t_input, t_output, t_jump, t_branch, t_return, t_new_bytes, t_load_byte, t_store_byte, t_check_bytes}
use Rattle.rules.specs.Decision.{dec_typed}
use Rattle.judgment.specs.Registers.{does_reads, decided, ptr_of, arr_of, raw_of, is_register, is_integer, is_pointer, is_untyped, into_bytes, IntoBytes, has_width, same_types, points_to, together, register_reads, integer_reads, pointer_reads, untyped_reads, bytes_reads, width_reads, same_reads, points_reads, together_reads}

-- operation o on b gives the type of a
unfoldable pub operated : Function → ℕ → ℕ → ℕ → Bool
operated F o a b =
    (ltb o signed_quotient && same_types F a b)
    || ((eqb o signed_quotient && (has_width F 4 b && has_width F 4 a)) || (ltb signed_quotient o && (leb o last_operation && has_width F 1 a)))

or_none : (s : Bool) → s ≡ s || false
or_none true = refl
or_none false = refl

module _ (F : Function) (o a b : ℕ) where
  pub operated_plain : o < signed_quotient → same_types F a b ≡ operated F o a b
  unfolding operated
  operated_plain h = rw (lt-ltb o signed_quotient h, ne_eqb o signed_quotient (λ e. omega arith), le-ltb signed_quotient o (omega arith)) (or_none (same_types F a b))

  pub operated_quotient : o ≡ signed_quotient → has_width F 4 b && has_width F 4 a ≡ operated F o a b
  unfolding operated
  operated_quotient e = rw e (or_none (has_width F 4 b && has_width F 4 a))

  pub operated_compare : signed_quotient < o → leb o last_operation && has_width F 1 a ≡ operated F o a b
  unfolding operated
  operated_compare h = rw (le-ltb o signed_quotient (omega arith), ne_eqb o signed_quotient (λ e. omega arith), lt-ltb signed_quotient o h)

module _ (m : Module) (F : Function) where
  -- "16 a becomes d, which fits integer a"
  pub constant_test : (a d : ℕ) → is_integer F a && ltb d (256 ^ number_of (F.register_type a)) ≡ does (dec_typed m F (constant a d))
  constant_test a d = decided (dec_typed m F (constant a d)) (and_reads (integer_reads F a) (lt_reads d (256 ^ number_of (F.register_type a))))
      (λ h. t_constant {w = h.0.0} h.0.1 (subst (λ (w : ℕ). d < 256 ^ w) (ap number_of h.0.1.1) h.1)) back
    where
      back : Typed m F (constant a d) → ((w : ℕ) × (F ⊢ a ∶ int w)) × (d < 256 ^ number_of (F.register_type a))
      back (t_constant {w = w} p q) = ((w, p), subst (λ (w : ℕ). d < 256 ^ w) (sym (ap number_of p.1)) q)

  -- "17 copies b, equal types"
  pub copy_test : (a b : ℕ) → same_types F a b ≡ does (dec_typed m F (copy a b))
  copy_test a b = decided (dec_typed m F (copy a b)) (same_reads F a b) (λ h. t_copy (h.1.0, refl) (h.0, h.1.1)) back
    where
      back : Typed m F (copy a b) → (a < F.registers) × ((b < F.registers) × (F.register_type a ≡ F.register_type b))
      back (t_copy p q) = (q.0, (p.0, q.1 ∙ sym p.1))

  -- "18 operation d on b and c, equal integers, into a of that type .. 10 signed i32 quotient .. 11 equal, 12 less unsigned, 13 less
  -- signed, into i8"
  pub operate_test : (o a b c : ℕ) → (is_integer F b && same_types F c b) && operated F o a b ≡ does (dec_typed m F (operate o a b c))
  unfolding operated
  operate_test o a b c = decided (dec_typed m F (operate o a b c))
      (and_reads (and_reads (integer_reads F b) (same_reads F c b))
      (or_reads (and_reads (lt_reads o signed_quotient) (same_reads F a b))
      (or_reads (and_reads (eq_reads o signed_quotient) (and_reads (width_reads F 4 b) (width_reads F 4 a)))
      (and_reads (lt_reads signed_quotient o) (and_reads (le_reads o last_operation) (width_reads F 1 a))))))
      make back
    where
      Operands : Type 0
      Operands = ((w : ℕ) × (F ⊢ b ∶ int w)) × ((c < F.registers) × ((b < F.registers) × (F.register_type c ≡ F.register_type b)))

      Plain : Type 0
      Plain = (o < signed_quotient) × ((a < F.registers) × ((b < F.registers) × (F.register_type a ≡ F.register_type b)))

      Quotient : Type 0
      Quotient = (o ≡ signed_quotient) × ((F ⊢ b ∶ int 4) × (F ⊢ a ∶ int 4))

      Compare : Type 0
      Compare = (signed_quotient < o) × ((o ≤ last_operation) × (F ⊢ a ∶ int 1))

      make : Operands × (Plain ⊎ (Quotient ⊎ Compare)) → Typed m F (operate o a b c)
      make (h, inl k) = t_operate {w = h.0.0} k.0 h.0.1 (h.1.0, h.1.1.1 ∙ h.0.1.1) (k.1.0, k.1.1.1 ∙ h.0.1.1)
      make (h, inr (inl k)) = t_quotient k.0 k.1.0 (h.1.0, h.1.1.1 ∙ k.1.0.1) k.1.1
      make (h, inr (inr k)) = t_compare {w = h.0.0} k.0 k.1.0 h.0.1 (h.1.0, h.1.1.1 ∙ h.0.1.1) k.1.1

      back : Typed m F (operate o a b c) → Operands × (Plain ⊎ (Quotient ⊎ Compare))
      back (t_operate {w = w} l p q r) = (((w, p), (q.0, (p.0, q.1 ∙ sym p.1))), inl (l, (r.0, (p.0, r.1 ∙ sym p.1))))
      back (t_quotient e p q r) = (((4, p), (q.0, (p.0, q.1 ∙ sym p.1))), inr (inl (e, (p, r))))
      back (t_compare {w = w} k l p q r) = (((w, p), (q.0, (p.0, q.1 ∙ sym p.1))), inr (inr (k, (l, r))))

  -- "19 integer b to integer a", "20 the same, sign-extended"
  pub zero_test : (a b : ℕ) → is_integer F a && is_integer F b ≡ does (dec_typed m F (zero_extend a b))
  zero_test a b = decided (dec_typed m F (zero_extend a b)) (and_reads (integer_reads F a) (integer_reads F b))
      (λ h. t_zero_extend {v = h.1.0} {w = h.0.0} h.1.1 h.0.1) back
    where
      back : Typed m F (zero_extend a b) → ((w : ℕ) × (F ⊢ a ∶ int w)) × ((v : ℕ) × (F ⊢ b ∶ int v))
      back (t_zero_extend {v = v} {w = w} p q) = ((w, q), (v, p))

  pub sign_test : (a b : ℕ) → is_integer F a && is_integer F b ≡ does (dec_typed m F (sign_extend a b))
  sign_test a b = decided (dec_typed m F (sign_extend a b)) (and_reads (integer_reads F a) (integer_reads F b))
      (λ h. t_sign_extend {v = h.1.0} {w = h.0.0} h.1.1 h.0.1) back
    where
      back : Typed m F (sign_extend a b) → ((w : ℕ) × (F ⊢ a ∶ int w)) × ((v : ℕ) × (F ⊢ b ∶ int v))
      back (t_sign_extend {v = v} {w = w} p q) = ((w, q), (v, p))

  -- what a pointer's type says of it
  pointer : {a : ℕ} {T : Tree variable} {r : Variable} → F ⊢ a ∶ ptr T r → F ⊢ a ∶ ptr (inner (F.register_type a)) (region_of (F.register_type a))
  pointer {a} p = (p.0, ptr_of (F.register_type a) (ap form p.1))

  untyped : {a n : ℕ} {r : Variable} → F ⊢ a ∶ raw_ptr n r → F ⊢ a ∶ raw_ptr (number_of (F.register_type a)) (region_of (F.register_type a))
  untyped {a} p = (p.0, raw_of (F.register_type a) (ap form p.1))

  -- "21 pointer b to i32 a"; "Kind 21 takes untyped pointers as well"
  pub address_test : (a b : ℕ) → (is_pointer F b || is_untyped F b) && has_width F 4 a ≡ does (dec_typed m F (address a b))
  address_test a b = decided (dec_typed m F (address a b)) (and_reads (or_reads (pointer_reads F b) (untyped_reads F b)) (width_reads F 4 a)) make back
    where
      Facts : Type 0
      Facts = ((F ⊢ b ∶ ptr (inner (F.register_type b)) (region_of (F.register_type b))) ⊎ (F ⊢ b ∶ raw_ptr (number_of (F.register_type b)) (region_of (F.register_type b)))) × (F ⊢ a ∶ int 4)

      make : Facts → Typed m F (address a b)
      make (inl p, q) = t_address p q
      make (inr p, q) = t_address_bytes p q

      back : Typed m F (address a b) → Facts
      back (t_address p q) = (inl (pointer p), q)
      back (t_address_bytes p q) = (inr (untyped p), q)

  -- "22 check: i32 or pointer b becomes pointer a"
  pub check_test : (a b : ℕ) → is_pointer F a && (has_width F 4 b || is_pointer F b) ≡ does (dec_typed m F (check a b))
  check_test a b = decided (dec_typed m F (check a b)) (and_reads (pointer_reads F a) (or_reads (width_reads F 4 b) (pointer_reads F b))) make back
    where
      Facts : Type 0
      Facts = (F ⊢ a ∶ ptr (inner (F.register_type a)) (region_of (F.register_type a))) × ((F ⊢ b ∶ int 4) ⊎ (F ⊢ b ∶ ptr (inner (F.register_type b)) (region_of (F.register_type b))))

      make : Facts → Typed m F (check a b)
      make (h, inl k) = t_check_integer k h
      make (h, inr k) = t_check_pointer k h

      back : Typed m F (check a b) → Facts
      back (t_check_integer p q) = (pointer q, inl p)
      back (t_check_pointer p q) = (pointer q, inr (pointer p))

  -- "23 field: b points to T in a region; a points in the same region to a term whose primitives equal T's from position d, as many as
  -- it has"
  pub field_test : (a b d : ℕ) → together F a b && does (dec_run (flat m (inner (F.register_type b))) d (flat m (inner (F.register_type a)))) ≡ does (dec_typed m F (field a b d))
  field_test a b d = decided (dec_typed m F (field a b d))
      (and_reads (together_reads F a b) (does_reads (dec_run (flat m (inner (F.register_type b))) d (flat m (inner (F.register_type a))))))
      (λ h. t_field h.0.1 h.0.0 h.1) back
    where
      back : Typed m F (field a b d)
          → ((F ⊢ a ∶ ptr (inner (F.register_type a)) (region_of (F.register_type b))) × (F ⊢ b ∶ ptr (inner (F.register_type b)) (region_of (F.register_type b))))
          × Run (flat m (inner (F.register_type b))) d (flat m (inner (F.register_type a)))
      back (t_field {r = r} {T = T} {U = U} p q h) = (
        ((q.0, ptr_of (F.register_type a) (ap form q.1) ∙ ap (ptr (inner (F.register_type a))) (ap region_of q.1 ∙ sym (ap region_of p.1))), pointer p),
        subst (λ (S : Tree variable). Run (flat m S) d (flat m (inner (F.register_type a)))) (sym (ap inner p.1))
            (subst (λ (S : Tree variable). Run (flat m T) d (flat m S)) (sym (ap inner q.1)) h),
      )

  -- "24 index: b points to an array, c is i32, a points to its element term, same region"
  pub index_test : (a b c : ℕ) → together F a b && (has_width F 4 c && (eqb (form (inner (F.register_type b))) 3 && does (dec_tree (inner (F.register_type a)) (inner (inner (F.register_type b)))))) ≡ does (dec_typed m F (index a b c))
  index_test a b c = decided (dec_typed m F (index a b c))
      (and_reads (together_reads F a b) (and_reads (width_reads F 4 c) (and_reads (eq_reads (form (inner (F.register_type b))) 3) (does_reads (dec_tree (inner (F.register_type a)) (inner (inner (F.register_type b))))))))
      (λ h. t_index {n = number_of (inner (F.register_type b))} {r = region_of (F.register_type b)} {T = inner (inner (F.register_type b))}
      (h.0.1.0, h.0.1.1 ∙ ap (λ (T : Tree variable). ptr T (region_of (F.register_type b))) (arr_of (inner (F.register_type b)) h.1.1.0))
      h.1.0 (h.0.0.0, h.0.0.1 ∙ ap (λ (T : Tree variable). ptr T (region_of (F.register_type b))) h.1.1.1)) back
    where
      back : Typed m F (index a b c)
          → ((F ⊢ a ∶ ptr (inner (F.register_type a)) (region_of (F.register_type b))) × (F ⊢ b ∶ ptr (inner (F.register_type b)) (region_of (F.register_type b))))
          × ((F ⊢ c ∶ int 4) × ((form (inner (F.register_type b)) ≡ 3) × (inner (F.register_type a) ≡ inner (inner (F.register_type b)))))
      back (t_index {n = n} {r = r} {T = T} p q s) = (
        ((s.0, ptr_of (F.register_type a) (ap form s.1) ∙ ap (ptr (inner (F.register_type a))) (ap region_of s.1 ∙ sym (ap region_of p.1))), pointer p),
        (q, (ap (λ (S : Tree variable). form (inner S)) p.1, ap inner s.1 ∙ sym (ap (λ (S : Tree variable). inner (inner S)) p.1))),
      )

  -- "25 a is loaded through b, a pointer to a's type. 26 b is stored through a likewise"
  pub load_test : (a b : ℕ) → points_to F b a ≡ does (dec_typed m F (load a b))
  load_test a b = decided (dec_typed m F (load a b)) (points_reads F b a) (λ h. t_load {r = h.0} h.1.0 (h.1.1, refl)) back
    where
      back : Typed m F (load a b) → (r : Variable) × ((F ⊢ b ∶ ptr (F.register_type a) r) × (a < F.registers))
      back (t_load {r = r} p q) = (r, ((p.0, p.1 ∙ ap (λ (T : Tree variable). ptr T r) (sym q.1)), q.0))

  pub store_test : (a b : ℕ) → points_to F a b ≡ does (dec_typed m F (store a b))
  store_test a b = decided (dec_typed m F (store a b)) (points_reads F a b) (λ h. t_store {r = h.0} h.1.0 (h.1.1, refl)) back
    where
      back : Typed m F (store a b) → (r : Variable) × ((F ⊢ a ∶ ptr (F.register_type b) r) × (b < F.registers))
      back (t_store {r = r} p q) = (r, ((p.0, p.1 ∙ ap (λ (T : Tree variable). ptr T r) (sym q.1)), q.0))

  -- "27 new object into a, 28 object a freed: the pointer's target has the same primitives as its region's type"
  Whole : ℕ → Type 0
  Whole a = (F ⊢ a ∶ ptr (inner (F.register_type a)) (region_of (F.register_type a)))
      × (((region_of (F.register_type a)).number < regions F) × Same (flat m (inner (F.register_type a))) (flat m (F.region_type (region_of (F.register_type a)).number)))

  whole : {a : ℕ} {T : Tree variable} {r : Variable} → F ⊢ a ∶ ptr T r → r.number < regions F → Same (flat m T) (flat m (F.region_type r.number)) → Whole a
  unfolding Whole
  whole {a} {T} {r} p l s = (
    pointer p,
    (
      subst (λ (q : Variable). q.number < regions F) (sym (ap region_of p.1)) l,
      subst (λ (S : Tree variable). Same (flat m (inner S)) (flat m (F.region_type (region_of S).number))) (sym p.1) s,
    ),
  )

  unfoldable pub whole_test : ℕ → Bool
  whole_test a = is_pointer F a && (ltb (region_of (F.register_type a)).number (regions F) && does (dec_same (flat m (inner (F.register_type a))) (flat m (F.region_type (region_of (F.register_type a)).number))))

  whole_reads : (a : ℕ) → (whole_test a ≡ true) ↔ Whole a
  unfolding whole_test Whole
  whole_reads a = and_reads (pointer_reads F a) (and_reads (lt_reads (region_of (F.register_type a)).number (regions F)) (does_reads (dec_same (flat m (inner (F.register_type a))) (flat m (F.region_type (region_of (F.register_type a)).number)))))

  pub new_test : (a : ℕ) → whole_test a ≡ does (dec_typed m F (new a))
  unfolding Whole
  new_test a = decided (dec_typed m F (new a)) (whole_reads a) (λ h. t_new h.0 h.1.0 h.1.1) back
    where
      back : Typed m F (new a) → Whole a
      back (t_new p l s) = whole p l s

  pub free_test : (a : ℕ) → whole_test a ≡ does (dec_typed m F (free a))
  unfolding Whole
  free_test a = decided (dec_typed m F (free a)) (whole_reads a) (λ h. t_free h.0 h.1.0 h.1.1) back
    where
      back : Typed m F (free a) → Whole a
      back (t_free p l s) = whole p l s

  -- "29 byte c of the form into i8 a, c i32. 30 i8 b to the output"
  pub input_test : (a c : ℕ) → has_width F 4 c && has_width F 1 a ≡ does (dec_typed m F (input a c))
  input_test a c = decided (dec_typed m F (input a c)) (and_reads (width_reads F 4 c) (width_reads F 1 a)) (λ h. t_input h.0 h.1) back
    where
      back : Typed m F (input a c) → (F ⊢ c ∶ int 4) × (F ⊢ a ∶ int 1)
      back (t_input p q) = (p, q)

  pub output_test : (b : ℕ) → has_width F 1 b ≡ does (dec_typed m F (output b))
  output_test b = decided (dec_typed m F (output b)) (width_reads F 1 b) t_output back
    where
      back : Typed m F (output b) → F ⊢ b ∶ int 1
      back (t_output p) = p

  -- "31 jump to d. 32 to d if integer a is not zero, else on"
  pub jump_test : (d : ℕ) → ltb d F.code_length ≡ does (dec_typed m F (jump d))
  jump_test d = decided (dec_typed m F (jump d)) (lt_reads d F.code_length) t_jump back
    where
      back : Typed m F (jump d) → d < F.code_length
      back (t_jump p) = p

  pub branch_test : (a d : ℕ) → is_integer F a && ltb d F.code_length ≡ does (dec_typed m F (branch a d))
  branch_test a d = decided (dec_typed m F (branch a d)) (and_reads (integer_reads F a) (lt_reads d F.code_length)) (λ h. t_branch {w = h.0.0} h.0.1 h.1) back
    where
      back : Typed m F (branch a d) → ((w : ℕ) × (F ⊢ a ∶ int w)) × (d < F.code_length)
      back (t_branch {w = w} p q) = ((w, p), q)

  -- "34 returns a, of the return term"
  pub return_test : (a : ℕ) → is_register F a && does (dec_tree (F.register_type a) F.result) ≡ does (dec_typed m F (return a))
  return_test a = decided (dec_typed m F (return a)) (and_reads (register_reads F a) (does_reads (dec_tree (F.register_type a) F.result))) t_return back
    where
      back : Typed m F (return a) → F ⊢ a ∶ F.result
      back (t_return p) = p

  -- document 02, P3: "Kind 36 makes a new object .. into register a"
  pub new_bytes_test : (a : ℕ) → into_bytes F a ≡ does (dec_typed m F (new_bytes a))
  new_bytes_test a = decided (dec_typed m F (new_bytes a)) (bytes_reads F a) (λ h. t_new_bytes h.1.1.0 h.1.1.1) back
    where
      back : Typed m F (new_bytes a) → IntoBytes F a
      back (t_new_bytes {n = n} {r = r} p u) = (n, (r, (p, u)))

  -- "Kind 37 loads i8 a through b at i32 offset c; kind 38 stores i8 b through a at offset c"
  pub load_byte_test : (a b c : ℕ) → into_bytes F b && (has_width F 4 c && has_width F 1 a) ≡ does (dec_typed m F (load_byte a b c))
  load_byte_test a b c = decided (dec_typed m F (load_byte a b c)) (and_reads (bytes_reads F b) (and_reads (width_reads F 4 c) (width_reads F 1 a)))
      (λ h. t_load_byte h.0.1.1.0 h.0.1.1.1 h.1.0 h.1.1) back
    where
      back : Typed m F (load_byte a b c) → IntoBytes F b × ((F ⊢ c ∶ int 4) × (F ⊢ a ∶ int 1))
      back (t_load_byte {n = n} {r = r} p u q s) = ((n, (r, (p, u))), (q, s))

  pub store_byte_test : (a b c : ℕ) → into_bytes F a && (has_width F 4 c && has_width F 1 b) ≡ does (dec_typed m F (store_byte a b c))
  store_byte_test a b c = decided (dec_typed m F (store_byte a b c)) (and_reads (bytes_reads F a) (and_reads (width_reads F 4 c) (width_reads F 1 b)))
      (λ h. t_store_byte h.0.1.1.0 h.0.1.1.1 h.1.0 h.1.1) back
    where
      back : Typed m F (store_byte a b c) → IntoBytes F a × ((F ⊢ c ∶ int 4) × (F ⊢ b ∶ int 1))
      back (t_store_byte {n = n} {r = r} p u q s) = ((n, (r, (p, u))), (q, s))

  -- "Kind 39 turns an i32 or any pointer b into untyped pointer a"
  pub check_bytes_test : (a b : ℕ) → into_bytes F a && (has_width F 4 b || (is_pointer F b || is_untyped F b)) ≡ does (dec_typed m F (check_bytes a b))
  check_bytes_test a b = decided (dec_typed m F (check_bytes a b)) (and_reads (bytes_reads F a) (or_reads (width_reads F 4 b) (or_reads (pointer_reads F b) (untyped_reads F b)))) make back
    where
      From : Type 0
      From = (F ⊢ b ∶ int 4) ⊎ ((F ⊢ b ∶ ptr (inner (F.register_type b)) (region_of (F.register_type b))) ⊎ (F ⊢ b ∶ raw_ptr (number_of (F.register_type b)) (region_of (F.register_type b))))

      make : IntoBytes F a × From → Typed m F (check_bytes a b)
      make (h, inl p) = t_check_bytes p refl h.1.1.0 h.1.1.1
      make (h, inr (inl p)) = t_check_bytes p tt h.1.1.0 h.1.1.1
      make (h, inr (inr p)) = t_check_bytes p tt h.1.1.0 h.1.1.1

      from : (T : Tree variable) → F ⊢ b ∶ T → AnAddress T → From
      from (int w) p s = inl (p.0, p.1 ∙ ap int s)
      from (ptr T r) p s = inr (inl (pointer p))
      from (arr n T) p s = absurd s
      from (struct N rs) p s = absurd s
      from (raw_ptr n r) p s = inr (inr (untyped p))
      from bytes p s = absurd s

      back : Typed m F (check_bytes a b) → IntoBytes F a × From
      back (t_check_bytes {n = n} {r = r} {T = T} p s q u) = ((n, (r, (q, u))), from T p s)
