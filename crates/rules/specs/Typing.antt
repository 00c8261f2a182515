-- Document 01, "Typing the instructions": the typing rules as a judgment, one constructor for each rule, in the shape of
-- document 000's figure 10. `f ⊢ a ∶ T` says that a is a register of function f and its type is T. Ranges (registers,
-- targets, functions, regions) are premises too: where they fail the file was refused with 4 already. Assumes nothing.
use Rattle.std.specs.Prelude.{◌≡◌, List, ℕ, ◌^◌, ◌<◌, ◌≤◌}
use Rattle.rules.specs.Types.{variable, Variable, region, Tree, int, ptr, arr, struct, raw_ptr, bytes, sub, arg}
use Rattle.rules.specs.Module.{Module, Function, regions, argument, Instruction, constant, copy, operate, zero_extend, sign_extend, address, check, field, index, load, store, new, free, input, output, jump, branch, call, return, new_bytes, load_byte, store_byte, check_bytes}
use Rattle.rules.specs.Flat.{Run, Same, flat}
use Rattle.rules.specs.Operands.{signed_quotient, last_operation}

infix 15 ◌⊢◌∶◌
abbrev pub ◌⊢◌∶◌ : Function → ℕ → Tree variable → Type 0
f ⊢ a ∶ T = (a < f.registers) × (f.register_type a ≡ T)

-- document 02, P3: region variable r is in scope and untyped; and the types that kind 39 takes, "an i32 or any pointer"
abbrev pub Untyped : Function → Variable → Type 0
Untyped f r = (r.number < regions f) × (f.region_type r.number ≡ bytes)

abbrev pub AnAddress : Tree variable → Type 0
AnAddress (int w) = w ≡ 4
AnAddress (ptr T r) = Unit {0}
AnAddress (arr n T) = ⊥
AnAddress (struct N rs) = ⊥
AnAddress (raw_ptr n r) = Unit {0}
AnAddress bytes = ⊥

pub data Typed (m : Module) (f : Function) : Instruction → Type 0 where
  -- "16 a becomes d, which fits integer a"
  t_constant : {a d w : ℕ} → f ⊢ a ∶ int w → d < 256 ^ w → Typed m f (constant a d)
  -- "17 copies b, equal types"
  t_copy : {a b : ℕ} {T : Tree variable} → f ⊢ b ∶ T → f ⊢ a ∶ T → Typed m f (copy a b)
  -- "18 operation d on b and c, equal integers, into a of that type"
  t_operate : {o a b c w : ℕ} → o < signed_quotient → f ⊢ b ∶ int w → f ⊢ c ∶ int w → f ⊢ a ∶ int w → Typed m f (operate o a b c)
  -- "10 signed i32 quotient"
  t_quotient : {o a b c : ℕ} → o ≡ signed_quotient → f ⊢ b ∶ int 4 → f ⊢ c ∶ int 4 → f ⊢ a ∶ int 4 → Typed m f (operate o a b c)
  -- "11 equal, 12 less unsigned, 13 less signed, into i8"
  t_compare : {o a b c w : ℕ} → signed_quotient < o → o ≤ last_operation → f ⊢ b ∶ int w → f ⊢ c ∶ int w → f ⊢ a ∶ int 1 → Typed m f (operate o a b c)
  -- "19 integer b to integer a", "20 the same, sign-extended"
  t_zero_extend : {a b v w : ℕ} → f ⊢ b ∶ int v → f ⊢ a ∶ int w → Typed m f (zero_extend a b)
  t_sign_extend : {a b v w : ℕ} → f ⊢ b ∶ int v → f ⊢ a ∶ int w → Typed m f (sign_extend a b)
  -- "21 pointer b to i32 a"
  t_address : {a b : ℕ} {r : Variable} {T : Tree variable} → f ⊢ b ∶ ptr T r → f ⊢ a ∶ int 4 → Typed m f (address a b)
  -- "Kind 21 takes untyped pointers as well" (document 02, P3)
  t_address_bytes : {a b n : ℕ} {r : Variable} → f ⊢ b ∶ raw_ptr n r → f ⊢ a ∶ int 4 → Typed m f (address a b)
  -- "22 check: i32 or pointer b becomes pointer a"
  t_check_integer : {a b : ℕ} {r : Variable} {T : Tree variable} → f ⊢ b ∶ int 4 → f ⊢ a ∶ ptr T r → Typed m f (check a b)
  t_check_pointer : {a b : ℕ} {q r : Variable} {S T : Tree variable} → f ⊢ b ∶ ptr S q → f ⊢ a ∶ ptr T r → Typed m f (check a b)
  -- "23 field: b points to T in a region; a points in the same region to a term whose primitives equal T's from position d,
  -- as many as it has"
  t_field : {a b d : ℕ} {r : Variable} {T U : Tree variable} → f ⊢ b ∶ ptr T r → f ⊢ a ∶ ptr U r → Run (flat m T) d (flat m U) → Typed m f (field a b d)
  -- "24 index: b points to an array, c is i32, a points to its element term, same region"
  t_index : {a b c n : ℕ} {r : Variable} {T : Tree variable} → f ⊢ b ∶ ptr (arr n T) r → f ⊢ c ∶ int 4 → f ⊢ a ∶ ptr T r → Typed m f (index a b c)
  -- "25 a is loaded through b, a pointer to a's type. 26 b is stored through a likewise"
  t_load : {a b : ℕ} {r : Variable} {T : Tree variable} → f ⊢ b ∶ ptr T r → f ⊢ a ∶ T → Typed m f (load a b)
  t_store : {a b : ℕ} {r : Variable} {T : Tree variable} → f ⊢ a ∶ ptr T r → f ⊢ b ∶ T → Typed m f (store a b)
  -- "27 new object into a, 28 object a freed: the pointer's target has the same primitives as its region's type"
  t_new : {a : ℕ} {r : Variable} {T : Tree variable} → f ⊢ a ∶ ptr T r → r.number < regions f → Same (flat m T) (flat m (f.region_type r.number)) → Typed m f (new a)
  t_free : {a : ℕ} {r : Variable} {T : Tree variable} → f ⊢ a ∶ ptr T r → r.number < regions f → Same (flat m T) (flat m (f.region_type r.number)) → Typed m f (free a)
  -- "29 byte c of the form into i8 a, c i32. 30 i8 b to the output"
  t_input : {a c : ℕ} → f ⊢ c ∶ int 4 → f ⊢ a ∶ int 1 → Typed m f (input a c)
  t_output : {b : ℕ} → f ⊢ b ∶ int 1 → Typed m f (output b)
  -- "31 jump to d. 32 to d if integer a is not zero, else on"
  t_jump : {d : ℕ} → d < f.code_length → Typed m f (jump d)
  t_branch : {a d w : ℕ} → f ⊢ a ∶ int w → d < f.code_length → Typed m f (branch a d)
  -- "33 calls function b for regions d, result into a; record 35 follows with argument registers .. Region, argument and
  -- result types equal the callee's with the regions put in. Document 000 prints only that the regions are in scope; their
  -- types count too"
  t_call : {a g : ℕ} {rs : List Variable} {xs : List ℕ} → g < m.functions
      → ((i : ℕ) → i < (m.function g).region_params → (arg rs (region i)).number < regions f)
      → ((i : ℕ) → i < (m.function g).region_params → f.region_type (arg rs (region i)).number ≡ sub (arg rs) ((m.function g).region_type i))
      → ((i : ℕ) → i < (m.function g).params → f ⊢ argument xs i ∶ sub (arg rs) ((m.function g).register_type i))
      → f ⊢ a ∶ sub (arg rs) (m.function g).result → Typed m f (call a g rs xs)
  -- "34 returns a, of the return term"
  t_return : {a : ℕ} → f ⊢ a ∶ f.result → Typed m f (return a)
  -- document 02, P3: "Kind 36 makes a new object .. into register a"; "Kind 37 loads i8 a through b at i32 offset c; kind 38 stores i8 b
  -- through a at offset c"; "Kind 39 turns an i32 or any pointer b into untyped pointer a". "A typed pointer into an untyped region, or the
  -- reverse ..: kinds 27, 28 and 36 to 39 refuse it under 7 (39 only as a)"
  t_new_bytes : {a n : ℕ} {r : Variable} → f ⊢ a ∶ raw_ptr n r → Untyped f r → Typed m f (new_bytes a)
  t_load_byte : {a b c n : ℕ} {r : Variable} → f ⊢ b ∶ raw_ptr n r → Untyped f r → f ⊢ c ∶ int 4 → f ⊢ a ∶ int 1 → Typed m f (load_byte a b c)
  t_store_byte : {a b c n : ℕ} {r : Variable} → f ⊢ a ∶ raw_ptr n r → Untyped f r → f ⊢ c ∶ int 4 → f ⊢ b ∶ int 1 → Typed m f (store_byte a b c)
  t_check_bytes : {a b n : ℕ} {r : Variable} {T : Tree variable} → f ⊢ b ∶ T → AnAddress T → f ⊢ a ∶ raw_ptr n r → Untyped f r → Typed m f (check_bytes a b)
