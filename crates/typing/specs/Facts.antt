-- What the theorem on runs takes from an accepted file, function by function; `facts` (proofs/Facts) is all of it. Assumes nothing.
use Rattle.std.specs.Prelude.{◌≡◌, Bool, true, false, cond, List, ℕ, suc, ◌<◌, ◌≤◌, ltb}
use Rattle.std.proofs.Common.{subst, arith, lt-ltb}
use Rattle.rules.specs.Limits.{size_limit, most_functions}
use Rattle.words.specs.Decide.{Each, none, more}
use Rattle.rules.specs.Types.{variable, Variable, Tree, ptr, width, Uses, in_int, in_ptr, in_arr, in_struct, in_raw_ptr, in_bytes, Primitive}
use Rattle.rules.specs.Module.{Module, Function, regions, Instruction, constant, copy, operate, zero_extend, sign_extend, address, check, field, index, load, store, new, free, input, output, jump, branch, call, return, new_bytes, load_byte, store_byte, check_bytes}
use Rattle.rules.specs.Flat.{size, struct_flat}
use Rattle.rules.specs.Typing.{Typed}
use Rattle.rules.specs.WellTyped.{scope_of, EntryOk, Ranges}
use Rattle.typing.specs.Types.{Deep, DeepFunction}

-- ---- regions used

each_more : {n k : ℕ} {rs : List Variable} → n ≤ k → Each (λ r. r.number < n) rs → Each (λ r. r.number < k) rs
each_more h none = none
each_more h (more {x = x} l e) = more {x = x} (omega arith) (each_more h e)

-- who uses regions below n uses regions below a larger number
pub uses_more : {n k : ℕ} {T : Tree variable} → n ≤ k → Uses n T → Uses k T
uses_more h in_int = in_int
uses_more h (in_ptr {r = r} l u) = in_ptr {r = r} (omega arith) (uses_more h u)
uses_more h (in_arr u) = in_arr (uses_more h u)
uses_more h (in_struct e) = in_struct (each_more h e)
uses_more h (in_raw_ptr {r = r} l) = in_raw_ptr {r = r} (omega arith)
uses_more h in_bytes = in_bytes

-- the first n of a list use the region parameters only, and all of them parameters and locals
pub scope_in_law : (F : Function) (n j : ℕ) {T : Tree variable} → j < n → Uses (scope_of F n j) T → Uses F.region_params T
unfolding scope_of
scope_in_law F n j {T} h u = subst (λ b. Uses (cond b F.region_params (regions F)) T) (lt-ltb j n h) u

pub scope_all : (F : Function) (n j : ℕ) {T : Tree variable} → Uses (scope_of F n j) T → Uses (regions F) T
unfolding scope_of
scope_all F n j {T} u = go (ltb j n) u
  where
    go : (b : Bool) → Uses (cond b F.region_params (regions F)) T → Uses (regions F) T
    go true u = uses_more (omega arith) u
    go false u = u

-- ---- going on

-- control goes on to the next instruction after all kinds but 31 and 34, which alone may stand last (refusal 8)
abbrev pub GoesOn : Instruction → ℕ → ℕ → Type 0
GoesOn (constant a d) i n = suc i < n
GoesOn (copy a b) i n = suc i < n
GoesOn (operate o a b c) i n = suc i < n
GoesOn (zero_extend a b) i n = suc i < n
GoesOn (sign_extend a b) i n = suc i < n
GoesOn (address a b) i n = suc i < n
GoesOn (check a b) i n = suc i < n
GoesOn (field a b d) i n = suc i < n
GoesOn (index a b c) i n = suc i < n
GoesOn (load a b) i n = suc i < n
GoesOn (store a b) i n = suc i < n
GoesOn (new a) i n = suc i < n
GoesOn (free a) i n = suc i < n
GoesOn (input a c) i n = suc i < n
GoesOn (output b) i n = suc i < n
GoesOn (jump d) i n = Unit {0}
GoesOn (branch a d) i n = suc i < n
GoesOn (call a g rs xs) i n = suc i < n
GoesOn (return a) i n = Unit {0}
GoesOn (new_bytes a) i n = suc i < n
GoesOn (load_byte a b c) i n = suc i < n
GoesOn (store_byte a b c) i n = suc i < n
GoesOn (check_bytes a b) i n = suc i < n

-- ---- the facts

pub record FunctionFacts (m : Module) (F : Function) : Type 0 where
  pub ranges : Ranges F
  -- types name terms of the file
  pub deep : DeepFunction m F
  -- registers hold primitives of 1 to 4 bytes
  pub register_primitive : (a : ℕ) → a < F.registers → Primitive (F.register_type a)
  pub register_width : (a : ℕ) → a < F.registers → (0 < width (F.register_type a)) × (width (F.register_type a) ≤ 4)
  -- scopes
  pub register_scope : (a : ℕ) → a < F.registers → Uses (regions F) (F.register_type a)
  pub param_scope : (a : ℕ) → a < F.params → Uses F.region_params (F.register_type a)
  pub region_scope : (i : ℕ) → i < regions F → Uses (regions F) (F.region_type i)
  pub region_param_scope : (i : ℕ) → i < F.region_params → Uses F.region_params (F.region_type i)
  pub result_scope : Uses F.region_params F.result
  pub result_primitive : Primitive F.result
  -- sizes
  pub target_size : (a : ℕ) (T : Tree variable) (r : Variable) → F.register_type a ≡ ptr T r → (0 < size m T) × (size m T ≤ size_limit)
  pub region_size : (i : ℕ) → (0 < size m (F.region_type i)) × (size m (F.region_type i) ≤ size_limit)
  -- the code
  pub typed : (i : ℕ) → i < F.code_length → Typed m F (F.code i)
  pub goes_on : (i : ℕ) → i < F.code_length → GoesOn (F.code i) i F.code_length

pub record ModuleFacts (m : Module) : Type 0 where
  pub some : 0 < m.functions
  pub function_limit : m.functions ≤ most_functions
  pub function : (g : ℕ) → g < m.functions → FunctionFacts m (m.function g)
  pub entry : EntryOk (m.function 0)
  -- the structs' fields name terms of the file, and use the regions that their struct has
  pub fields : (N : ℕ) → Each (Deep m) (m.fields N)
  pub field_scope : (N : ℕ) → N < m.structs → Each (Uses (m.arity N)) (m.fields N)
  pub struct_size : (N : ℕ) → N < m.structs → (0 < (struct_flat m N).size) × ((struct_flat m N).size ≤ size_limit)
