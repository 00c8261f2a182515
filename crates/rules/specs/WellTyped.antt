-- Document 01, "From the input", refusals 5 to 8 as facts about a module, each with its test (that of 7 is in Decision): a
-- well-typed module is one in which all of them hold. Assumes nothing.
use Rattle.std.specs.Prelude.{◌≡◌, cond, ◌⊎◌, ℕ, ◌-◌, ◌<◌, ◌≤◌, ltb, length}
use Rattle.std.proofs.Math.Decide.{ℕ_discrete, dec_le}
use Rattle.rules.specs.Limits.{most_terms, most_structs, most_functions, most_regions, most_region_params, most_entries, most_registers, most_instructions, size_limit}
use Rattle.words.specs.Decide.{map_dec, dec_both, dec_either, dec_all, Each, dec_each}
use Rattle.rules.specs.Types.{variable, Tree, int, ptr, arr, struct, raw_ptr, bytes, dec_tree, Uses, dec_uses, Primitive, dec_primitive}
use Rattle.rules.specs.Module.{Module, Function, regions, Instruction, kind_of}
use Rattle.rules.specs.Flat.{size, struct_flat}
use Rattle.rules.specs.Typing.{Typed}

-- ---- "5 term or name without size, over 256 bytes, wrong argument count, or field using a region its name lacks"

-- "wrong argument count": that of a name term; an inner term is a term too, tested at its own place
abbrev pub Counts : Module → Tree variable → Type 0
Counts m (int w) = Unit {0}
Counts m (ptr T r) = Unit {0}
Counts m (arr n T) = Unit {0}
Counts m (struct N rs) = length rs ≡ m.arity N
Counts m (raw_ptr n r) = Unit {0}
Counts m bytes = Unit {0}

unfoldable pub dec_counts : (m : Module) (T : Tree variable) → Dec (Counts m T)
dec_counts m (int w) = yes tt
dec_counts m (ptr T r) = yes tt
dec_counts m (arr n T) = yes tt
dec_counts m (struct N rs) = ℕ_discrete (length rs) (m.arity N)
dec_counts m (raw_ptr n r) = yes tt
dec_counts m bytes = yes tt

pub record TermOk (m : Module) (T : Tree variable) : Type 0 where
  pub sized : size m T ≤ size_limit
  pub counts : Counts m T

pub record StructOk (m : Module) (N : ℕ) : Type 0 where
  pub sized : (struct_flat m N).size ≤ size_limit
  pub uses : Each (Uses (m.arity N)) (m.fields N)

unfoldable pub dec_term : (m : Module) (T : Tree variable) → Dec (TermOk m T)
dec_term m T = map_dec (λ h. record { sized = h.0; counts = h.1 }) (λ t. (t.sized, t.counts)) (dec_both (dec_le (size m T) size_limit) (dec_counts m T))

unfoldable pub dec_struct : (m : Module) (N : ℕ) → Dec (StructOk m N)
dec_struct m N = map_dec (λ h. record { sized = h.0; uses = h.1 }) (λ n. (n.sized, n.uses))
    (dec_both (dec_le (struct_flat m N).size size_limit) (dec_each (dec_uses (m.arity N)) (m.fields N)))

-- ---- "6 function: a register or return that is not primitive; a region type, register or return using regions beyond its
-- scope (region parameters only for parameters, their region types and the return; parameters and locals for the rest)"

-- the regions that the j-th of a list may use, whose first n may use the region parameters only
unfoldable pub scope_of : Function → ℕ → ℕ → ℕ
scope_of f n j = cond (ltb j n) f.region_params (regions f)

pub record FunctionOk (f : Function) : Type 0 where
  pub region_types : (i : ℕ) → i < regions f → Uses (scope_of f f.region_params i) (f.region_type i)
  pub primitive : (a : ℕ) → a < f.registers → Primitive (f.register_type a)
  pub registers : (a : ℕ) → a < f.registers → Uses (scope_of f f.params a) (f.register_type a)
  pub return_primitive : Primitive f.result
  pub returns : Uses f.region_params f.result

unfoldable pub dec_function : (f : Function) → Dec (FunctionOk f)
dec_function f = map_dec
    (λ h. record { region_types = h.0; primitive = h.1.0; registers = h.1.1.0; return_primitive = h.1.1.1.0; returns = h.1.1.1.1 })
    (λ o. (o.region_types, (o.primitive, (o.registers, (o.return_primitive, o.returns)))))
    (dec_both (dec_all (λ i. dec_uses (scope_of f f.region_params i) (f.region_type i)) (regions f))
    (dec_both (dec_all (λ a. dec_primitive (f.register_type a)) f.registers)
    (dec_both (dec_all (λ a. dec_uses (scope_of f f.params a) (f.register_type a)) f.registers)
    (dec_both (dec_primitive f.result) (dec_uses f.region_params f.result)))))

-- "function 0 with region parameters, or a parameter or return other than i32"
pub record EntryOk (f : Function) : Type 0 where
  pub no_regions : f.region_params ≡ 0
  pub parameters : (a : ℕ) → a < f.params → f.register_type a ≡ int 4
  pub returns : f.result ≡ int 4

unfoldable pub dec_entry : (f : Function) → Dec (EntryOk f)
dec_entry f = map_dec (λ h. record { no_regions = h.0; parameters = h.1.0; returns = h.1.1 }) (λ e. (e.no_regions, (e.parameters, e.returns)))
    (dec_both (ℕ_discrete f.region_params 0) (dec_both (dec_all (λ a. dec_tree (f.register_type a) (int 4)) f.params) (dec_tree f.result (int 4))))

-- ---- "8 the last is neither 31 nor 34"

abbrev pub Last : Instruction → Type 0
Last i = (kind_of i ≡ 31) ⊎ (kind_of i ≡ 34)

unfoldable pub dec_last : (i : Instruction) → Dec (Last i)
dec_last i = dec_either (ℕ_discrete (kind_of i) 31) (ℕ_discrete (kind_of i) 34)

-- ---- the ranges, which refusal 4 has made sure of: those of record 7, and "At most 128 terms, 32 names and 1 to 32 functions"

pub record Ranges (f : Function) : Type 0 where
  pub region_params : f.region_params ≤ most_region_params
  pub regions : regions f ≤ most_regions
  pub some_register : 1 ≤ f.registers
  pub registers : f.registers ≤ most_registers
  pub params : f.params ≤ most_entries
  pub few_params : f.params ≤ f.registers
  pub some : 1 ≤ f.code_length
  pub instructions : f.code_length ≤ most_instructions

pub record Tables (m : Module) : Type 0 where
  pub terms : m.terms ≤ most_terms
  pub structs : m.structs ≤ most_structs
  pub some : 1 ≤ m.functions
  pub functions : m.functions ≤ most_functions

-- ---- a well-typed module: what the theorem takes from the verdict

pub record WellTyped (m : Module) : Type 0 where
  pub tables : Tables m
  pub terms : (t : ℕ) → t < m.terms → TermOk m (m.term t)
  pub structs : (N : ℕ) → N < m.structs → StructOk m N
  pub ranges : (g : ℕ) → g < m.functions → Ranges (m.function g)
  pub functions : (g : ℕ) → g < m.functions → FunctionOk (m.function g)
  pub entry : EntryOk (m.function 0)
  pub typed : (g i : ℕ) → g < m.functions → i < (m.function g).code_length → Typed m (m.function g) ((m.function g).code i)
  pub lasts : (g : ℕ) → g < m.functions → Last ((m.function g).code ((m.function g).code_length - 1))
