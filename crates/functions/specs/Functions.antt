-- A function of the file by the place of its record 7: which records say what of it. Document 01, "The module file". And what
-- refusals 1 to 4 have established where the rules above them are tested. Assumes nothing.
use Rattle.std.specs.Prelude.{◌≡◌, cond, List, ltb, length, get_or}
use Rattle.std.proofs.Math.Path.{refl, sym, ap}
use Rattle.std.proofs.Common.{◌∙◌, add-one, arith}
use Prim.Native.Nat.{ℕ, zero, suc, ◌+◌, ◌*◌, ◌/◌, ◌%◌, ◌^◌, ◌<◌, ◌≤◌}
use Rattle.std.proofs.Math.ListN.{get_or-eq_default}
use Rattle.words.specs.Bytes.{Bytes}
use Rattle.rules.specs.Limits.{most_entries, most_functions, block_bytes, most_blocks}
use Rattle.rules.specs.File.{records, record_of, entry_of, regions_of, return_of, parameters_of, instructions_of}
use Rattle.rules.specs.Module.{Function, Instruction, regions}
use Rattle.rules.specs.Walk.{whole}
use Rattle.rules.specs.Decode.{trees_of, registers_at, code_at, after, places, code_places, code_of, function_of, module_of, start_of, instruction_at}
use Rattle.rules.specs.declared.Record.{Record}
use Rattle.walk.specs.Tables.{starts_of, start_below}
use Rattle.walk.specs.Code.{registers_far, skip_far}
use Rattle.typing.specs.Walk.{skip, skip_suc, place_at}
use Rattle.std.proofs.Math.Nat.{ℕ_set}
use Rattle.std.specs.Coded.{le_prop}
use Rattle.terms.specs.Extents.{Terms, Counted}
use Rattle.terms.specs.Readers.{entry_type}

-- what refusals 1 to 4 have established of file f: n terms, k structs, c functions, and where the functions start
pub record Known (f : Bytes) (n k c : ℕ) (heads : List ℕ) : Type 0 where
  pub counted : Counted f n k
  pub functions : c ≡ (module_of f).functions
  pub few : c ≤ most_functions
  pub starts : heads ≡ starts_of f
  pub short : length f ≤ most_blocks * block_bytes

-- what is known of the terms has one proof at most, as the invariant of a struct must
pub terms_prop : (f : Bytes) (n : ℕ) → IsProp (Terms f n)
terms_prop f n d g = λ i. record { are = ℕ_set _ _ d.are g.are i; few = le_prop d.few g.few i }

-- every record of such a file stands before this one
abbrev pub place_limit : ℕ
place_limit = 4096

-- the function with record 7 at h
unfoldable pub function_at : Bytes → ℕ → Function
function_at f h = function_of f (whole f).starts (trees_of f (whole f).walk.terms) h

-- the terms of its registers, by number
unfoldable pub register_term : Bytes → ℕ → ℕ → ℕ
register_term f h i = entry_of (record_of f (registers_at f h + i / most_entries)) (i % most_entries)

-- the entries of its regions in record 8: a term, or 255
unfoldable pub region_term : Bytes → ℕ → ℕ → ℕ
region_term f h i = entry_of (record_of f (h + 1)) i

-- the regions that entry j of a list may use, whose first n may use the region parameters only, by record 7
unfoldable pub scope_in : Record → ℕ → ℕ → ℕ
scope_in x n j = cond (ltb j n) x.a (regions_of x)

-- the record of its instruction i
unfoldable pub place_in : Bytes → ℕ → ℕ → ℕ
place_in f h i = get_or (code_places f h) i 0

-- the instruction at record r
unfoldable pub instruction_in : Bytes → ℕ → Instruction
instruction_in f r = code_of f (whole f).starts r

pub function_at_law : (f : Bytes) (g : ℕ) → (module_of f).function g ≡ function_at f (start_of f g)
unfolding module_of function_at start_of
function_at_law f g = refl

pub place_in_law : (f : Bytes) (g i : ℕ) → instruction_at f g i ≡ place_in f (start_of f g) i
unfolding instruction_at place_in
place_in_law f g i = refl

module _ (f : Bytes) (h : ℕ) where
  pub region_params_at : (function_at f h).region_params ≡ (record_of f h).a
  unfolding function_at function_of
  region_params_at = refl

  pub regions_at : regions (function_at f h) ≡ regions_of (record_of f h)
  unfolding function_at function_of
  regions_at = refl

  pub registers_at_law : (function_at f h).registers ≡ (record_of f h).c
  unfolding function_at function_of
  registers_at_law = refl

  pub params_at : (function_at f h).params ≡ parameters_of (record_of f h)
  unfolding function_at function_of
  params_at = refl

  pub length_at : (function_at f h).code_length ≡ instructions_of (record_of f h)
  unfolding function_at function_of
  length_at = refl

  pub result_at_law : (function_at f h).result ≡ (module_of f).term (return_of (record_of f h))
  unfolding function_at function_of module_of
  result_at_law = refl

  pub register_at : (i : ℕ) → (function_at f h).register_type i ≡ (module_of f).term (register_term f h i)
  unfolding function_at function_of module_of register_term
  register_at i = refl

  pub region_at : (i : ℕ) → (function_at f h).region_type i ≡ entry_type f (region_term f h i)
  unfolding function_at function_of module_of region_term
  region_at i = refl

  pub code_at_law : (i : ℕ) → (function_at f h).code i ≡ instruction_in f (place_in f h i)
  unfolding function_at function_of instruction_in place_in
  code_at_law i = refl

-- ---- a function starts below the file's records

pub start_small : (f : Bytes) → length f ≤ most_blocks * block_bytes → (g : ℕ) → start_of f g < place_limit
unfolding records
start_small f s g = let h = start_below f g in omega arith

-- ---- the record of an instruction

module _ (f : Bytes) (h : ℕ) where
  -- the instructions passed so far
  pub place_begin : code_at f h ≡ skip f (code_at f h) 0
  unfolding skip
  place_begin = refl

  pub place_more : (r j : ℕ) → r ≡ skip f (code_at f h) j → after f r ≡ skip f (code_at f h) (j + 1)
  place_more r j e = rw (add-one j, skip_suc f (code_at f h) j) (ap (after f) e)

  pub place_far : (x : Record) → x ≡ record_of f h → x.c < 256 → h < place_limit → (j r : ℕ) → r ≡ skip f (code_at f h) j → j < 65536 → r < 2 ^ 32
  place_far x e b l j r q k =
      let s = skip_far f (code_at f h) j in
      let t = registers_far f h in
      let u : x.c ≡ (record_of f h).c = ap (λ (y : Record). y.c) e in
      omega arith

  pub place_found : (count i r j : ℕ) → count ≡ instructions_of (record_of f h) → i < count → r ≡ skip f (code_at f h) j → j ≡ i → r ≡ place_in f h i
  unfolding place_in code_places
  place_found count i r j e l q z = q ∙ ap (skip f (code_at f h)) z ∙ sym (place_at f (code_at f h) (instructions_of (record_of f h)) i (omega arith))

  places_length : (r n : ℕ) → length (places f r n) ≡ n
  unfolding places
  places_length r zero = refl
  places_length r (suc n) = ap suc (places_length (after f r) n)

  pub place_none : (count i : ℕ) → count ≡ instructions_of (record_of f h) → count ≤ i → 0 ≡ place_in f h i
  unfolding place_in code_places
  place_none count i e l = sym (get_or-eq_default (places f (code_at f h) (instructions_of (record_of f h))) 0 {n = i} (rw (places_length (code_at f h) (instructions_of (record_of f h))) (omega arith)))
