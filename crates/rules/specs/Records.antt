-- Document 01, refusal 4: "record unknown, out of order, over a limit or naming nothing", and in code "a kind, operation,
-- register, region, function or target out of its range, a byte set that is unused, and a 35 missing or astray".
-- Assumes nothing.
use Rattle.std.specs.Prelude.{Bool, true, false, cond, ◌&&◌, ◌||◌, not, ℕ, ◌+◌, ltb, leb, eqb, get_or}
use Rattle.words.specs.Bytes.{Bytes}
use Rattle.rules.specs.Limits.{most_terms, most_structs, most_functions, most_regions, most_region_params, most_entries, most_registers, most_instructions, size_limit, bad_record}
use Rattle.rules.specs.Stages.{Stage}
use Rattle.rules.specs.File.{records, record_of, byte_of_d, entry_of, regions_of, return_of, parameters_of, instructions_of, within, is_term, is_instruction, kind_filler, kind_integer, kind_pointer, kind_array, kind_struct, kind_name, kind_fields, kind_function, kind_regions, kind_registers, kind_arguments}
use Rattle.rules.specs.Walk.{Scan, scan, whole, names_end, is_end}
use Rattle.rules.specs.Operands.{classes_of, operand_fits}
use Rattle.rules.specs.declared.Record.{Record}
use Rattle.rules.specs.declared.Walk.{Walk}
use Rattle.rules.specs.declared.Phase.{Phase}
use Rattle.rules.specs.declared.Phase.TheVariants.{Terms, Names, Fields, Functions, Regions, Registers, Code, Arguments, Filler, Broken}

-- entry j, from 0: the first n entries are below lim, "Unused bytes are zero"
abbrev pub slot : ℕ → ℕ → ℕ → ℕ → Bool
slot v j n lim = cond (ltb j n) (ltb v lim) (eqb v 0)

-- the four bytes of d, and bytes 1 to 7
unfoldable pub four : Record → ℕ → ℕ → Bool
four x n lim = (slot (byte_of_d x 0) 0 n lim && slot (byte_of_d x 1) 1 n lim) && (slot (byte_of_d x 2) 2 n lim && slot (byte_of_d x 3) 3 n lim)

unfoldable pub seven : Record → ℕ → ℕ → Bool
seven x n lim =
    ((slot (entry_of x 0) 0 n lim && slot (entry_of x 1) 1 n lim) && (slot (entry_of x 2) 2 n lim && slot (entry_of x 3) 3 n lim))
    && ((slot (entry_of x 4) 4 n lim && slot (entry_of x 5) 5 n lim) && slot (entry_of x 6) 6 n lim)

-- the same where the number of entries is not known: each is in range or zero
abbrev pub loose : ℕ → ℕ → Bool
loose v lim = ltb v lim || eqb v 0

unfoldable pub four_loose : Record → ℕ → Bool
four_loose x lim = (loose (byte_of_d x 0) lim && loose (byte_of_d x 1) lim) && (loose (byte_of_d x 2) lim && loose (byte_of_d x 3) lim)

unfoldable pub seven_loose : Record → ℕ → Bool
seven_loose x lim =
    ((loose (entry_of x 0) lim && loose (entry_of x 1) lim) && (loose (entry_of x 2) lim && loose (entry_of x 3) lim))
    && ((loose (entry_of x 4) lim && loose (entry_of x 5) lim) && loose (entry_of x 6) lim)

-- "filler (kind 0, all zero)"
abbrev pub is_filler : Record → Bool
is_filler x = ((eqb x.kind kind_filler && eqb x.a 0) && (eqb x.b 0 && eqb x.c 0)) && eqb x.d 0

-- "1 integer of a = 1, 2 or 4 bytes"
abbrev pub integer_fits : Record → Bool
integer_fits x = (eqb x.a 1 || (eqb x.a 2 || eqb x.a 4)) && ((eqb x.b 0 && eqb x.c 0) && eqb x.d 0)

-- "2 pointer to earlier term a in region variable b (0-6)"
abbrev pub pointer_fits : Walk → Record → Bool
pointer_fits w x = (ltb x.a w.terms && ltb x.b most_regions) && (eqb x.c 0 && eqb x.d 0)

-- "3 array of d (1-256) of earlier term a"
abbrev pub array_fits : Walk → Record → Bool
array_fits w x = (ltb x.a w.terms && within x.d 1 size_limit) && (eqb x.b 0 && eqb x.c 0)

-- "4 name a with b region arguments (0-4), one per byte of d, each 0-6"; t is the walk of the whole file
abbrev pub struct_fits : Walk → Record → Bool
struct_fits t x = ((ltb x.a t.names || not (names_end t)) && leb x.b most_region_params) && (eqb x.c 0 && four x x.b most_regions)

-- "At most 128 terms"
unfoldable pub term_fits : Walk → Walk → Record → Bool
term_fits t w x =
    ltb w.terms most_terms
    && (((eqb x.kind kind_integer && integer_fits x) || (eqb x.kind kind_pointer && pointer_fits w x))
    || ((eqb x.kind kind_array && array_fits w x) || (eqb x.kind kind_struct && struct_fits t x)))

-- "5 name with a regions (0-4) and b fields (1-7)", "32 names"
unfoldable pub name_fits : Walk → Record → Bool
name_fits w x = (ltb w.names most_structs && eqb x.kind kind_name) && ((leb x.a most_region_params && within x.b 1 most_entries) && (eqb x.c 0 && eqb x.d 0))

-- "7 function: a region parameters (0-4), b local regions (a + b ≤ 7), c registers (1-28); byte 4 the return term, byte 5
-- the parameters (0-7, ≤ c), bytes 6-7 the instructions (1-1,024)"
unfoldable pub head_ranges : Record → Bool
head_ranges x =
    ((leb x.a most_region_params && leb (regions_of x) most_regions) && within x.c 1 most_registers)
    && ((leb (parameters_of x) most_entries && leb (parameters_of x) x.c) && within (instructions_of x) 1 most_instructions)

-- "1 to 32 functions"
unfoldable pub function_fits : Walk → Record → Bool
function_fits w x = (ltb w.functions most_functions && (eqb x.kind kind_function && ltb (return_of x) w.terms)) && head_ranges x

-- "6: field terms in bytes 1-7", "8 .. region types", "9 .. register types": a record of kind k with the terms still to come
unfoldable pub list_fits : ℕ → Walk → Record → Bool
list_fits k w x = eqb x.kind k && seven x w.left w.terms

-- function g was reached, and its record 7
abbrev pub reached : Scan → ℕ → Bool
reached t g = ltb g t.walk.functions

abbrev pub head_of : Bytes → Scan → ℕ → Record
head_of f t g = record_of f (get_or t.starts g 0)

-- "regions d (a byte each)": those of the callee's region parameters are below the caller's regions, the rest unused
unfoldable pub region_bytes_fit : Bytes → Scan → Walk → Record → Bool
region_bytes_fit f t w x = cond (reached t x.b) (four x (head_of f t x.b).a w.regions) (four_loose x w.regions)

-- "naming nothing" where the end of the functions was reached
abbrev pub callee_fits : Scan → Record → Bool
callee_fits t x = reached t x.b || not (is_end t.walk.phase)

-- kinds 16 to 34
unfoldable pub instruction_fits : Bytes → Scan → Walk → Record → Bool
instruction_fits f t w x = let k = classes_of x.kind in
    is_instruction x.kind
    && ((operand_fits k.a x.a w.registers w.instructions false false
    && operand_fits k.b x.b w.registers w.instructions (callee_fits t x) false)
    && (operand_fits k.c x.c w.registers w.instructions false false
    && operand_fits k.d x.d w.registers w.instructions false (region_bytes_fit f t w x)))

-- "record 35 follows with argument registers in bytes 1-7"
unfoldable pub arguments_fit : Bytes → Scan → Walk → Record → Bool
arguments_fit f t w x =
    eqb x.kind kind_arguments
    && cond (reached t w.callee) (seven x (parameters_of (head_of f t w.callee)) w.registers) (seven_loose x w.registers)

-- record x is of a kind that may stand after the walk w, and its bytes are what the kind asks
unfoldable pub fits_in : Phase → Bytes → Scan → Walk → Record → Bool
fits_in Terms f t w x = cond (is_term x.kind) (term_fits t.walk w x) (cond (eqb x.kind kind_name) (name_fits w x) (function_fits w x))
fits_in Names f t w x = cond (eqb x.kind kind_name) (name_fits w x) (function_fits w x)
fits_in Fields f t w x = list_fits kind_fields w x
fits_in Functions f t w x = cond (eqb x.kind kind_function) (function_fits w x) (is_filler x)
fits_in Regions f t w x = list_fits kind_regions w x
fits_in Registers f t w x = list_fits kind_registers w x
fits_in Code f t w x = instruction_fits f t w x
fits_in Arguments f t w x = arguments_fit f t w x
fits_in Filler f t w x = is_filler x
fits_in Broken f t w x = true

unfoldable pub fits : Bytes → Scan → Walk → Record → Bool
fits f t w x = fits_in w.phase f t w x

-- a file may end here; behind a break nothing is at fault
abbrev pub end_fits : Phase → Bool
end_fits Terms = false
end_fits Names = false
end_fits Fields = false
end_fits Functions = true
end_fits Regions = false
end_fits Registers = false
end_fits Code = false
end_fits Arguments = false
end_fits Filler = true
end_fits Broken = true

-- each record; and one place more: "A file that ends too soon has its record count as place"
unfoldable pub record_test_with : Bytes → Scan → ℕ → Walk → Bool
record_test_with f t r w = cond (ltb r (records f)) (fits f t w (record_of f r)) (end_fits w.phase)

unfoldable pub record_test : Bytes → ℕ → Bool
record_test f r = record_test_with f (whole f) r (scan f r).walk

abbrev pub record_stage : Bytes → Stage
record_stage f = record { count = records f + 1; test = record_test f; number = λ p. bad_record; place = λ p. p }
