-- Document 01's worked file, those of its case C3, and files of one block for the refusals, by computation. A file is
-- written by its records, as document 01 writes them: each is filled up with zeros, and zeros follow. Assumes nothing.
use Rattle.std.specs.Prelude.{◌≡◌, refl, List, [], ◌∷◌, ◌++◌, ℕ, suc, take, replicate}
use Rattle.std.proofs.Math.Decide.{ℕ_discrete, dec_lt, dec_le}
use Rattle.words.specs.Bytes.{Bytes}
use Rattle.rules.specs.Limits.{record_bytes, check_at, size_limit}
use Rattle.rules.specs.Types.{variable, arr}
use Rattle.rules.specs.Flat.{size}
use Rattle.words.specs.Bytes.{number, little, list_from}
use Rattle.words.specs.First.{first_from, first, sum_below}
use Rattle.words.specs.Decide.{dec_both, dec_either, dec_imp, dec_all, dec_the, map_dec, dec_list, dec_each}
use Rattle.rules.specs.Decision.{as_int, as_ptr, as_arr, as_raw, dec_an_address, dec_reg, with_int, with_ptr, with_raw, an_int, a_ptr, a_raw, dec_untyped, dec_constant, dec_copy, dec_operate, dec_zero, dec_signed, dec_address, dec_check, dec_field, dec_index, dec_through, dec_load, dec_store, dec_whole, dec_new, dec_free, dec_input, dec_output, dec_jump, dec_branch, dec_call, dec_return, dec_new_bytes, dec_load_byte, dec_store_byte, dec_check_bytes, dec_typed}
use Rattle.rules.specs.Decode.{region_bytes, tree_of, trees_of, fields_of, places, code_places, call_of, arithmetic_of, memory_of, control_of, by_group, instruction_of, code_of, function_of, region_type_of, module_of, start_of, instruction_at}
use Rattle.rules.specs.File.{check_sum, block_test, records, record_start, record_of, group_of}
use Rattle.rules.specs.Flat.{dec_placed, dec_prims, beside, copies_of, copies, sub_layout, flat_with, fields_from, fields_with, layouts, flat, struct_flat, dec_run, dec_same}
use Rattle.rules.specs.Operands.{operand_table, classes_of, operand_fits}
use Rattle.rules.specs.Quick.{along, quick_records, quick_of}
use Rattle.rules.specs.Records.{four, seven, four_loose, seven_loose, term_fits, name_fits, head_ranges, function_fits, list_fits, region_bytes_fit, instruction_fits, arguments_fit, fits_in, fits, record_test_with}
use Rattle.rules.specs.Stages.{verdict}
use Rattle.rules.specs.Types.{dec_region, sub, dec_tree, dec_uses, dec_primitive}
use Rattle.rules.specs.Verdict.{term_test, struct_test, function_test, instruction_test, instruction_stage, last_test, module_stages, instructions, module_rules}
use Rattle.rules.specs.Walk.{to_code, to_registers, opened, done, to_function, to_name, step, next, next_scan, scan, whole}
use Rattle.rules.specs.WellTyped.{dec_counts, dec_term, dec_struct, scope_of, dec_function, dec_entry, dec_last}
use Rattle.rules.specs.CaseStates.{module_with, to, named}
use Rattle.rules.specs.Table.{Case, case, Agree, agree}
use Rattle.rules.specs.Refusals.{Accepted, Refused}

-- ---- flat types

-- a name that mentions itself outside pointers has no size; under a pointer it may
pub own_outside : size {k = variable} (module_with ((arr 2 (named 0) ∷ []) ∷ []) []) (named 0) ≡ suc size_limit
unfolding flat layouts fields_from fields_with flat_with beside copies copies_of sub_layout
own_outside = refl

pub own_under : size {k = variable} (module_with ((to (named 0) ∷ []) ∷ []) []) (named 0) ≡ 4
unfolding flat layouts fields_from fields_with flat_with beside sub_layout
own_under = refl

-- ---- files

-- the records' bytes
unfoldable pub records_bytes : List (List ℕ) → Bytes
records_bytes [] = []
records_bytes (x ∷ xs) = take record_bytes (x ++ replicate record_bytes 0) ++ records_bytes xs

-- a file of one block, which says that it has this place and count, with these records and check
unfoldable pub file_of : ℕ → ℕ → List (List ℕ) → ℕ → Bytes
file_of place count rs sum = take check_at (little 2 place ++ (little 2 count ++ (records_bytes rs ++ replicate check_at 0))) ++ little 4 sum

-- with place and count right
unfoldable pub file : List (List ℕ) → ℕ → Bytes
file rs sum = file_of 0 1 rs sum

-- "Records (1,4) (7,0,0,1,0,0,2) (9) (16,0,0,0,42) (34), zeros after, check 3474"
unfoldable pub worked_records : List (List ℕ)
worked_records = (1 ∷ 4 ∷ []) ∷ (7 ∷ 0 ∷ 0 ∷ 1 ∷ 0 ∷ 0 ∷ 2 ∷ []) ∷ (9 ∷ []) ∷ (16 ∷ 0 ∷ 0 ∷ 0 ∷ 42 ∷ []) ∷ (34 ∷ []) ∷ []

unfoldable pub worked : Bytes
worked = file worked_records 3474

-- C3's: one with a term i8 times 256, and one with a name, in record 4, of this term and an i8 more
unfoldable pub largest_term : Bytes
largest_term = file ((1 ∷ 1 ∷ []) ∷ (1 ∷ 2 ∷ []) ∷ (1 ∷ 4 ∷ []) ∷ (3 ∷ 0 ∷ 0 ∷ 0 ∷ 0 ∷ 1 ∷ []) ∷ (7 ∷ 0 ∷ 0 ∷ 1 ∷ 2 ∷ 0 ∷ 1 ∷ []) ∷ (9 ∷ 2 ∷ []) ∷ (34 ∷ []) ∷ []) 3008

unfoldable pub byte_more : Bytes
byte_more = file
    ((1 ∷ 1 ∷ []) ∷ (1 ∷ 2 ∷ []) ∷ (1 ∷ 4 ∷ []) ∷ (3 ∷ 0 ∷ 0 ∷ 0 ∷ 0 ∷ 1 ∷ []) ∷ (5 ∷ 0 ∷ 2 ∷ []) ∷ (6 ∷ 3 ∷ []) ∷
    (7 ∷ 0 ∷ 0 ∷ 1 ∷ 2 ∷ 0 ∷ 1 ∷ []) ∷ (9 ∷ 2 ∷ []) ∷ (34 ∷ []) ∷ []) 4575

abbrev pub table : List Case
table =
    -- "print: accepted 1 0 1 2"
    case worked (Accepted 1 0 1 2) ∷
    -- no block
    case [] (Refused 1 0) ∷
    -- C3's two
    case largest_term (Accepted 4 0 1 1) ∷
    case byte_more (Refused 5 4) ∷
    -- a byte less; a byte more
    case (take 511 worked) (Refused 1 0) ∷
    case (worked ++ 0 ∷ []) (Refused 1 0) ∷
    -- place, count and check, "2 first"
    case (file_of 1 1 worked_records 3475) (Refused 2 0) ∷
    case (file_of 0 2 worked_records 3477) (Refused 2 0) ∷
    case (file_of 1 1 worked_records 3474) (Refused 2 0) ∷
    case (file worked_records 3473) (Refused 3 0) ∷
    -- a call for region 1, with its 35
    case (file ((1 ∷ 1 ∷ []) ∷ (1 ∷ 2 ∷ []) ∷ (1 ∷ 4 ∷ []) ∷ (7 ∷ 0 ∷ 2 ∷ 1 ∷ 2 ∷ 0 ∷ 2 ∷ []) ∷ (8 ∷ 2 ∷ 2 ∷ []) ∷
    (9 ∷ 2 ∷ []) ∷ (33 ∷ 0 ∷ 1 ∷ 0 ∷ 1 ∷ []) ∷ (35 ∷ []) ∷ (34 ∷ []) ∷ (7 ∷ 1 ∷ 0 ∷ 1 ∷ 2 ∷ 1 ∷ 1 ∷ []) ∷
    (8 ∷ 2 ∷ []) ∷ (9 ∷ 2 ∷ []) ∷ (34 ∷ []) ∷ []) 14221) (Accepted 3 0 2 3) ∷
    -- "record 35 follows": the place where it should stand
    case (file ((1 ∷ 1 ∷ []) ∷ (1 ∷ 2 ∷ []) ∷ (1 ∷ 4 ∷ []) ∷ (2 ∷ 2 ∷ []) ∷ (7 ∷ 0 ∷ 1 ∷ 2 ∷ 2 ∷ 0 ∷ 3 ∷ []) ∷
    (8 ∷ 2 ∷ []) ∷ (9 ∷ 2 ∷ 3 ∷ []) ∷ (27 ∷ 1 ∷ []) ∷ (33 ∷ 0 ∷ 1 ∷ []) ∷ (16 ∷ []) ∷ (34 ∷ []) ∷
    (7 ∷ 1 ∷ 0 ∷ 2 ∷ 2 ∷ 2 ∷ 1 ∷ []) ∷ (8 ∷ 2 ∷ []) ∷ (9 ∷ 2 ∷ 3 ∷ []) ∷ (34 ∷ []) ∷ []) 18202) (Refused 4 9) ∷
    -- a call of a function behind a break is not known to name nothing: the break is at fault
    case (file ((1 ∷ 1 ∷ []) ∷ (1 ∷ 2 ∷ []) ∷ (1 ∷ 4 ∷ []) ∷ (2 ∷ 2 ∷ []) ∷ (7 ∷ 0 ∷ 1 ∷ 2 ∷ 2 ∷ 0 ∷ 3 ∷ []) ∷
    (8 ∷ 2 ∷ []) ∷ (9 ∷ 2 ∷ 3 ∷ []) ∷ (27 ∷ 1 ∷ []) ∷ (33 ∷ 0 ∷ 3 ∷ []) ∷ (35 ∷ 0 ∷ 1 ∷ []) ∷ (34 ∷ []) ∷
    (7 ∷ 1 ∷ 0 ∷ 2 ∷ 2 ∷ 2 ∷ 1 ∷ []) ∷ (8 ∷ 2 ∷ []) ∷ (9 ∷ 2 ∷ 3 ∷ []) ∷ (99 ∷ []) ∷ []) 27491) (Refused 4 14) ∷
    -- a name that mentions itself outside pointers: its term comes first
    case (file ((1 ∷ 1 ∷ []) ∷ (1 ∷ 2 ∷ []) ∷ (1 ∷ 4 ∷ []) ∷ (4 ∷ []) ∷ (5 ∷ 0 ∷ 1 ∷ []) ∷ (6 ∷ 3 ∷ []) ∷
    (7 ∷ 0 ∷ 0 ∷ 1 ∷ 2 ∷ 0 ∷ 1 ∷ []) ∷ (9 ∷ 2 ∷ []) ∷ (34 ∷ []) ∷ []) 4531) (Refused 5 3) ∷
    -- "field using a region its name lacks"
    case (file ((1 ∷ 1 ∷ []) ∷ (1 ∷ 2 ∷ []) ∷ (1 ∷ 4 ∷ []) ∷ (2 ∷ 2 ∷ 1 ∷ []) ∷ (5 ∷ 1 ∷ 1 ∷ []) ∷ (6 ∷ 3 ∷ []) ∷
    (7 ∷ 0 ∷ 0 ∷ 1 ∷ 2 ∷ 0 ∷ 1 ∷ []) ∷ (9 ∷ 2 ∷ []) ∷ (34 ∷ []) ∷ []) 4602) (Refused 5 4) ∷
    -- "Letting a return term name a local region"
    case (file ((1 ∷ 1 ∷ []) ∷ (1 ∷ 2 ∷ []) ∷ (1 ∷ 4 ∷ []) ∷ (2 ∷ 2 ∷ []) ∷ (2 ∷ 2 ∷ 1 ∷ []) ∷ (3 ∷ 2 ∷ 0 ∷ 0 ∷ 2 ∷ []) ∷
    (4 ∷ []) ∷ (2 ∷ 2 ∷ 2 ∷ []) ∷ (2 ∷ 4 ∷ []) ∷ (5 ∷ 0 ∷ 1 ∷ []) ∷ (6 ∷ 2 ∷ []) ∷
    (7 ∷ 0 ∷ 0 ∷ 1 ∷ 2 ∷ 0 ∷ 1 ∷ []) ∷ (9 ∷ 2 ∷ []) ∷ (34 ∷ []) ∷ (7 ∷ 1 ∷ 1 ∷ 1 ∷ 4 ∷ 0 ∷ 1 ∷ []) ∷
    (8 ∷ 2 ∷ 2 ∷ []) ∷ (9 ∷ 4 ∷ []) ∷ (34 ∷ []) ∷ []) 18619) (Refused 6 14) ∷
    -- "function 0 with region parameters"
    case (file ((1 ∷ 1 ∷ []) ∷ (1 ∷ 2 ∷ []) ∷ (1 ∷ 4 ∷ []) ∷ (7 ∷ 1 ∷ 0 ∷ 1 ∷ 2 ∷ 0 ∷ 1 ∷ []) ∷ (8 ∷ 2 ∷ []) ∷
    (9 ∷ 2 ∷ []) ∷ (34 ∷ []) ∷ []) 3201) (Refused 6 3) ∷
    -- "Checking region scope but not region type at a call"
    case (file ((1 ∷ 1 ∷ []) ∷ (1 ∷ 2 ∷ []) ∷ (1 ∷ 4 ∷ []) ∷ (2 ∷ 2 ∷ []) ∷ (2 ∷ 2 ∷ 1 ∷ []) ∷ (2 ∷ 2 ∷ 2 ∷ []) ∷
    (2 ∷ 1 ∷ []) ∷ (7 ∷ 0 ∷ 3 ∷ 5 ∷ 2 ∷ 0 ∷ 2 ∷ []) ∷ (8 ∷ 2 ∷ 1 ∷ 2 ∷ []) ∷ (9 ∷ 2 ∷ 3 ∷ 4 ∷ 5 ∷ []) ∷
    (33 ∷ 2 ∷ 1 ∷ 0 ∷ 0 ∷ 1 ∷ []) ∷ (35 ∷ 1 ∷ 2 ∷ []) ∷ (34 ∷ []) ∷ (7 ∷ 2 ∷ 0 ∷ 3 ∷ 4 ∷ 3 ∷ 1 ∷ []) ∷
    (8 ∷ 2 ∷ 2 ∷ []) ∷ (9 ∷ 3 ∷ 4 ∷ 2 ∷ []) ∷ (34 ∷ 1 ∷ []) ∷ []) 25513) (Refused 7 10) ∷
    -- pointers to equal terms in two regions are of two types
    case (file ((1 ∷ 1 ∷ []) ∷ (1 ∷ 2 ∷ []) ∷ (1 ∷ 4 ∷ []) ∷ (4 ∷ []) ∷ (2 ∷ 3 ∷ []) ∷ (2 ∷ 2 ∷ []) ∷ (2 ∷ []) ∷
    (3 ∷ 0 ∷ 0 ∷ 0 ∷ 2 ∷ []) ∷ (2 ∷ 7 ∷ []) ∷ (3 ∷ 0 ∷ 0 ∷ 0 ∷ 4 ∷ []) ∷ (2 ∷ 9 ∷ 1 ∷ []) ∷ (2 ∷ 0 ∷ 1 ∷ []) ∷
    (2 ∷ 2 ∷ 2 ∷ []) ∷ (2 ∷ 5 ∷ 2 ∷ []) ∷ (4 ∷ 1 ∷ []) ∷ (2 ∷ 14 ∷ []) ∷ (1 ∷ 4 ∷ []) ∷ (2 ∷ 16 ∷ 2 ∷ []) ∷
    (2 ∷ 7 ∷ 1 ∷ []) ∷ (3 ∷ 0 ∷ 0 ∷ 0 ∷ 4 ∷ []) ∷ (2 ∷ 19 ∷ 1 ∷ []) ∷ (4 ∷ 2 ∷ []) ∷ (2 ∷ 21 ∷ []) ∷
    (5 ∷ 0 ∷ 4 ∷ []) ∷ (6 ∷ 2 ∷ 0 ∷ 0 ∷ 2 ∷ []) ∷ (5 ∷ 0 ∷ 2 ∷ []) ∷ (6 ∷ []) ∷ (5 ∷ 0 ∷ 3 ∷ []) ∷
    (6 ∷ 2 ∷ 14 ∷ 2 ∷ []) ∷ (7 ∷ 0 ∷ 3 ∷ 17 ∷ 2 ∷ 0 ∷ 2 ∷ []) ∷ (8 ∷ 3 ∷ 9 ∷ 2 ∷ []) ∷
    (9 ∷ 2 ∷ 0 ∷ 1 ∷ 4 ∷ 5 ∷ 6 ∷ 8 ∷ []) ∷ (9 ∷ 10 ∷ 11 ∷ 12 ∷ 13 ∷ 15 ∷ 17 ∷ 18 ∷ []) ∷
    (9 ∷ 20 ∷ 22 ∷ 16 ∷ []) ∷ (17 ∷ 4 ∷ 9 ∷ []) ∷ (34 ∷ []) ∷ []) 122295) (Refused 7 34) ∷
    -- name 0 = {i32; pointer to i32 in region 0}: for region 2 its field does not point into region 0
    case (file ((1 ∷ 1 ∷ []) ∷ (1 ∷ 2 ∷ []) ∷ (1 ∷ 4 ∷ []) ∷ (2 ∷ 2 ∷ []) ∷ (4 ∷ 0 ∷ 1 ∷ 0 ∷ 2 ∷ []) ∷ (2 ∷ 4 ∷ 1 ∷ []) ∷
    (2 ∷ 3 ∷ 1 ∷ []) ∷ (5 ∷ 1 ∷ 2 ∷ []) ∷ (6 ∷ 2 ∷ 3 ∷ []) ∷ (7 ∷ 0 ∷ 3 ∷ 4 ∷ 2 ∷ 0 ∷ 5 ∷ []) ∷
    (8 ∷ 0 ∷ 4 ∷ 2 ∷ []) ∷ (9 ∷ 2 ∷ 5 ∷ 6 ∷ 3 ∷ []) ∷ (27 ∷ 1 ∷ []) ∷ (23 ∷ 2 ∷ 1 ∷ 0 ∷ 1 ∷ []) ∷
    (25 ∷ 3 ∷ 2 ∷ []) ∷ (21 ∷ 0 ∷ 3 ∷ []) ∷ (34 ∷ []) ∷ []) 24524) (Refused 7 13) ∷
    -- but into region 2
    case (file ((1 ∷ 1 ∷ []) ∷ (1 ∷ 2 ∷ []) ∷ (1 ∷ 4 ∷ []) ∷ (2 ∷ 2 ∷ []) ∷ (4 ∷ 0 ∷ 1 ∷ 0 ∷ 2 ∷ []) ∷ (2 ∷ 4 ∷ 1 ∷ []) ∷
    (2 ∷ 2 ∷ 2 ∷ []) ∷ (2 ∷ 6 ∷ 1 ∷ []) ∷ (5 ∷ 1 ∷ 2 ∷ []) ∷ (6 ∷ 2 ∷ 3 ∷ []) ∷
    (7 ∷ 0 ∷ 3 ∷ 4 ∷ 2 ∷ 0 ∷ 5 ∷ []) ∷ (8 ∷ 0 ∷ 4 ∷ 2 ∷ []) ∷ (9 ∷ 2 ∷ 5 ∷ 7 ∷ 6 ∷ []) ∷ (27 ∷ 1 ∷ []) ∷
    (23 ∷ 2 ∷ 1 ∷ 0 ∷ 1 ∷ []) ∷ (25 ∷ 3 ∷ 2 ∷ []) ∷ (21 ∷ 0 ∷ 3 ∷ []) ∷ (34 ∷ []) ∷ []) 27277) (Accepted 8 1 1 5) ∷
    -- terms are equal "under any term numbers"
    case (file ((1 ∷ 1 ∷ []) ∷ (1 ∷ 2 ∷ []) ∷ (1 ∷ 4 ∷ []) ∷ (1 ∷ 4 ∷ []) ∷ (2 ∷ 2 ∷ []) ∷ (2 ∷ 3 ∷ []) ∷
    (7 ∷ 0 ∷ 1 ∷ 4 ∷ 2 ∷ 0 ∷ 6 ∷ []) ∷ (8 ∷ 3 ∷ []) ∷ (9 ∷ 2 ∷ 4 ∷ 5 ∷ 3 ∷ []) ∷ (27 ∷ 1 ∷ []) ∷
    (17 ∷ 2 ∷ 1 ∷ []) ∷ (16 ∷ 3 ∷ 0 ∷ 0 ∷ 6 ∷ []) ∷ (26 ∷ 1 ∷ 3 ∷ []) ∷ (25 ∷ 0 ∷ 2 ∷ []) ∷ (34 ∷ []) ∷ []) 20282) (Accepted 6 0 1 6) ∷
    -- 8 at the 33, not at its 35
    case (file ((1 ∷ 1 ∷ []) ∷ (1 ∷ 2 ∷ []) ∷ (1 ∷ 4 ∷ []) ∷ (2 ∷ 2 ∷ []) ∷ (7 ∷ 0 ∷ 1 ∷ 2 ∷ 2 ∷ 0 ∷ 2 ∷ []) ∷
    (8 ∷ 2 ∷ []) ∷ (9 ∷ 2 ∷ 3 ∷ []) ∷ (27 ∷ 1 ∷ []) ∷ (33 ∷ 0 ∷ 1 ∷ []) ∷ (35 ∷ 0 ∷ 1 ∷ []) ∷
    (7 ∷ 1 ∷ 0 ∷ 2 ∷ 2 ∷ 2 ∷ 1 ∷ []) ∷ (8 ∷ 2 ∷ []) ∷ (9 ∷ 2 ∷ 3 ∷ []) ∷ (34 ∷ []) ∷ []) 16227) (Refused 8 8) ∷
    []

pub agrees : Agree table
unfolding number little list_from first_from first sum_below dec_both dec_either dec_imp dec_all dec_the map_dec dec_list dec_each as_int as_ptr as_arr as_raw dec_an_address dec_reg with_int with_ptr with_raw an_int a_ptr a_raw dec_untyped dec_constant dec_copy dec_operate dec_zero dec_signed dec_address dec_check dec_field dec_index dec_through dec_load dec_store dec_whole dec_new dec_free dec_input dec_output dec_jump dec_branch dec_call dec_return dec_new_bytes dec_load_byte dec_store_byte dec_check_bytes dec_typed region_bytes tree_of trees_of fields_of places code_places call_of arithmetic_of memory_of control_of by_group instruction_of code_of function_of region_type_of module_of start_of instruction_at check_sum block_test records record_start record_of group_of dec_placed dec_prims beside copies_of copies sub_layout flat_with fields_from fields_with layouts flat struct_flat dec_run dec_same operand_table classes_of operand_fits along quick_records quick_of four seven four_loose seven_loose term_fits name_fits head_ranges function_fits list_fits region_bytes_fit instruction_fits arguments_fit fits_in fits record_test_with verdict dec_region sub dec_tree dec_uses dec_primitive term_test struct_test function_test instruction_test instruction_stage last_test module_stages instructions module_rules to_code to_registers opened done to_function to_name step next next_scan scan whole dec_counts dec_term dec_struct scope_of dec_function dec_entry dec_last ℕ_discrete dec_lt dec_le records_bytes file_of file worked_records worked largest_term byte_more
agrees = agree table refl
