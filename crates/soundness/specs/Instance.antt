-- The theorem is not empty. A file whose function 0 takes an object, stores 42 in it, calls function 1 for its region with the pointer,
-- which loads it, frees the object, takes it again and returns what it holds then: accepted, opened, and run, by computation; and the
-- claim of demand 3 for every list of calls with it. Assumes nothing.
use Rattle.std.specs.Prelude.{◌≡◌, refl, List, [], ◌∷◌, ℕ, ◌*◌, length, replicate}
use Rattle.std.proofs.Common.{sym, ap, ap₂, ◌∙◌, subst, inl, arith}
use Rattle.std.proofs.lemmas.List.{length-replicate}
use Rattle.words.specs.Bytes.{Bytes, AllBytes}
use Rattle.words.specs.Choose.{cond_eq}
use Rattle.rules.specs.Limits.{output_bytes, state_bytes}
use Rattle.rules.specs.Verdict.{verdict_of, IsAccepted}
use Rattle.rules.specs.Step.{Effect, assign, fetch, save, take_places, grant_page, free_place, go_to, emit, push, pop, finish, stop, stuck}
use Rattle.rules.specs.Run.{Step, Trace}
use Rattle.rules.specs.Host.{Outcome, ended, went, not_opened, opened, open_of, open_at, go_of}
use Rattle.rules.specs.SafeStep.{dec_in_primitives, dec_names, dec_in_typed, dec_names_bytes, dec_in_raw, dec_in_value, stray_from, stray_bytes}
use Rattle.rules.specs.Calls.{granted, handed_back, Call, Lent, from_opening}
use Rattle.rules.specs.Claim.{Claim}
use Rattle.words.specs.Bits.{bit, with_bit}
use Rattle.words.specs.Bytes.{number, little, splice, list_from}
use Rattle.words.specs.First.{first_from, first, all_below, sum_below}
use Rattle.words.specs.Decide.{dec_both, dec_either, dec_imp, dec_not, dec_all, dec_any, dec_the, map_dec, dec_list, dec_each}
use Rattle.rules.specs.Types.{dec_region, sub, dec_tree, dec_uses, dec_primitive}
use Rattle.rules.specs.Flat.{dec_placed, dec_prims, beside, copies_of, copies, sub_layout, flat_with, fields_from, fields_with, layouts, flat, dec_run, position_at, dec_same, struct_flat}
use Rattle.rules.specs.Decision.{as_int, as_ptr, as_arr, as_raw, dec_an_address, dec_reg, with_int, with_ptr, with_raw, an_int, a_ptr, a_raw, dec_untyped, dec_constant, dec_copy, dec_operate, dec_zero, dec_signed, dec_address, dec_check, dec_field, dec_index, dec_through, dec_load, dec_store, dec_whole, dec_new, dec_free, dec_input, dec_output, dec_jump, dec_branch, dec_call, dec_return, dec_new_bytes, dec_load_byte, dec_store_byte, dec_check_bytes, dec_typed}
use Rattle.rules.specs.State.{frame_function, frame_instruction, frame_register, frame_map, page_owner, page_mark, memory_byte, view, memory_number, written, put_marks, words_of, frame_of, all_pages}
use Rattle.rules.specs.Heap.{dec_local, dec_live, local_list, live_list, look, type_of, dec_stands, dec_in_untyped, dec_value}
use Rattle.rules.specs.Arithmetic.{operation_of, flag, value_if, left_by, right_by, magnitude, nearest_of, signed_by, nearest_by, biased, operated, sign_extended}
use Rattle.rules.specs.Step.{need, on_int, on_ptr, on_arr, on_raw, dec_is_call, dec_stands_at_call, on_call, is_in, lowest, lowest_numbers, dec_home, has_room, room_page, unused_run, unused_place, has_place, unowned_page, allocate, not_zero, computed, dec_held, callee_map, callee_registers, returned, exec, effect_at, effect_of, closed_pages}
use Rattle.rules.specs.Writes.{closing, leaving, state_writes, output_writes, apply_state, apply_output}
use Rattle.rules.specs.Run.{run_of, stuck_steps}
use Rattle.rules.specs.WellTyped.{dec_counts, dec_term, dec_struct, scope_of, dec_function, dec_entry, dec_last}
use Rattle.rules.specs.Decode.{region_bytes, tree_of, trees_of, fields_of, places, code_places, call_of, arithmetic_of, memory_of, control_of, by_group, instruction_of, code_of, function_of, region_type_of, module_of, start_of, instruction_at}
use Rattle.rules.specs.File.{records, record_start, record_of, group_of, check_sum, block_test}
use Rattle.rules.specs.Walk.{to_code, to_registers, opened as openedFunction, done, to_function, to_name, step, next, next_scan, scan, whole}
use Rattle.rules.specs.Host.{outcome_of, went_of, first_register, first_state, object_in, first_at}
use Rattle.std.proofs.Math.Decide.{ℕ_discrete, dec_lt, dec_le}
use Rattle.rules.specs.Operands.{operand_table, classes_of, operand_fits}
use Rattle.rules.specs.Quick.{along, quick_records, quick_of}
use Rattle.rules.specs.Records.{four, seven, four_loose, seven_loose, term_fits, name_fits, head_ranges, function_fits, list_fits, region_bytes_fit, instruction_fits, arguments_fit, fits_in, fits, record_test_with}
use Rattle.rules.specs.Stages.{verdict}
use Rattle.rules.specs.Verdict.{term_test, struct_test, function_test, instruction_test, instruction_stage, last_test, module_stages, instructions, module_rules}
use Rattle.rules.specs.Table.{case, agree}
use Rattle.rules.specs.CasesFile.{records_bytes, file_of, file}
use Rattle.rules.specs.Refusals.{Accepted}
use Rattle.soundness.specs.Demand3.{verdict_accepted, demand_3}
use Rattle.soundness.specs.ForCode.{opened_steady, go_went}

-- terms i32 and pointer to i32 in region 0; function 0 with a local region of i32, function 1 with a region parameter of i32
pub example : Bytes
example = file
    ((1 ∷ 4 ∷ []) ∷ (2 ∷ 0 ∷ 0 ∷ []) ∷
    (7 ∷ 0 ∷ 1 ∷ 3 ∷ 0 ∷ 0 ∷ 8 ∷ 0 ∷ []) ∷ (8 ∷ 0 ∷ []) ∷ (9 ∷ 1 ∷ 0 ∷ 0 ∷ []) ∷
    (27 ∷ 0 ∷ []) ∷ (16 ∷ 1 ∷ 0 ∷ 0 ∷ 42 ∷ []) ∷ (26 ∷ 0 ∷ 1 ∷ []) ∷ (33 ∷ 2 ∷ 1 ∷ 0 ∷ 0 ∷ []) ∷ (35 ∷ 0 ∷ []) ∷ (28 ∷ 0 ∷ []) ∷ (27 ∷ 0 ∷ []) ∷ (25 ∷ 1 ∷ 0 ∷ []) ∷ (34 ∷ 1 ∷ []) ∷
    (7 ∷ 1 ∷ 0 ∷ 2 ∷ 0 ∷ 1 ∷ 2 ∷ 0 ∷ []) ∷ (8 ∷ 0 ∷ []) ∷ (9 ∷ 1 ∷ 0 ∷ []) ∷ (25 ∷ 1 ∷ 0 ∷ []) ∷ (34 ∷ 1 ∷ []) ∷ []) 36555

-- an effect as numbers
shown : Effect → List ℕ
shown (assign a x) = 0 ∷ a ∷ x ∷ []
shown (fetch b a x w) = 1 ∷ b ∷ a ∷ x ∷ w ∷ []
shown (save b x w y) = 2 ∷ b ∷ x ∷ w ∷ y ∷ []
shown (take_places p j c n a) = 3 ∷ p ∷ j ∷ c ∷ n ∷ a ∷ []
shown (grant_page p r c a) = 4 ∷ p ∷ r ∷ c ∷ a ∷ []
shown (free_place p j) = 5 ∷ p ∷ j ∷ []
shown (go_to d) = 6 ∷ d ∷ []
shown (emit x) = 7 ∷ x ∷ []
shown (push g μ ρ) = 8 ∷ g ∷ μ 0 ∷ ρ 0 ∷ []
shown (pop c a x) = 9 ∷ c ∷ a ∷ x ∷ []
shown (finish x) = 10 ∷ x ∷ []
shown (stop n) = 11 ∷ n ∷ []
shown stuck = []

pub effects : List Step → List (List ℕ)
effects [] = []
effects (t ∷ ts) = shown t.effect ∷ effects ts

-- ---- accepted and opened

pub accepted : verdict_of example ≡ Accepted 2 0 2 10
unfolding example number little list_from first_from first all_below sum_below dec_both dec_either dec_imp dec_all dec_the map_dec dec_list dec_each as_int as_ptr as_arr as_raw dec_an_address dec_reg with_int with_ptr with_raw an_int a_ptr a_raw dec_untyped dec_constant dec_copy dec_operate dec_zero dec_signed dec_address dec_check dec_field dec_index dec_through dec_load dec_store dec_whole dec_new dec_free dec_input dec_output dec_jump dec_branch dec_call dec_return dec_new_bytes dec_load_byte dec_store_byte dec_check_bytes dec_typed region_bytes tree_of trees_of fields_of places code_places call_of arithmetic_of memory_of control_of by_group instruction_of code_of function_of region_type_of module_of start_of instruction_at check_sum block_test records record_start record_of group_of dec_placed dec_prims beside copies_of copies sub_layout flat_with fields_from fields_with layouts flat struct_flat dec_run dec_same operand_table classes_of operand_fits along quick_records quick_of four seven four_loose seven_loose term_fits name_fits head_ranges function_fits list_fits region_bytes_fit instruction_fits arguments_fit fits_in fits record_test_with verdict dec_region sub dec_tree dec_uses dec_primitive term_test struct_test function_test instruction_test instruction_stage last_test module_stages instructions module_rules to_code to_registers openedFunction done to_function to_name step next next_scan scan whole dec_counts dec_term dec_struct scope_of dec_function dec_entry dec_last ℕ_discrete dec_lt dec_le records_bytes file_of file
accepted = (agree (case example (Accepted 2 0 2 10) ∷ []) refl).0

accepted_example : IsAccepted (verdict_of example)
accepted_example = subst IsAccepted (sym accepted) tt

-- "no page is owned and all page bytes are zero": the state that opening leaves, without arguments
pub start : Bytes
start = first_state (module_of example) []

no_parameters : ((module_of example).function 0).params ≡ 0
unfolding example records_bytes file_of file bit with_bit number little splice list_from first_from first all_below dec_both dec_either dec_imp dec_not dec_all dec_any dec_the map_dec dec_list dec_each dec_region sub dec_tree dec_placed dec_prims beside copies_of copies sub_layout flat_with fields_from fields_with layouts flat dec_run position_at dec_same as_int as_ptr as_arr as_raw dec_an_address dec_reg with_int with_ptr with_raw an_int a_ptr a_raw dec_untyped dec_constant dec_copy dec_operate dec_zero dec_signed dec_address dec_check dec_field dec_index dec_through dec_load dec_store dec_whole dec_new dec_free dec_input dec_output dec_jump dec_branch dec_call dec_return dec_new_bytes dec_load_byte dec_store_byte dec_check_bytes dec_typed frame_function frame_instruction frame_register frame_map page_owner page_mark memory_byte view memory_number written words_of frame_of dec_local dec_live local_list live_list look type_of dec_stands dec_in_untyped dec_value operation_of flag value_if left_by right_by magnitude nearest_of signed_by nearest_by biased operated sign_extended need on_int on_ptr on_arr on_raw dec_is_call dec_stands_at_call on_call is_in lowest lowest_numbers dec_home has_room room_page unused_run unused_place has_place unowned_page allocate not_zero computed dec_held callee_map callee_registers returned exec effect_at effect_of closed_pages closing leaving put_marks state_writes output_writes apply_state apply_output run_of stuck_steps dec_counts dec_term dec_struct struct_flat dec_uses region_bytes tree_of trees_of fields_of places code_places call_of arithmetic_of memory_of control_of by_group instruction_of code_of function_of region_type_of module_of records record_start record_of group_of to_code to_registers openedFunction done to_function to_name step next next_scan scan whole outcome_of went_of first_register first_at object_in ℕ_discrete dec_lt dec_le
no_parameters = refl

pub opened_example : open_of example [] (replicate state_bytes 0) ≡ opened start
unfolding open_at start
opened_example =
    verdict_accepted not_opened (verdict_of example) _ accepted_example
    ∙ cond_eq _ (not_opened 9 0) {m = 0} {n = 4 * ((module_of example).function 0).params} (ap (λ (n : ℕ). 4 * n) (sym no_parameters))
    ∙ cond_eq (opened (first_state (module_of example) [])) (not_opened 20 0) (length-replicate {A = ℕ} state_bytes 0)

-- ---- the run

-- one call with an empty form, and an output of zeros
pub output : Bytes
output = replicate output_bytes 0

pub ran : Trace
ran = run_of (module_of example) [] 1000 start output

-- page 1 granted to region 0; 42; stored at 256; function 1 with region 0 and the pointer; loaded; returned into register 2; freed;
-- handed out again, 4 bytes; loaded; ended, with 0
pub ran_effects : effects ran.steps ≡ (4 ∷ 1 ∷ 0 ∷ 1 ∷ 0 ∷ []) ∷ (0 ∷ 1 ∷ 42 ∷ []) ∷ (2 ∷ 0 ∷ 256 ∷ 4 ∷ 42 ∷ []) ∷ (8 ∷ 1 ∷ 0 ∷ 256 ∷ []) ∷ (1 ∷ 0 ∷ 1 ∷ 256 ∷ 4 ∷ []) ∷ (9 ∷ 0 ∷ 2 ∷ 42 ∷ []) ∷ (5 ∷ 1 ∷ 0 ∷ []) ∷ (3 ∷ 1 ∷ 0 ∷ 1 ∷ 4 ∷ 0 ∷ []) ∷ (1 ∷ 0 ∷ 1 ∷ 256 ∷ 4 ∷ []) ∷ (10 ∷ 0 ∷ []) ∷ []
unfolding start output ran shown effects example records_bytes file_of file bit with_bit number little splice list_from first_from first all_below dec_both dec_either dec_imp dec_not dec_all dec_any dec_the map_dec dec_list dec_each dec_region sub dec_tree dec_placed dec_prims beside copies_of copies sub_layout flat_with fields_from fields_with layouts flat dec_run position_at dec_same as_int as_ptr as_arr as_raw dec_an_address dec_reg with_int with_ptr with_raw an_int a_ptr a_raw dec_untyped dec_constant dec_copy dec_operate dec_zero dec_signed dec_address dec_check dec_field dec_index dec_through dec_load dec_store dec_whole dec_new dec_free dec_input dec_output dec_jump dec_branch dec_call dec_return dec_new_bytes dec_load_byte dec_store_byte dec_check_bytes dec_typed frame_function frame_instruction frame_register frame_map page_owner page_mark memory_byte view memory_number written words_of frame_of dec_local dec_live local_list live_list look type_of dec_stands dec_in_untyped dec_value operation_of flag value_if left_by right_by magnitude nearest_of signed_by nearest_by biased operated sign_extended need on_int on_ptr on_arr on_raw dec_is_call dec_stands_at_call on_call is_in lowest lowest_numbers dec_home has_room room_page unused_run unused_place has_place unowned_page allocate not_zero computed dec_held callee_map callee_registers returned exec effect_at effect_of closed_pages closing leaving put_marks state_writes output_writes apply_state apply_output run_of stuck_steps dec_counts dec_term dec_struct struct_flat dec_uses region_bytes tree_of trees_of fields_of places code_places call_of arithmetic_of memory_of control_of by_group instruction_of code_of function_of region_type_of module_of records record_start record_of group_of to_code to_registers openedFunction done to_function to_name step next next_scan scan whole outcome_of went_of first_register first_at object_in ℕ_discrete dec_lt dec_le
ran_effects = refl

ran_outcome : outcome_of (view ran.state) ≡ ended 0
unfolding start output ran example records_bytes file_of file bit with_bit number little splice list_from first_from first all_below dec_both dec_either dec_imp dec_not dec_all dec_any dec_the map_dec dec_list dec_each dec_region sub dec_tree dec_placed dec_prims beside copies_of copies sub_layout flat_with fields_from fields_with layouts flat dec_run position_at dec_same as_int as_ptr as_arr as_raw dec_an_address dec_reg with_int with_ptr with_raw an_int a_ptr a_raw dec_untyped dec_constant dec_copy dec_operate dec_zero dec_signed dec_address dec_check dec_field dec_index dec_through dec_load dec_store dec_whole dec_new dec_free dec_input dec_output dec_jump dec_branch dec_call dec_return dec_new_bytes dec_load_byte dec_store_byte dec_check_bytes dec_typed frame_function frame_instruction frame_register frame_map page_owner page_mark memory_byte view memory_number written words_of frame_of dec_local dec_live local_list live_list look type_of dec_stands dec_in_untyped dec_value operation_of flag value_if left_by right_by magnitude nearest_of signed_by nearest_by biased operated sign_extended need on_int on_ptr on_arr on_raw dec_is_call dec_stands_at_call on_call is_in lowest lowest_numbers dec_home has_room room_page unused_run unused_place has_place unowned_page allocate not_zero computed dec_held callee_map callee_registers returned exec effect_at effect_of closed_pages closing leaving put_marks state_writes output_writes apply_state apply_output run_of stuck_steps dec_counts dec_term dec_struct struct_flat dec_uses region_bytes tree_of trees_of fields_of places code_places call_of arithmetic_of memory_of control_of by_group instruction_of code_of function_of region_type_of module_of records record_start record_of group_of to_code to_registers openedFunction done to_function to_name step next next_scan scan whole outcome_of went_of first_register first_at object_in ℕ_discrete dec_lt dec_le
ran_outcome = refl

ran_steps : length ran.steps ≡ 10
unfolding start output ran example records_bytes file_of file bit with_bit number little splice list_from first_from first all_below dec_both dec_either dec_imp dec_not dec_all dec_any dec_the map_dec dec_list dec_each dec_region sub dec_tree dec_placed dec_prims beside copies_of copies sub_layout flat_with fields_from fields_with layouts flat dec_run position_at dec_same as_int as_ptr as_arr as_raw dec_an_address dec_reg with_int with_ptr with_raw an_int a_ptr a_raw dec_untyped dec_constant dec_copy dec_operate dec_zero dec_signed dec_address dec_check dec_field dec_index dec_through dec_load dec_store dec_whole dec_new dec_free dec_input dec_output dec_jump dec_branch dec_call dec_return dec_new_bytes dec_load_byte dec_store_byte dec_check_bytes dec_typed frame_function frame_instruction frame_register frame_map page_owner page_mark memory_byte view memory_number written words_of frame_of dec_local dec_live local_list live_list look type_of dec_stands dec_in_untyped dec_value operation_of flag value_if left_by right_by magnitude nearest_of signed_by nearest_by biased operated sign_extended need on_int on_ptr on_arr on_raw dec_is_call dec_stands_at_call on_call is_in lowest lowest_numbers dec_home has_room room_page unused_run unused_place has_place unowned_page allocate not_zero computed dec_held callee_map callee_registers returned exec effect_at effect_of closed_pages closing leaving put_marks state_writes output_writes apply_state apply_output run_of stuck_steps dec_counts dec_term dec_struct struct_flat dec_uses region_bytes tree_of trees_of fields_of places code_places call_of arithmetic_of memory_of control_of by_group instruction_of code_of function_of region_type_of module_of records record_start record_of group_of to_code to_registers openedFunction done to_function to_name step next next_scan scan whole outcome_of went_of first_register first_at object_in ℕ_discrete dec_lt dec_le
ran_steps = refl

-- one page granted and one handed back
pub ran_pages : (granted ran.steps ≡ 1) × (handed_back (module_of example) ran.steps ≡ 1)
unfolding start output ran granted handed_back example records_bytes file_of file bit with_bit number little splice list_from first_from first all_below dec_both dec_either dec_imp dec_not dec_all dec_any dec_the map_dec dec_list dec_each dec_region sub dec_tree dec_placed dec_prims beside copies_of copies sub_layout flat_with fields_from fields_with layouts flat dec_run position_at dec_same as_int as_ptr as_arr as_raw dec_an_address dec_reg with_int with_ptr with_raw an_int a_ptr a_raw dec_untyped dec_constant dec_copy dec_operate dec_zero dec_signed dec_address dec_check dec_field dec_index dec_through dec_load dec_store dec_whole dec_new dec_free dec_input dec_output dec_jump dec_branch dec_call dec_return dec_new_bytes dec_load_byte dec_store_byte dec_check_bytes dec_typed frame_function frame_instruction frame_register frame_map page_owner page_mark memory_byte view memory_number written words_of frame_of dec_local dec_live local_list live_list look type_of dec_stands dec_in_untyped dec_value operation_of flag value_if left_by right_by magnitude nearest_of signed_by nearest_by biased operated sign_extended need on_int on_ptr on_arr on_raw dec_is_call dec_stands_at_call on_call is_in lowest lowest_numbers dec_home has_room room_page unused_run unused_place has_place unowned_page allocate not_zero computed dec_held callee_map callee_registers returned exec effect_at effect_of closed_pages closing leaving put_marks state_writes output_writes apply_state apply_output run_of stuck_steps dec_counts dec_term dec_struct struct_flat dec_uses region_bytes tree_of trees_of fields_of places code_places call_of arithmetic_of memory_of control_of by_group instruction_of code_of function_of region_type_of module_of records record_start record_of group_of to_code to_registers openedFunction done to_function to_name step next next_scan scan whole outcome_of went_of first_register first_at object_in ℕ_discrete dec_lt dec_le
ran_pages = (refl, refl)

-- its loads and its store touch no byte outside the value
pub ran_stray : stray_bytes (module_of example) ran.steps ≡ 0
unfolding start output ran dec_in_primitives dec_names dec_in_typed dec_names_bytes dec_in_raw dec_in_value stray_from stray_bytes example records_bytes file_of file bit with_bit number little splice list_from first_from first all_below dec_both dec_either dec_imp dec_not dec_all dec_any dec_the map_dec dec_list dec_each dec_region sub dec_tree dec_placed dec_prims beside copies_of copies sub_layout flat_with fields_from fields_with layouts flat dec_run position_at dec_same as_int as_ptr as_arr as_raw dec_an_address dec_reg with_int with_ptr with_raw an_int a_ptr a_raw dec_untyped dec_constant dec_copy dec_operate dec_zero dec_signed dec_address dec_check dec_field dec_index dec_through dec_load dec_store dec_whole dec_new dec_free dec_input dec_output dec_jump dec_branch dec_call dec_return dec_new_bytes dec_load_byte dec_store_byte dec_check_bytes dec_typed frame_function frame_instruction frame_register frame_map page_owner page_mark memory_byte view memory_number written words_of frame_of dec_local dec_live local_list live_list look type_of dec_stands dec_in_untyped dec_value operation_of flag value_if left_by right_by magnitude nearest_of signed_by nearest_by biased operated sign_extended need on_int on_ptr on_arr on_raw dec_is_call dec_stands_at_call on_call is_in lowest lowest_numbers dec_home has_room room_page unused_run unused_place has_place unowned_page allocate not_zero computed dec_held callee_map callee_registers returned exec effect_at effect_of closed_pages closing leaving put_marks state_writes output_writes apply_state apply_output run_of stuck_steps dec_counts dec_term dec_struct struct_flat dec_uses region_bytes tree_of trees_of fields_of places code_places call_of arithmetic_of memory_of control_of by_group instruction_of code_of function_of region_type_of module_of records record_start record_of group_of to_code to_registers openedFunction done to_function to_name step next next_scan scan whole outcome_of went_of first_register first_at object_in ℕ_discrete dec_lt dec_le
ran_stray = refl

-- ---- going on, and the claim

no_bytes_law : AllBytes []
no_bytes_law i = omega arith

-- going on answers "ended 0" after 10 steps: the 42 is gone
pub example_goes : go_of example [] start output 1000 ≡ went (ended 0) 10 ran.state ran.output
unfolding ran output
example_goes =
    let s = opened_steady all_pages (omega arith) (omega arith) example [] (replicate state_bytes 0) start accepted_example no_bytes_law opened_example in
    go_went all_pages example [] start output 1000 accepted_example no_bytes_law (omega arith) s.0.bytes s.0.passes s.2 s.1 (length-replicate {A = ℕ} output_bytes 0)
    ∙ ap₂ (λ (a : Outcome) (n : ℕ). went a n ran.state ran.output) ran_outcome ran_steps

-- demand 3 for every list of calls of it, from its opening
pub example_sound : (calls : List Call) → Lent all_pages example calls start → Claim all_pages example calls start
example_sound calls l = demand_3 example accepted_example calls start (from_opening [] (replicate state_bytes 0) no_bytes_law opened_example) l

-- and of the list of this one call
pub one_call : Call
one_call = record { file = example; form = []; output = output; budget = 1000; form_bytes = no_bytes_law }

pub example_claim : Claim all_pages example (one_call ∷ []) start
unfolding one_call
example_claim = example_sound (one_call ∷ []) (inl refl, tt)
