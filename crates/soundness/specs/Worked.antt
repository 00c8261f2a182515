-- Document 01's worked file through verdict, opening and going on: `accepted 1 0 1 2`, `ended 42 2`. Going on whole has the state test of
-- 24,576 bytes in it, which is too long to compute: that the opened state passes is the theorem, the rest is computed. Assumes nothing.
use Rattle.std.specs.Prelude.{◌≡◌, refl, [], ℕ, length, replicate}
use Rattle.std.proofs.Common.{ap₂, ◌∙◌, subst, arith}
use Rattle.std.proofs.lemmas.List.{length-replicate}
use Rattle.words.specs.Bytes.{Bytes, AllBytes}
use Rattle.rules.specs.Limits.{output_bytes, state_bytes}
use Rattle.rules.specs.Run.{Trace}
use Rattle.rules.specs.Host.{Outcome, ended, went, go_of}
use Rattle.rules.specs.CasesFile as CasesFile
use Rattle.rules.specs.CasesMachine as cases
use Rattle.rules.specs.Verdict.{verdict_of, IsAccepted}
use Rattle.rules.specs.CasesMachine.{worked_file}
use Rattle.typing.specs.Verdicts.{some_accepted}
use Rattle.soundness.specs.ForCode.{opened_steady, go_went}
use Rattle.words.specs.Bits.{bit, with_bit}
use Rattle.words.specs.Bytes.{number, little, splice, list_from}
use Rattle.words.specs.First.{first_from, first, all_below}
use Rattle.words.specs.Decide.{dec_both, dec_either, dec_imp, dec_not, dec_all, dec_any, dec_the, map_dec, dec_list, dec_each}
use Rattle.rules.specs.Types.{dec_region, sub, dec_tree, dec_uses}
use Rattle.rules.specs.Flat.{dec_placed, dec_prims, beside, copies_of, copies, sub_layout, flat_with, fields_from, fields_with, layouts, flat, dec_run, position_at, dec_same, struct_flat}
use Rattle.rules.specs.Decision.{as_int, as_ptr, as_arr, as_raw, dec_an_address, dec_reg, with_int, with_ptr, with_raw, an_int, a_ptr, a_raw, dec_untyped, dec_constant, dec_copy, dec_operate, dec_zero, dec_signed, dec_address, dec_check, dec_field, dec_index, dec_through, dec_load, dec_store, dec_whole, dec_new, dec_free, dec_input, dec_output, dec_jump, dec_branch, dec_call, dec_return, dec_new_bytes, dec_load_byte, dec_store_byte, dec_check_bytes, dec_typed}
use Rattle.rules.specs.State.{frame_function, frame_instruction, frame_register, frame_map, page_owner, page_mark, memory_byte, view, memory_number, written, put_marks, words_of, frame_of, all_pages}
use Rattle.rules.specs.Heap.{dec_local, dec_live, local_list, live_list, look, type_of, dec_stands, dec_in_untyped, dec_value}
use Rattle.rules.specs.Arithmetic.{operation_of, flag, value_if, left_by, right_by, magnitude, nearest_of, signed_by, nearest_by, biased, operated, sign_extended}
use Rattle.rules.specs.Step.{need, on_int, on_ptr, on_arr, on_raw, dec_is_call, dec_stands_at_call, on_call, is_in, lowest, lowest_numbers, dec_home, has_room, room_page, unused_run, unused_place, has_place, unowned_page, allocate, not_zero, computed, dec_held, callee_map, callee_registers, returned, exec, effect_at, effect_of, closed_pages}
use Rattle.rules.specs.Writes.{closing, leaving, state_writes, output_writes, apply_state, apply_output}
use Rattle.rules.specs.Run.{run_of, stuck_steps}
use Rattle.rules.specs.WellTyped.{dec_counts, dec_term, dec_struct}
use Rattle.rules.specs.Decode.{region_bytes, tree_of, trees_of, fields_of, places, code_places, call_of, arithmetic_of, memory_of, control_of, by_group, instruction_of, code_of, function_of, region_type_of, module_of}
use Rattle.rules.specs.File.{records, record_start, record_of, group_of}
use Rattle.rules.specs.Walk.{to_code, to_registers, opened as openedFunction, done, to_function, to_name, step, next, next_scan, scan, whole}
use Rattle.rules.specs.Host.{outcome_of, went_of, first_register, first_state, object_in, first_at}
use Rattle.std.proofs.Math.Decide.{ℕ_discrete, dec_lt, dec_le}

-- the file's 512 bytes, and the file by its records
pub same_file : CasesFile.worked ≡ worked_file
unfolding little CasesFile.worked CasesFile.worked_records CasesFile.file CasesFile.file_of CasesFile.records_bytes
same_file = refl

pub accepted_worked : IsAccepted (verdict_of worked_file)
accepted_worked = subst (λ (f : Bytes). IsAccepted (verdict_of f)) same_file some_accepted

pub no_bytes_law : AllBytes []
no_bytes_law i = omega arith

-- its run, with an empty form and an output of zeros, for a million steps at most
pub worked_ran : Trace
worked_ran = run_of (module_of worked_file) [] 1000000 (first_state (module_of worked_file) []) (replicate output_bytes 0)

pub worked_outcome : outcome_of (view worked_ran.state) ≡ ended 42
unfolding worked_ran bit with_bit number little splice list_from first_from first all_below dec_both dec_either dec_imp dec_not dec_all dec_any dec_the map_dec dec_list dec_each dec_region sub dec_tree dec_placed dec_prims beside copies_of copies sub_layout flat_with fields_from fields_with layouts flat dec_run position_at dec_same as_int as_ptr as_arr as_raw dec_an_address dec_reg with_int with_ptr with_raw an_int a_ptr a_raw dec_untyped dec_constant dec_copy dec_operate dec_zero dec_signed dec_address dec_check dec_field dec_index dec_through dec_load dec_store dec_whole dec_new dec_free dec_input dec_output dec_jump dec_branch dec_call dec_return dec_new_bytes dec_load_byte dec_store_byte dec_check_bytes dec_typed frame_function frame_instruction frame_register frame_map page_owner page_mark memory_byte view memory_number written words_of frame_of dec_local dec_live local_list live_list look type_of dec_stands dec_in_untyped dec_value operation_of flag value_if left_by right_by magnitude nearest_of signed_by nearest_by biased operated sign_extended need on_int on_ptr on_arr on_raw dec_is_call dec_stands_at_call on_call is_in lowest lowest_numbers dec_home has_room room_page unused_run unused_place has_place unowned_page allocate not_zero computed dec_held callee_map callee_registers returned exec effect_at effect_of closed_pages closing leaving put_marks state_writes output_writes apply_state apply_output run_of stuck_steps dec_counts dec_term dec_struct struct_flat dec_uses region_bytes tree_of trees_of fields_of places code_places call_of arithmetic_of memory_of control_of by_group instruction_of code_of function_of region_type_of module_of records record_start record_of group_of to_code to_registers openedFunction done to_function to_name step next next_scan scan whole outcome_of went_of first_register first_at object_in ℕ_discrete dec_lt dec_le
worked_outcome = refl

worked_steps : length worked_ran.steps ≡ 2
unfolding worked_ran bit with_bit number little splice list_from first_from first all_below dec_both dec_either dec_imp dec_not dec_all dec_any dec_the map_dec dec_list dec_each dec_region sub dec_tree dec_placed dec_prims beside copies_of copies sub_layout flat_with fields_from fields_with layouts flat dec_run position_at dec_same as_int as_ptr as_arr as_raw dec_an_address dec_reg with_int with_ptr with_raw an_int a_ptr a_raw dec_untyped dec_constant dec_copy dec_operate dec_zero dec_signed dec_address dec_check dec_field dec_index dec_through dec_load dec_store dec_whole dec_new dec_free dec_input dec_output dec_jump dec_branch dec_call dec_return dec_new_bytes dec_load_byte dec_store_byte dec_check_bytes dec_typed frame_function frame_instruction frame_register frame_map page_owner page_mark memory_byte view memory_number written words_of frame_of dec_local dec_live local_list live_list look type_of dec_stands dec_in_untyped dec_value operation_of flag value_if left_by right_by magnitude nearest_of signed_by nearest_by biased operated sign_extended need on_int on_ptr on_arr on_raw dec_is_call dec_stands_at_call on_call is_in lowest lowest_numbers dec_home has_room room_page unused_run unused_place has_place unowned_page allocate not_zero computed dec_held callee_map callee_registers returned exec effect_at effect_of closed_pages closing leaving put_marks state_writes output_writes apply_state apply_output run_of stuck_steps dec_counts dec_term dec_struct struct_flat dec_uses region_bytes tree_of trees_of fields_of places code_places call_of arithmetic_of memory_of control_of by_group instruction_of code_of function_of region_type_of module_of records record_start record_of group_of to_code to_registers openedFunction done to_function to_name step next next_scan scan whole outcome_of went_of first_register first_at object_in ℕ_discrete dec_lt dec_le
worked_steps = refl

-- "ended 42 2"
pub worked_goes : go_of worked_file [] (first_state (module_of worked_file) []) (replicate output_bytes 0) 1000000
    ≡ went (ended 42) 2 worked_ran.state worked_ran.output
unfolding worked_ran
worked_goes =
    let s = opened_steady all_pages (omega arith) (omega arith) worked_file [] (replicate state_bytes 7) (first_state (module_of worked_file) []) accepted_worked no_bytes_law (cases.worked).opens in
    go_went all_pages worked_file [] (first_state (module_of worked_file) []) (replicate output_bytes 0) 1000000 accepted_worked no_bytes_law (omega arith) s.0.bytes s.0.passes s.2 s.1 (length-replicate {A = ℕ} output_bytes 0)
    ∙ ap₂ (λ (a : Outcome) (n : ℕ). went a n worked_ran.state worked_ran.output) worked_outcome worked_steps
