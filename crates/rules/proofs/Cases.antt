-- The table of specs/Cases: C1 to C9 by computation, C3 from the table of files. Assumes nothing.
use Rattle.std.specs.Prelude.{◌≡◌, refl}
use Rattle.std.proofs.Math.Decide.{ℕ_discrete, dec_lt, dec_le}
use Rattle.words.specs.Bits.{bit, with_bit}
use Rattle.words.specs.Bytes.{number, little, splice, list_from}
use Rattle.words.specs.First.{first_from, first, all_below}
use Rattle.words.specs.Decide.{dec_both, dec_either, dec_imp, dec_not, dec_all, dec_any, dec_the, map_dec, dec_list, dec_each}
use Rattle.rules.specs.Types.{dec_region, sub, dec_tree}
use Rattle.rules.specs.Flat.{dec_placed, dec_prims, beside, copies_of, copies, sub_layout, flat_with, fields_from, fields_with, layouts, flat, dec_run, position_at, dec_same}
use Rattle.rules.specs.Decision.{as_int, as_ptr, as_arr, as_raw, dec_an_address, dec_reg, with_int, with_ptr, with_raw, an_int, a_ptr, a_raw, dec_untyped, dec_constant, dec_copy, dec_operate, dec_zero, dec_signed, dec_address, dec_check, dec_field, dec_index, dec_through, dec_load, dec_store, dec_whole, dec_new, dec_free, dec_input, dec_output, dec_jump, dec_branch, dec_call, dec_return, dec_new_bytes, dec_load_byte, dec_store_byte, dec_check_bytes, dec_typed}
use Rattle.rules.specs.Verdict.{verdict_of}
use Rattle.rules.specs.State.{frame_function, frame_instruction, frame_register, frame_map, page_owner, page_mark, memory_byte, view, memory_number, written, put_marks, words_of, frame_of}
use Rattle.rules.specs.Heap.{dec_local, dec_live, local_list, live_list, look, type_of, dec_stands, dec_in_untyped, dec_value}
use Rattle.rules.specs.Arithmetic.{operation_of, flag, value_if, left_by, right_by, magnitude, nearest_of, signed_by, nearest_by, biased, operated, sign_extended}
use Rattle.rules.specs.Step.{need, on_int, on_ptr, on_arr, on_raw, dec_is_call, dec_stands_at_call, on_call, is_in, lowest, lowest_numbers, dec_home, has_room, room_page, unused_run, unused_place, has_place, unowned_page, allocate, not_zero, computed, dec_held, callee_map, callee_registers, returned, exec, effect_at, effect_of, closed_pages}
use Rattle.rules.specs.Writes.{closing, leaving, state_writes, output_writes, apply_state, apply_output}
use Rattle.rules.specs.Run.{run_of, stuck_steps}
use Rattle.rules.specs.Host.{outcome_of, went_of, first_register, first_at}
use Rattle.rules.specs.CaseStates.{in_main}
use Rattle.rules.specs.CasesFile.{largest_term, byte_more, agrees}
use Rattle.rules.specs.Cases.{trace_from, left, states, goes, BudgetZero, Table}
use Rattle.rules.specs.Refusals.{Accepted, Refused}

-- of the table of files, C3's two
pub largest_accepted : verdict_of largest_term ≡ Accepted 4 0 1 1
largest_accepted = agrees.1.1.0

pub more_refused : verdict_of byte_more ≡ Refused 5 4
more_refused = agrees.1.1.1.0

-- C1 to C9 by computation
pub table_with : BudgetZero → Table
unfolding bit with_bit number little splice list_from first_from first all_below dec_both dec_either dec_imp dec_not dec_all dec_any dec_the map_dec dec_list dec_each dec_region sub dec_tree dec_placed dec_prims beside copies_of copies sub_layout flat_with fields_from fields_with layouts flat dec_run position_at dec_same as_int as_ptr as_arr as_raw dec_an_address dec_reg with_int with_ptr with_raw an_int a_ptr a_raw dec_untyped dec_constant dec_copy dec_operate dec_zero dec_signed dec_address dec_check dec_field dec_index dec_through dec_load dec_store dec_whole dec_new dec_free dec_input dec_output dec_jump dec_branch dec_call dec_return dec_new_bytes dec_load_byte dec_store_byte dec_check_bytes dec_typed frame_function frame_instruction frame_register frame_map page_owner page_mark memory_byte view memory_number written words_of frame_of dec_local dec_live local_list live_list look type_of dec_stands dec_in_untyped dec_value operation_of flag value_if left_by right_by magnitude nearest_of signed_by nearest_by biased operated sign_extended need on_int on_ptr on_arr on_raw dec_is_call dec_stands_at_call on_call is_in lowest lowest_numbers dec_home has_room room_page unused_run unused_place has_place unowned_page allocate not_zero computed dec_held callee_map callee_registers returned exec effect_at effect_of closed_pages closing leaving put_marks state_writes output_writes apply_state apply_output run_of stuck_steps outcome_of went_of first_register first_at trace_from left goes in_main states ℕ_discrete dec_lt dec_le
table_with budget_zero = record {
  c1 = (refl, refl);
  c2 = refl;
  c3 = (largest_accepted, more_refused);
  c4 = refl;
  c5 = (refl, refl);
  c6 = (refl, (refl, refl));
  c7 = refl;
  c8 = refl;
  c9 = refl;
  c10 = budget_zero;
}
