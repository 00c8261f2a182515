-- Document 02, P3, by computation: values of untyped pointers and of pointers that do not fit their region, kinds 21 to 28 and 36 to 39 on them,
-- which bytes stray, the state test and the reader in untyped pages. Assumes nothing.
use Rattle.std.specs.Prelude.{◌≡◌, refl, Bool, true, false, List, [], ◌∷◌, ℕ, replicate}
use Rattle.std.proofs.Math.Decide.{ℕ_discrete, dec_lt, dec_le}
use Rattle.words.specs.First.{all_below, first_from, first}
use Rattle.rules.specs.State.{all_pages, memory_number, page_place}
use Rattle.rules.specs.Types.{variable, region, int, ptr, raw_ptr, bytes, dec_region, sub, dec_tree, dec_uses, dec_primitive}
use Rattle.rules.specs.Module.{Module, Instruction, copy, address, check, field, index, load, store, new, free, new_bytes, load_byte, store_byte, check_bytes}
use Rattle.rules.specs.Arithmetic.{operation_of, flag, value_if, left_by, right_by, magnitude, nearest_of, signed_by, nearest_by, biased, operated, sign_extended}
use Rattle.rules.specs.Step.{assign, fetch, save, take_places, grant_page, stop, need, on_int, on_ptr, on_arr, on_raw, on_call, is_in, lowest, lowest_numbers, dec_home, has_room, room_page, unused_run, unused_place, has_place, unowned_page, allocate, not_zero, computed, dec_held, callee_map, callee_registers, returned, exec, effect_at, effect_of, dec_is_call, dec_stands_at_call}
use Rattle.rules.specs.Run.{is_stuck}
use Rattle.rules.specs.CaseStates.{module_with, function_with, state_of, blobs, blob_frame, blob_state, in_blobs}
use Rattle.words.specs.Decide.{dec_the, does, dec_both, dec_either, dec_imp, dec_not, dec_all, dec_any, map_dec, dec_list, dec_each}
use Rattle.rules.specs.Flat.{size, dec_same, dec_placed, dec_prims, beside, copies_of, copies, sub_layout, flat_with, fields_from, fields_with, layouts, flat, dec_run, position_at}
use Rattle.rules.specs.Decision.{as_int, as_ptr, as_arr, as_raw, dec_an_address, dec_reg, with_int, with_ptr, with_raw, an_int, a_ptr, a_raw, dec_untyped, dec_constant, dec_copy, dec_operate, dec_zero, dec_signed, dec_address, dec_check, dec_field, dec_index, dec_through, dec_load, dec_store, dec_whole, dec_new, dec_free, dec_input, dec_output, dec_jump, dec_branch, dec_call, dec_return, dec_new_bytes, dec_load_byte, dec_store_byte, dec_check_bytes, dec_typed}
use Rattle.rules.specs.Heap.{local_list, live_list, dec_local, dec_live, look, type_of, dec_stands, dec_in_untyped, dec_value}
use Rattle.rules.specs.StateTest.{dec_listed, dec_status, dec_chained, dec_frames, dec_page, dec_contents, dec_marks_end, dec_spare}
use Rattle.rules.specs.SafeStep.{dec_in_primitives, dec_names, dec_names_bytes, dec_in_typed, dec_in_raw, dec_in_value, stray_from, stray_by}
use Rattle.rules.specs.Decode.{tree_of, region_type_of}
use Rattle.rules.specs.Host.{empty_part, object_in}
use Rattle.rules.specs.CasesTest.{filled}

-- the state test of what the frame and the pages hold, by the registers, the marks and the bytes of page 1
unfoldable pub untyped_passes : (registers marks memory : List ℕ) → Bool
untyped_passes registers marks memory = does (dec_contents (blobs []) (filled all_pages (blob_frame registers ∷ []) (0 ∷ 4 ∷ []) ([] ∷ marks ∷ []) memory) 1)

-- that of the spare bytes, by the marks of page 1
unfoldable pub untyped_spare : (marks : List ℕ) → Bool
untyped_spare marks = does (dec_spare (blobs []) (filled all_pages (blob_frame [] ∷ []) (0 ∷ 4 ∷ []) ([] ∷ marks ∷ []) []) 1)

-- Two local regions, the first untyped, the second of untyped pointers to 4 bytes in the first. Register 0 points to one of these, 1 is one.
abbrev pub linked : List Instruction → Module
linked code = module_with []
    (function_with 0 2 (bytes ∷ raw_ptr 4 (region 0) ∷ []) 0 (ptr (raw_ptr 4 (region 0)) (region 1) ∷ raw_ptr 4 (region 0) ∷ []) code ∷ [])

-- the state test, by the bytes of page 1, which is the second region's; page 2 is the first's
unfoldable pub linked_passes : List ℕ → Bool
linked_passes memory = does (dec_contents (linked []) (filled all_pages (blob_frame [] ∷ []) (0 ∷ 2 ∷ 4 ∷ []) [] memory) 1)

pub record UntypedKinds : Type 0 where
  -- "these and zero are its values": bytes inside one page of that region, used or not
  pub value : is_stuck (in_blobs (copy 0 0) (508 ∷ [])) ≡ 0
  pub value_first : is_stuck (in_blobs (copy 0 0) (256 ∷ [])) ≡ 0
  pub value_zero : is_stuck (in_blobs (copy 0 0) []) ≡ 0
  pub value_two_pages : is_stuck (in_blobs (copy 0 0) (509 ∷ [])) ≡ 1
  pub value_unowned : is_stuck (in_blobs (copy 0 0) (768 ∷ [])) ≡ 1
  pub value_page_0 : is_stuck (in_blobs (copy 0 0) (5 ∷ [])) ≡ 1
  pub value_far : is_stuck (in_blobs (copy 0 0) (16640 ∷ [])) ≡ 1
  pub value_past_pages : is_stuck (effect_of (blobs (copy 0 0 ∷ [])) [] (state_of (blob_frame (16384 ∷ []) ∷ []) (replicate 65 4))) ≡ 1
  pub value_other_region : is_stuck (in_blobs (copy 0 0) (512 ∷ [])) ≡ 1
  -- "A typed pointer into an untyped region, or the reverse, has only zero as a value, and kinds 27, 28 .. refuse it"
  pub misfit_zero : is_stuck (in_blobs (copy 4 4) []) ≡ 0
  pub misfit : is_stuck (in_blobs (copy 4 4) (0 ∷ 0 ∷ 0 ∷ 0 ∷ 256 ∷ [])) ≡ 1
  pub misfit_untyped_zero : is_stuck (in_blobs (copy 5 5) []) ≡ 0
  pub misfit_untyped : is_stuck (in_blobs (copy 5 5) (0 ∷ 0 ∷ 0 ∷ 0 ∷ 0 ∷ 512 ∷ [])) ≡ 1
  pub misfit_new : is_stuck (in_blobs (new 4) []) ≡ 1
  pub misfit_free : is_stuck (in_blobs (free 4) []) ≡ 1
  -- of the others, a check into a typed pointer of the untyped region fails, a load through it is one through zero
  pub misfit_check : in_blobs (check 4 2) (0 ∷ 0 ∷ 256 ∷ []) ≡ stop 32
  pub misfit_load : in_blobs (load 3 4) [] ≡ stop 31
  -- 27 and 28 take no untyped pointer
  pub new_untyped : is_stuck (in_blobs (new 0) []) ≡ 1
  pub free_untyped : is_stuck (in_blobs (free 0) (256 ∷ [])) ≡ 1
  -- "Kind 21 takes untyped pointers as well; kind 22 neither takes nor gives one (7)"; 25 and 26 neither
  pub addresses : in_blobs (address 2 0) (300 ∷ []) ≡ assign 2 300
  pub addresses_misfit : in_blobs (address 2 5) [] ≡ assign 2 0
  pub check_takes : is_stuck (in_blobs (check 6 0) (300 ∷ [])) ≡ 1
  pub check_gives : is_stuck (in_blobs (check 0 2) (0 ∷ 0 ∷ 300 ∷ [])) ≡ 1
  pub load_through : is_stuck (in_blobs (load 3 0) (300 ∷ [])) ≡ 1
  pub store_through : is_stuck (in_blobs (store 0 3) (300 ∷ [])) ≡ 1
  -- 7 for these too: no field or element of an untyped pointer, and none that is one
  pub rule_new : does (dec_typed (blobs []) ((blobs []).function 0) (new 0)) ≡ false
  pub rule_free : does (dec_typed (blobs []) ((blobs []).function 0) (free 0)) ≡ false
  pub rule_check_gives : does (dec_typed (blobs []) ((blobs []).function 0) (check 0 2)) ≡ false
  pub rule_field_of : does (dec_typed (blobs []) ((blobs []).function 0) (field 4 0 0)) ≡ false
  pub rule_field_gives : does (dec_typed (blobs []) ((blobs []).function 0) (field 0 4 0)) ≡ false
  pub rule_index_of : does (dec_typed (blobs []) ((blobs []).function 0) (index 4 0 2)) ≡ false
  pub rule_address : does (dec_typed (blobs []) ((blobs []).function 0) (address 2 0)) ≡ true
  -- pointers to 4 and to 3 bytes are of two types
  pub copy_shorter : is_stuck (in_blobs (copy 1 0) (300 ∷ [])) ≡ 1
  -- 36: "a new object, all zeros, into register a: its type's d bytes at the lowest free run in the region's lowest page with one, else in a new
  -- page"
  pub makes : in_blobs (new_bytes 0) [] ≡ take_places 1 0 4 1 0
  pub makes_shorter : in_blobs (new_bytes 1) [] ≡ take_places 1 0 3 1 1
  pub makes_in_a_new_page : effect_of (blobs (new_bytes 0 ∷ [])) [] (state_of (blob_frame [] ∷ []) (0 ∷ 2 ∷ [])) ≡ grant_page 2 3 4 0
  -- 37, 38: "Zero stops with 31, then an offset beyond the last byte with 33"
  pub loads : in_blobs (load_byte 3 0 2) (300 ∷ 0 ∷ 3 ∷ []) ≡ fetch 0 3 303 1
  pub loads_past : in_blobs (load_byte 3 0 2) (300 ∷ 0 ∷ 4 ∷ []) ≡ stop 33
  pub loads_far : in_blobs (load_byte 3 0 2) (300 ∷ 0 ∷ 4294967295 ∷ []) ≡ stop 33
  pub loads_zero : in_blobs (load_byte 3 0 2) (0 ∷ 0 ∷ 4 ∷ []) ≡ stop 31
  pub stores : in_blobs (store_byte 1 3 2) (0 ∷ 300 ∷ 2 ∷ 7 ∷ []) ≡ save 1 302 1 7
  pub stores_past : in_blobs (store_byte 1 3 2) (0 ∷ 300 ∷ 3 ∷ 7 ∷ []) ≡ stop 33
  pub stores_zero : in_blobs (store_byte 1 3 2) (0 ∷ 0 ∷ 3 ∷ 7 ∷ []) ≡ stop 31
  -- 39: "its bytes inside one page of that region, used or not .., else 32, and zero fails too"; from an i32, an untyped and a typed pointer
  pub checks : in_blobs (check_bytes 0 2) (0 ∷ 0 ∷ 508 ∷ []) ≡ assign 0 508
  pub checks_first : in_blobs (check_bytes 0 2) (0 ∷ 0 ∷ 256 ∷ []) ≡ assign 0 256
  pub check_two_pages : in_blobs (check_bytes 0 2) (0 ∷ 0 ∷ 509 ∷ []) ≡ stop 32
  pub check_typed_page : in_blobs (check_bytes 0 2) (0 ∷ 0 ∷ 512 ∷ []) ≡ stop 32
  pub check_unowned : in_blobs (check_bytes 0 2) (0 ∷ 0 ∷ 768 ∷ []) ≡ stop 32
  pub check_far : in_blobs (check_bytes 0 2) (0 ∷ 0 ∷ 16640 ∷ []) ≡ stop 32
  pub check_zero : in_blobs (check_bytes 0 2) (0 ∷ 0 ∷ 0 ∷ []) ≡ stop 32
  pub checks_untyped : in_blobs (check_bytes 1 0) (300 ∷ []) ≡ assign 1 300
  pub check_typed : in_blobs (check_bytes 0 6) (0 ∷ 0 ∷ 0 ∷ 0 ∷ 0 ∷ 0 ∷ 512 ∷ []) ≡ stop 32
  pub check_misfit : in_blobs (check_bytes 0 4) [] ≡ stop 32
  pub check_misfit_untyped : in_blobs (check_bytes 0 5) [] ≡ stop 32
  -- "kinds 27, 28 and 36 to 39 refuse it under 7 (39 only as a)"; nor do 36 to 38 take a typed pointer
  pub misfit_new_bytes : is_stuck (in_blobs (new_bytes 5) []) ≡ 1
  pub misfit_load_byte : is_stuck (in_blobs (load_byte 3 5 2) []) ≡ 1
  pub misfit_store_byte : is_stuck (in_blobs (store_byte 5 3 2) []) ≡ 1
  pub misfit_check_bytes : is_stuck (in_blobs (check_bytes 5 2) []) ≡ 1
  pub new_bytes_typed : is_stuck (in_blobs (new_bytes 6) []) ≡ 1
  pub load_byte_typed : is_stuck (in_blobs (load_byte 3 6 2) []) ≡ 1
  pub store_byte_typed : is_stuck (in_blobs (store_byte 6 3 2) []) ≡ 1
  -- the other registers: i8 and i32; and each holds a value of its type
  pub load_byte_into_word : is_stuck (in_blobs (load_byte 2 0 2) (300 ∷ [])) ≡ 1
  pub load_byte_at_byte : is_stuck (in_blobs (load_byte 3 0 3) (300 ∷ [])) ≡ 1
  pub store_byte_of_word : is_stuck (in_blobs (store_byte 0 2 2) (300 ∷ [])) ≡ 1
  pub store_byte_at_byte : is_stuck (in_blobs (store_byte 0 3 3) (300 ∷ [])) ≡ 1
  pub check_bytes_of_byte : is_stuck (in_blobs (check_bytes 0 3) []) ≡ 1
  pub load_byte_of_no_value : is_stuck (in_blobs (load_byte 3 0 2) (509 ∷ [])) ≡ 1
  pub load_byte_offset_too_large : is_stuck (in_blobs (load_byte 3 0 2) (300 ∷ 0 ∷ 4294967296 ∷ [])) ≡ 1
  pub store_byte_through_no_value : is_stuck (in_blobs (store_byte 0 3 2) (509 ∷ [])) ≡ 1
  pub store_byte_of_no_value : is_stuck (in_blobs (store_byte 0 3 2) (300 ∷ 0 ∷ 0 ∷ 256 ∷ [])) ≡ 1
  pub check_bytes_of_no_value : is_stuck (in_blobs (check_bytes 0 1) (0 ∷ 510 ∷ [])) ≡ 1
  -- bytes that stray: none of the d, each beside them; all where the region is typed, or the d bytes are not in one page
  pub stray_last : stray_by (blobs []) (blob_state (300 ∷ [])) 0 (fetch 0 3 303 1) ≡ 0
  pub stray_all : stray_by (blobs []) (blob_state (300 ∷ [])) 0 (fetch 0 3 300 4) ≡ 0
  pub stray_behind : stray_by (blobs []) (blob_state (300 ∷ [])) 0 (fetch 0 3 304 1) ≡ 1
  pub stray_before : stray_by (blobs []) (blob_state (300 ∷ [])) 0 (save 0 299 2 7) ≡ 1
  pub stray_in_typed : stray_by (blobs []) (blob_state (0 ∷ 0 ∷ 0 ∷ 0 ∷ 0 ∷ 512 ∷ [])) 0 (save 5 512 1 7) ≡ 1
  pub stray_two_pages : stray_by (blobs []) (blob_state (510 ∷ [])) 0 (fetch 0 3 510 1) ≡ 1
  pub stray_typed_in_untyped : stray_by (blobs []) (blob_state (0 ∷ 0 ∷ 0 ∷ 0 ∷ 256 ∷ [])) 0 (fetch 4 3 256 1) ≡ 1
  -- "in untyped pages the state test takes all bytes": with every byte 255 and every mark set
  pub tested_bytes : untyped_passes (300 ∷ 509 ∷ []) (replicate 256 1) (replicate 256 255) ≡ true
  pub tested_marks : untyped_spare (replicate 256 1) ≡ true
  pub tested_two_pages : untyped_passes (300 ∷ 510 ∷ []) [] [] ≡ false
  pub tested_misfit : untyped_passes (0 ∷ 0 ∷ 0 ∷ 0 ∷ 256 ∷ []) [] [] ≡ false
  -- "and the reader's part is empty"
  pub read : object_in (blobs []) (blob_state []) 300 4 ≡ empty_part
  pub read_typed : object_in (blobs []) (blob_state []) 514 2 ≡ record { offset = page_place 2; size = 4 }
  -- in the file: term 11 and entry 255; a pointer of 4 bytes, whatever it points to; it uses its region
  pub decoded : tree_of [] (record { kind = 11; a = 3; b = 0; c = 0; d = 256 }) ≡ raw_ptr 256 (region 3)
  pub decoded_untyped : region_type_of (int 4 ∷ []) 255 ≡ bytes
  pub decoded_typed : region_type_of (int 4 ∷ []) 0 ≡ int 4
  pub sized : size {k = variable} (blobs []) (raw_ptr 9 (region 0)) ≡ 4
  pub uses : does (dec_uses 2 (raw_ptr 4 (region 1))) ≡ true
  pub uses_more : does (dec_uses 1 (raw_ptr 4 (region 1))) ≡ false
  pub primitive : does (dec_primitive {k = variable} (raw_ptr 4 (region 0))) ≡ true
  -- an untyped pointer in a page: a load through a pointer to it has 4 bytes, and the state test asks that it is a value
  pub load_of_pointer : effect_of (linked (load 1 0 ∷ [])) [] (state_of (blob_frame (512 ∷ []) ∷ []) (0 ∷ 4 ∷ 2 ∷ [])) ≡ fetch 0 1 512 4
  pub tested_pointer : linked_passes (252 ∷ 2 ∷ []) ≡ true
  pub tested_pointer_past : linked_passes (253 ∷ 2 ∷ []) ≡ false

pub untyped_kinds : UntypedKinds
unfolding first_from first all_below dec_both dec_either dec_imp dec_not dec_all dec_any dec_the map_dec dec_list dec_each dec_region sub dec_tree dec_placed dec_prims beside copies_of copies sub_layout flat_with fields_from fields_with layouts flat dec_run position_at dec_same as_int as_ptr as_arr as_raw dec_an_address dec_reg with_int with_ptr with_raw an_int a_ptr a_raw dec_untyped dec_constant dec_copy dec_operate dec_zero dec_signed dec_address dec_check dec_field dec_index dec_through dec_load dec_store dec_whole dec_new dec_free dec_input dec_output dec_jump dec_branch dec_call dec_return dec_new_bytes dec_load_byte dec_store_byte dec_check_bytes dec_typed dec_local dec_live local_list live_list look type_of dec_stands dec_in_untyped dec_value operation_of flag value_if left_by right_by magnitude nearest_of signed_by nearest_by biased operated sign_extended need on_int on_ptr on_arr on_raw dec_is_call dec_stands_at_call on_call is_in lowest lowest_numbers dec_home has_room room_page unused_run unused_place has_place unowned_page allocate not_zero computed dec_held callee_map callee_registers returned exec effect_at effect_of in_blobs dec_in_primitives dec_names dec_names_bytes dec_in_typed dec_in_raw dec_in_value stray_from object_in untyped_passes untyped_spare linked_passes tree_of region_type_of dec_uses dec_primitive memory_number dec_listed dec_status dec_chained dec_frames dec_page dec_contents dec_marks_end dec_spare ℕ_discrete dec_lt dec_le
untyped_kinds = record {
  value = refl;
  value_first = refl;
  value_zero = refl;
  value_two_pages = refl;
  value_unowned = refl;
  value_page_0 = refl;
  value_far = refl;
  value_past_pages = refl;
  value_other_region = refl;
  misfit_zero = refl;
  misfit = refl;
  misfit_untyped_zero = refl;
  misfit_untyped = refl;
  misfit_new = refl;
  misfit_free = refl;
  misfit_check = refl;
  misfit_load = refl;
  new_untyped = refl;
  free_untyped = refl;
  addresses = refl;
  addresses_misfit = refl;
  check_takes = refl;
  check_gives = refl;
  load_through = refl;
  store_through = refl;
  rule_new = refl;
  rule_free = refl;
  rule_check_gives = refl;
  rule_field_of = refl;
  rule_field_gives = refl;
  rule_index_of = refl;
  rule_address = refl;
  copy_shorter = refl;
  makes = refl;
  makes_shorter = refl;
  makes_in_a_new_page = refl;
  loads = refl;
  loads_past = refl;
  loads_far = refl;
  loads_zero = refl;
  stores = refl;
  stores_past = refl;
  stores_zero = refl;
  checks = refl;
  checks_first = refl;
  check_two_pages = refl;
  check_typed_page = refl;
  check_unowned = refl;
  check_far = refl;
  check_zero = refl;
  checks_untyped = refl;
  check_typed = refl;
  check_misfit = refl;
  check_misfit_untyped = refl;
  misfit_new_bytes = refl;
  misfit_load_byte = refl;
  misfit_store_byte = refl;
  misfit_check_bytes = refl;
  new_bytes_typed = refl;
  load_byte_typed = refl;
  store_byte_typed = refl;
  load_byte_into_word = refl;
  load_byte_at_byte = refl;
  store_byte_of_word = refl;
  store_byte_at_byte = refl;
  check_bytes_of_byte = refl;
  load_byte_of_no_value = refl;
  load_byte_offset_too_large = refl;
  store_byte_through_no_value = refl;
  store_byte_of_no_value = refl;
  check_bytes_of_no_value = refl;
  stray_last = refl;
  stray_all = refl;
  stray_behind = refl;
  stray_before = refl;
  stray_in_typed = refl;
  stray_two_pages = refl;
  stray_typed_in_untyped = refl;
  tested_bytes = refl;
  tested_marks = refl;
  tested_two_pages = refl;
  tested_misfit = refl;
  read = refl;
  read_typed = refl;
  decoded = refl;
  decoded_untyped = refl;
  decoded_typed = refl;
  sized = refl;
  uses = refl;
  uses_more = refl;
  primitive = refl;
  load_of_pointer = refl;
  tested_pointer = refl;
  tested_pointer_past = refl;
}
