-- Document 01, "State test", by computation on states as the accessors give them: for each clause a state that passes and one that
-- fails for this reason alone. (The test of a state's 24,576 bytes is too long to compute.) Then which calls have an answer only for states
-- of their machine's page range. Assumes nothing.
use Rattle.std.specs.Prelude.{◌≡◌, refl, Bool, true, false, cond, ◌&&◌, List, [], ◌∷◌, ◌++◌, ℕ, ◌+◌, ◌-◌, ◌/◌, ◌<◌, ◌≤◌, eqb, ltb, leb, length, get_or, replicate}
use Rattle.std.proofs.lemmas.Bool.{false≢true}
use Rattle.std.proofs.Common.{inl, inr, arith}
use Rattle.std.proofs.Math.Decide.{ℕ_discrete, dec_lt, dec_le}
use Rattle.words.specs.Bytes.{Bytes, byte_at}
use Rattle.words.specs.First.{first_from, first}
use Rattle.rules.specs.Limits.{page_bytes, most_form, most_frames, output_bytes, state_bytes, header_end, owners_at, stack_end, spare_in, memory_at, frame_bytes, bad_length, bad_state}
use Rattle.words.specs.Decide.{does, dec_both, dec_either, dec_imp, dec_not, dec_all, dec_any, map_dec, dec_list, dec_each}
use Rattle.rules.specs.Types.{region, int, ptr, dec_region, sub, dec_tree}
use Rattle.rules.specs.Module.{call, return, Module}
use Rattle.rules.specs.State.{all_pages, View, view, memory_number, frame_place}
use Rattle.rules.specs.CaseStates.{function_with, module_with, word_and_pointer, to, named, Frame, frame, all_but, state_in, state_of}
use Rattle.rules.specs.StateTest.{Passes, dec_passes, dec_listed, dec_status, dec_chained, dec_frames, dec_page, dec_contents, dec_marks_end, dec_spare}
use Rattle.rules.specs.Flat.{dec_placed, dec_prims, beside, copies_of, copies, sub_layout, flat_with, fields_from, fields_with, layouts, flat, dec_run, position_at}
use Rattle.rules.specs.Heap.{dec_local, dec_live, look, type_of, dec_stands, dec_in_untyped, dec_value}
use Rattle.rules.specs.Step.{dec_is_call, dec_stands_at_call}
use Rattle.rules.specs.Decode.{module_of}
use Rattle.rules.specs.Verdict.{verdict_of}
use Rattle.rules.specs.Host.{Part, empty_part, failed, passed, on_verdict, go_with, test_at, object_in, object_at, ranged}
use Rattle.rules.specs.declared.PageRange.{PageRange}
use Rattle.rules.specs.Refusals.{Verdict, Accepted, Refused}

-- ---- the states

-- Function 0 has one local region, of {i32; pointer to i32 in it}, and calls function 1 for it; function 1 has a local region of
-- i32 of its own.
abbrev pub tested : Module
tested = module_with (word_and_pointer ∷ [])
    (function_with 0 1 (named 0 ∷ []) 0 (to (int 4) ∷ int 4 ∷ int 1 ∷ []) (call 1 1 (region 0 ∷ []) [] ∷ call 1 0 [] [] ∷ return 1 ∷ [])
    ∷ function_with 1 1 (named 0 ∷ int 4 ∷ []) 0 (to (int 4) ∷ ptr (int 4) (region 1) ∷ int 4 ∷ []) (return 2 ∷ []) ∷ [])

-- regions 5 and 0 are live, page 1 is region 5's and page 2 region 0's
abbrev pub lower : Frame
lower = frame 0 0 (256 ∷ 7 ∷ 255 ∷ []) (5 ∷ [])

abbrev pub upper : Frame
upper = frame 1 0 (264 ∷ 512 ∷ 9 ∷ []) (5 ∷ 0 ∷ [])

abbrev pub both : List Frame
both = lower ∷ upper ∷ []

abbrev pub owners : List ℕ
owners = 0 ∷ 6 ∷ 1 ∷ []

-- with this range, these frames, owners, marks of each page, and bytes of page 1
abbrev pub filled : PageRange → List Frame → List ℕ → List (List ℕ) → List ℕ → View
filled R frames owners marks bytes = let v = state_in R frames owners in record {
  status = 0;
  result = 0;
  frames = v.frames;
  output_count = 0;
  range = v.range;
  fn = v.fn;
  pc = v.pc;
  reg = v.reg;
  map = v.map;
  owner = v.owner;
  mark = λ p j. get_or (get_or marks p []) j 0;
  memory = λ x. cond (ltb x page_bytes) 0 (get_or bytes (x - page_bytes) 0);
}

unfoldable pub status_passes : (status frames result : ℕ) → Bool
status_passes status frames result = let v = state_of [] [] in does (dec_status (record {
  status = status;
  result = result;
  frames = frames;
  output_count = 0;
  range = all_pages;
  fn = v.fn;
  pc = v.pc;
  reg = v.reg;
  map = v.map;
  owner = v.owner;
  mark = v.mark;
  memory = v.memory;
}))

unfoldable pub frames_pass : List Frame → Bool
frames_pass frames = let v = state_of frames [] in does (dec_frames tested v.fn v.pc v.map v.frames)

-- by registers and owners; by marks; by the bytes of page 1
unfoldable pub contents_pass : List Frame → List ℕ → List (List ℕ) → List ℕ → Bool
contents_pass frames owners marks bytes = let v = filled all_pages frames owners marks bytes in does (dec_contents tested v v.frames)

-- by the range, with pages 1 and 2 owned
unfoldable pub range_passes : (below above : ℕ) → Bool
range_passes below above = let v = filled (all_but below above) both owners [] [] in does (dec_contents tested v v.frames)

-- the first n frames are in use
unfoldable pub spare_passes : List Frame → ℕ → List (List ℕ) → Bool
spare_passes frames n marks = does (dec_spare tested (filled all_pages frames owners marks []) n)

-- function 0 has two local regions
abbrev pub twice : Module
twice = module_with [] (function_with 0 2 (int 4 ∷ int 4 ∷ []) 0 (int 4 ∷ []) (return 0 ∷ []) ∷ [])

-- ---- status

pub record StatusTests : Type 0 where
  -- "status, result and output count are in range; frames (1-16, none once ended)"
  pub running : status_passes 0 1 0 ≡ true
  pub running_no_frame : status_passes 0 0 0 ≡ false
  pub running_result : status_passes 0 1 5 ≡ false
  pub ended : status_passes 1 0 5 ≡ true
  pub ended_frame : status_passes 1 1 5 ≡ false
  pub low : status_passes 30 1 0 ≡ false
  pub first_stop : status_passes 31 1 0 ≡ true
  pub last_stop : status_passes 39 16 0 ≡ true
  pub high : status_passes 40 1 0 ≡ false
  pub stop_no_frame : status_passes 31 0 0 ≡ false
  pub stop_result : status_passes 31 1 5 ≡ false
  pub other : status_passes 2 1 0 ≡ false

pub status_tests : StatusTests
unfolding first_from first dec_both dec_either dec_imp dec_not dec_all dec_any map_dec dec_list dec_each dec_region sub dec_tree dec_placed dec_prims beside copies_of copies sub_layout flat_with fields_from fields_with layouts flat dec_run position_at dec_local dec_live look type_of dec_stands dec_in_untyped dec_value memory_number dec_is_call dec_stands_at_call dec_listed dec_status dec_chained dec_frames dec_page dec_contents dec_marks_end dec_spare status_passes frames_pass contents_pass spare_passes ℕ_discrete dec_lt dec_le
status_tests = record {
  running = refl;
  running_no_frame = refl;
  running_result = refl;
  ended = refl;
  ended_frame = refl;
  low = refl;
  first_stop = refl;
  last_stop = refl;
  high = refl;
  stop_no_frame = refl;
  stop_result = refl;
  other = refl;
}

-- ---- frames and maps

pub record FrameTests : Type 0 where
  -- "each stand at an instruction of their function, function 0 lowest, and chain by the calls they stand at"
  pub chain : frames_pass (both) ≡ true
  pub one_frame_case : frames_pass (lower ∷ []) ≡ true
  pub no_frame : frames_pass ([]) ≡ true
  pub sixteen : frames_pass (frame 0 1 [] (0 ∷ []) ∷ frame 0 1 [] (1 ∷ []) ∷ frame 0 1 [] (2 ∷ []) ∷ frame 0 1 [] (3 ∷ []) ∷ frame 0 1 [] (4 ∷ []) ∷ frame 0 1 [] (5 ∷ []) ∷ frame 0 1 [] (6 ∷ []) ∷ frame 0 1 [] (7 ∷ []) ∷ frame 0 1 [] (8 ∷ []) ∷ frame 0 1 [] (9 ∷ []) ∷ frame 0 1 [] (10 ∷ []) ∷ frame 0 1 [] (11 ∷ []) ∷ frame 0 1 [] (12 ∷ []) ∷ frame 0 1 [] (13 ∷ []) ∷ frame 0 1 [] (14 ∷ []) ∷ frame 0 2 [] (15 ∷ []) ∷ []) ≡ true
  pub seventeen : frames_pass (frame 0 1 [] (0 ∷ []) ∷ frame 0 1 [] (1 ∷ []) ∷ frame 0 1 [] (2 ∷ []) ∷ frame 0 1 [] (3 ∷ []) ∷ frame 0 1 [] (4 ∷ []) ∷ frame 0 1 [] (5 ∷ []) ∷ frame 0 1 [] (6 ∷ []) ∷ frame 0 1 [] (7 ∷ []) ∷ frame 0 1 [] (8 ∷ []) ∷ frame 0 1 [] (9 ∷ []) ∷ frame 0 1 [] (10 ∷ []) ∷ frame 0 1 [] (11 ∷ []) ∷ frame 0 1 [] (12 ∷ []) ∷ frame 0 1 [] (13 ∷ []) ∷ frame 0 1 [] (14 ∷ []) ∷ frame 0 1 [] (15 ∷ []) ∷ frame 0 2 [] (16 ∷ []) ∷ []) ≡ false
  pub function_unknown : frames_pass (frame 2 0 [] (5 ∷ []) ∷ []) ≡ false
  pub function_unknown_lowest : does (dec_frames (module_with [] []) (λ k. 0) (λ k. 0) (λ k i. 0) 1) ≡ false
  pub instruction_last : frames_pass (frame 0 2 [] (5 ∷ []) ∷ []) ≡ true
  pub instruction_past : frames_pass (frame 0 3 [] (5 ∷ []) ∷ []) ≡ false
  pub lowest_other : frames_pass (frame 1 0 [] (5 ∷ 0 ∷ []) ∷ []) ≡ false
  pub at_no_call : frames_pass (frame 0 2 [] (5 ∷ []) ∷ upper ∷ []) ≡ false
  pub at_another_call : frames_pass (frame 0 1 [] (5 ∷ []) ∷ upper ∷ []) ≡ false
  pub above_another_function : frames_pass (lower ∷ frame 0 2 [] (3 ∷ []) ∷ []) ≡ false
  -- "each frame's map is the call's regions through the caller's map, then local regions, all different and live in no frame below"
  pub map_other : frames_pass (lower ∷ frame 1 0 [] (4 ∷ 0 ∷ []) ∷ []) ≡ false
  pub local_live_below : frames_pass (lower ∷ frame 1 0 [] (5 ∷ 5 ∷ []) ∷ []) ≡ false
  pub locals_different : does (dec_frames twice (λ k. 0) (λ k. 0) (λ k i. i) 1) ≡ true
  pub locals_equal : does (dec_frames twice (λ k. 0) (λ k. 0) (λ k i. 3) 1) ≡ false
  -- the layout's own clause: live regions are 0 to 111
  pub region_111 : frames_pass (lower ∷ frame 1 0 [] (5 ∷ 111 ∷ []) ∷ []) ≡ true
  pub region_112 : frames_pass (lower ∷ frame 1 0 [] (5 ∷ 112 ∷ []) ∷ []) ≡ false

pub frame_tests : FrameTests
unfolding first_from first dec_both dec_either dec_imp dec_not dec_all dec_any map_dec dec_list dec_each dec_region sub dec_tree dec_placed dec_prims beside copies_of copies sub_layout flat_with fields_from fields_with layouts flat dec_run position_at dec_local dec_live look type_of dec_stands dec_in_untyped dec_value memory_number dec_is_call dec_stands_at_call dec_listed dec_status dec_chained dec_frames dec_page dec_contents dec_marks_end dec_spare status_passes frames_pass contents_pass spare_passes ℕ_discrete dec_lt dec_le
frame_tests = record {
  chain = refl;
  one_frame_case = refl;
  no_frame = refl;
  sixteen = refl;
  seventeen = refl;
  function_unknown = refl;
  function_unknown_lowest = refl;
  instruction_last = refl;
  instruction_past = refl;
  lowest_other = refl;
  at_no_call = refl;
  at_another_call = refl;
  above_another_function = refl;
  map_other = refl;
  local_live_below = refl;
  locals_different = refl;
  locals_equal = refl;
  region_111 = refl;
  region_112 = refl;
}

-- ---- pages, registers and objects

pub record ContentTests : Type 0 where
  -- "page 0 is unowned; owners are live; unowned pages have no used marks"
  pub contents : contents_pass (both) (owners) ([] ∷ (1 ∷ []) ∷ []) (3 ∷ 0 ∷ 0 ∷ 0 ∷ 8 ∷ 1 ∷ 0 ∷ 0 ∷ []) ≡ true
  pub page_0_owned : contents_pass (both) (1 ∷ 6 ∷ 1 ∷ []) ([]) ([]) ≡ false
  -- pages outside the range are unowned too
  pub owned_in_range : range_passes 0 61 ≡ true
  pub owned_below_case : range_passes 1 0 ≡ false
  pub owned_above : range_passes 0 62 ≡ false
  pub owner_not_live : contents_pass (both) (0 ∷ 6 ∷ 1 ∷ 3 ∷ []) ([]) ([]) ≡ false
  pub mark_unowned : contents_pass (both) (owners) ([] ∷ [] ∷ [] ∷ (0 ∷ 1 ∷ []) ∷ []) ([]) ≡ false
  -- "each register .. is a value of its type", in every frame
  pub register_byte : contents_pass (frame 0 0 (256 ∷ 7 ∷ 256 ∷ []) (5 ∷ []) ∷ upper ∷ []) (owners) ([]) ([]) ≡ false
  pub register_closed : contents_pass (lower ∷ upper ∷ []) (0 ∷ 6 ∷ []) ([]) ([]) ≡ false
  -- "and each primitive in each owned page", here of a free object, the last of its page
  pub primitive_free : contents_pass (both) (owners) ([]) (replicate 252 0 ++ 0 ∷ 2 ∷ 0 ∷ 0 ∷ []) ≡ false

pub content_tests : ContentTests
unfolding first_from first dec_both dec_either dec_imp dec_not dec_all dec_any map_dec dec_list dec_each dec_region sub dec_tree dec_placed dec_prims beside copies_of copies sub_layout flat_with fields_from fields_with layouts flat dec_run position_at dec_local dec_live look type_of dec_stands dec_in_untyped dec_value memory_number dec_is_call dec_stands_at_call dec_listed dec_status dec_chained dec_frames dec_page dec_contents dec_marks_end dec_spare status_passes frames_pass contents_pass range_passes spare_passes ℕ_discrete dec_lt dec_le
content_tests = record {
  contents = refl;
  page_0_owned = refl;
  owned_in_range = refl;
  owned_below_case = refl;
  owned_above = refl;
  owner_not_live = refl;
  mark_unowned = refl;
  register_byte = refl;
  register_closed = refl;
  primitive_free = refl;
}

-- ---- spare bytes that an accessor reads

pub record SpareTests : Type 0 where
  -- frames not in use, registers and map entries that the function does not have, marks beyond the last place of a page
  pub spare : spare_passes both 2 ([] ∷ replicate 32 1 ∷ replicate 64 1 ∷ []) ≡ true
  pub function_behind : spare_passes (both ++ frame 1 0 [] [] ∷ []) 2 [] ≡ false
  pub instruction_behind : spare_passes (both ++ frame 0 1 [] [] ∷ []) 2 [] ≡ false
  pub register_behind : spare_passes (both ++ frame 0 0 (replicate 27 0 ++ 1 ∷ []) [] ∷ []) 2 [] ≡ false
  pub map_behind : spare_passes (both ++ frame 0 0 [] (replicate 6 0 ++ 1 ∷ []) ∷ []) 2 [] ≡ false
  pub register_past : spare_passes (frame 0 0 (0 ∷ 0 ∷ 0 ∷ 1 ∷ []) [] ∷ upper ∷ []) 2 [] ≡ false
  pub map_past : spare_passes (frame 0 0 [] (5 ∷ 1 ∷ []) ∷ upper ∷ []) 2 [] ≡ false
  pub mark_past : spare_passes both 2 ([] ∷ (replicate 32 0 ++ 1 ∷ []) ∷ []) ≡ false
  pub mark_past_words : spare_passes both 2 ([] ∷ [] ∷ (replicate 64 0 ++ 1 ∷ []) ∷ []) ≡ false

pub spare_tests : SpareTests
unfolding first_from first dec_both dec_either dec_imp dec_not dec_all dec_any map_dec dec_list dec_each dec_region sub dec_tree dec_placed dec_prims beside copies_of copies sub_layout flat_with fields_from fields_with layouts flat dec_run position_at dec_local dec_live look type_of dec_stands dec_in_untyped dec_value memory_number dec_is_call dec_stands_at_call dec_listed dec_status dec_chained dec_frames dec_page dec_contents dec_marks_end dec_spare status_passes frames_pass contents_pass spare_passes ℕ_discrete dec_lt dec_le
spare_tests = record {
  spare = refl;
  function_behind = refl;
  instruction_behind = refl;
  register_behind = refl;
  map_behind = refl;
  register_past = refl;
  map_past = refl;
  mark_past = refl;
  mark_past_words = refl;
}

-- ---- the clauses on the bytes themselves: what passes has them

pub record ByteTests : Type 0 where
  -- "state not 24,576 bytes"; "output count .. in range"
  pub size : (m : Module) (s : Bytes) → Passes m s → length s ≡ state_bytes
  pub output_count_case : (m : Module) (s : Bytes) → Passes m s → (view s).output_count ≤ output_bytes
  -- "spare bytes zero": behind the header, behind the frames, and the last of each frame
  pub behind_header : (m : Module) (s : Bytes) → Passes m s → (i : ℕ) → header_end ≤ i → i < owners_at → byte_at s i ≡ 0
  pub behind_frames : (m : Module) (s : Bytes) → Passes m s → (i : ℕ) → stack_end ≤ i → i < memory_at → byte_at s i ≡ 0
  pub frame_ends : (m : Module) (s : Bytes) → Passes m s
      → (k : ℕ) → k < most_frames → (i : ℕ) → frame_place k + spare_in ≤ i → i < frame_place k + frame_bytes → byte_at s i ≡ 0

pub byte_tests : ByteTests
byte_tests = record {
  size = λ m s h. h.size;
  output_count_case = λ m s h. h.output;
  behind_header = λ m s h i l u. h.unread i (inl (l, u));
  behind_frames = λ m s h i l u. h.unread i (inr (inl (l, u)));
  frame_ends = λ m s h k b i l u. h.unread i (inr (inr (record { frame = k; below = b; low = l; high = u })));
}

-- ---- the page range: what is not refused is a state of the machine that is called

-- the test of the range, behind those of lengths and beside the state test
third : (a b c d e : Bool) → cond a (cond b (cond (c && d) e false) false) false ≡ true → d ≡ true
third true true true true e h = refl
third true true true false e h = absurd (false≢true h)
third true true false d e h = absurd (false≢true h)
third true false c d e h = absurd (false≢true h)
third false b c d e h = absurd (false≢true h)

passed_last : (v : Verdict) (a b c : Bool) (n p i q : ℕ) → on_verdict failed v (cond a (cond (b && c) passed (failed n p)) (failed i q)) ≡ passed → c ≡ true
passed_last (Accepted t k g j) true true true n p i q h = refl
passed_last (Accepted t k g j) true true false n p i q h = let z : ◌≡◌ {A = ℕ} 0 1 = cc in absurd (omega arith)
passed_last (Accepted t k g j) true false c n p i q h = let z : ◌≡◌ {A = ℕ} 0 1 = cc in absurd (omega arith)
passed_last (Accepted t k g j) false b c n p i q h = let z : ◌≡◌ {A = ℕ} 0 1 = cc in absurd (omega arith)
passed_last (Refused k j) a b c n p i q h = let z : ◌≡◌ {A = ℕ} 0 1 = cc in absurd (omega arith)

found_by : (v : Verdict) (b c : Bool) (x : Part) → 0 < (on_verdict (λ n p. empty_part) v (cond (b && c) x empty_part)).size → c ≡ true
found_by (Accepted t k g j) true true x h = refl
found_by (Accepted t k g j) true false x h = absurd (omega arith)
found_by (Accepted t k g j) false c x h = absurd (omega arith)
found_by (Refused k j) b c x h = absurd (omega arith)

pub record RangeTests : Type 0 where
  -- of a call that is not refused, of a state that passes, of an object that is found
  pub gone_on : (R : PageRange) (m : Module) (form s o : Bytes) → go_with (λ n p. false) R m form s o true ≡ true → ranged R s ≡ true
  pub tested : (R : PageRange) (f s : Bytes) → test_at R f s ≡ passed → ranged R s ≡ true
  pub read : (R : PageRange) (f s : Bytes) (a : ℕ) → 0 < (object_at R f s a).size → ranged R s ≡ true

pub range_tests : RangeTests
unfolding test_at object_at
range_tests = record {
  gone_on = λ R m form s o h. third (leb (length form) most_form) (eqb (length s) state_bytes && eqb (length o) output_bytes) (does (dec_passes m s)) (ranged R s) (cond (eqb (view s).status 0) true false) h;
  tested = λ R f s h. passed_last (verdict_of f) (eqb (length s) state_bytes) (does (dec_passes (module_of f) s)) (ranged R s) bad_state 0 bad_length 0 h;
  read = λ R f s a h. found_by (verdict_of f) (does (dec_passes (module_of f) s)) (ranged R s) (object_in (module_of f) (view s) a ((view s).owner (a / page_bytes))) h;
}
