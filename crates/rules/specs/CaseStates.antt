-- Modules and states for the cases: small functions, and states of a few frames. Assumes nothing.
use Rattle.std.specs.Prelude.{List, [], ◌∷◌, ℕ, length, get_or}
use Rattle.rules.specs.Types.{RegionKind, variable, region, Tree, int, ptr, arr, struct, raw_ptr, bytes}
use Rattle.rules.specs.Module.{Instruction, call, Function, Module}
use Rattle.rules.specs.State.{all_pages, View}
use Rattle.rules.specs.Step.{Effect, effect_of}
use Rattle.rules.specs.declared.PageRange.{PageRange}

-- ---- modules

-- calls function 1 for region variable 0, with register 0, result into register 2
abbrev pub call_pair : Instruction
call_pair = call 2 1 (region 0 ∷ []) (0 ∷ [])

-- a pointer to T in region variable 0; name N for region 0
abbrev pub to : Tree variable → Tree variable
to T = ptr T (region 0)

abbrev pub named : {k : RegionKind} → ℕ → Tree k
named N = struct N (region 0 ∷ [])

-- registers 0 and 1 pointers to T, 2 and 4 i32, 3 and 5 i8
abbrev pub registers_for : Tree variable → List (Tree variable)
registers_for T = to T ∷ to T ∷ int 4 ∷ int 1 ∷ int 4 ∷ int 1 ∷ []

-- With p region parameters and l local regions of these types, q parameters, registers of these types, and this code. Behind its
-- last instruction there would be calls: a step from there is stuck only because it is behind.
abbrev pub function_with : (p l : ℕ) (region_types : List (Tree variable)) (q : ℕ) (register_types : List (Tree variable)) (code : List Instruction) → Function
function_with p l region_types q register_types code = record {
  region_params = p;
  locals = l;
  registers = length register_types;
  params = q;
  result = int 4;
  region_type = λ i. get_or region_types i (int 1);
  register_type = λ a. get_or register_types a (int 1);
  code_length = length code;
  code = λ i. get_or code i call_pair;
}

-- With these fields of names, each of one region, and these functions. Behind the last there would be functions that stand at a
-- call.
abbrev pub module_with : List (List (Tree variable)) → List Function → Module
module_with fields functions = record {
  terms = 0;
  term = λ i. int 1;
  structs = length fields;
  arity = λ N. 1;
  fields = λ N. get_or fields N [];
  functions = length functions;
  function = λ g. get_or functions g (function_with 0 1 (int 4 ∷ []) 0 (registers_for (int 4)) (call_pair ∷ []));
}

-- fields {i8; i32}; {i32; pointer to i32 in region 0}; {i32; i8}
abbrev pub byte_and_word : List (Tree variable)
byte_and_word = int 1 ∷ int 4 ∷ []

abbrev pub word_and_pointer : List (Tree variable)
word_and_pointer = int 4 ∷ ptr (int 4) (region 0) ∷ []

abbrev pub word_and_byte : List (Tree variable)
word_and_byte = int 4 ∷ int 1 ∷ []

-- one function with one local region of type T
abbrev pub main_for : Tree variable → List Instruction → Function
main_for T code = function_with 0 1 (T ∷ []) 0 (registers_for T) code

abbrev pub main : List Instruction → Module
main code = module_with [] (main_for (int 4) code ∷ [])

-- function 0 with one local region of i32, function 1 with a region parameter of type T and a parameter, a pointer to T
abbrev pub pair : Tree variable → (code0 code1 : List Instruction) → Module
pair T code0 code1 = module_with [] (main_for (int 4) code0 ∷ function_with 1 0 (T ∷ []) 1 (registers_for T) code1 ∷ [])

-- a region of {i8; i32}: registers 0 pointer to {i8; i32}, 1 to i32, 2 i32, 3 i8, 4 pointer to {i32; i8}, 5 to i8
abbrev pub cells : List Instruction → Module
cells code = module_with (byte_and_word ∷ word_and_byte ∷ [])
    (function_with 0 1 (named 0 ∷ []) 0 (to (named 0) ∷ to (int 4) ∷ int 4 ∷ int 1 ∷ to (named 1) ∷ to (int 1) ∷ []) code ∷ [])

-- a region of arrays of three i32: registers 0 pointer to the array, 1 to i32, 2 i32
abbrev pub rows : List Instruction → Module
rows code = module_with [] (function_with 0 1 (arr 3 (int 4) ∷ []) 0 (to (arr 3 (int 4)) ∷ to (int 4) ∷ int 4 ∷ []) code ∷ [])

-- Two local regions, the first untyped, the second of i32. Registers 0 and 1 untyped pointers to 4 and 3 bytes in the first, 2 i32, 3 i8,
-- 4 a pointer to i8 in the untyped region, 5 an untyped one into the typed region, 6 a pointer to i32 in the second
abbrev pub blobs : List Instruction → Module
blobs code = module_with []
    (function_with 0 2 (bytes ∷ int 4 ∷ []) 0 (raw_ptr 4 (region 0) ∷ raw_ptr 3 (region 0) ∷ int 4 ∷ int 1 ∷ to (int 1) ∷ raw_ptr 4 (region 1) ∷ ptr (int 4) (region 1) ∷ []) code ∷ [])

-- ---- states, as the accessors give them

pub record Frame : Type 0 where
  pub function : ℕ
  pub instruction : ℕ
  pub registers : List ℕ
  pub regions : List ℕ

abbrev pub frame : ℕ → ℕ → (registers regions : List ℕ) → Frame
frame g i registers regions = record { function = g; instruction = i; registers = registers; regions = regions }

abbrev pub at : List Frame → ℕ → Frame
at frames k = get_or frames k (frame 0 0 [] [])

-- a range of pages, by how many are not in it below and above
abbrev pub all_but : (below above : ℕ) → PageRange
all_but below above = record { below = below; above = above }

-- running, with this range, these frames, the lowest first, and these owners of the pages from 0 on; all else is 0
abbrev pub state_in : PageRange → List Frame → (owners : List ℕ) → View
state_in R frames owners = record {
  status = 0;
  result = 0;
  frames = length frames;
  output_count = 0;
  range = R;
  fn = λ k. (at frames k).function;
  pc = λ k. (at frames k).instruction;
  reg = λ k a. get_or (at frames k).registers a 0;
  map = λ k i. get_or (at frames k).regions i 0;
  owner = λ p. get_or owners p 0;
  mark = λ p j. 0;
  memory = λ x. 0;
}

-- with all pages
abbrev pub state_of : List Frame → (owners : List ℕ) → View
state_of = state_in all_pages

-- one frame, of function 0 at instruction 0, whose region variable 0 leads to region 0; page 1 is region 0's
abbrev pub one_frame : List ℕ → View
one_frame registers = state_of (frame 0 0 registers (0 ∷ []) ∷ []) (0 ∷ 1 ∷ [])

-- the step of instruction i of `main`, of `cells` and of `rows`, with these registers
unfoldable pub in_main : Instruction → List ℕ → Effect
in_main i registers = effect_of (main (i ∷ [])) [] (one_frame registers)

unfoldable pub in_cells : Instruction → List ℕ → Effect
in_cells i registers = effect_of (cells (i ∷ [])) [] (one_frame registers)

unfoldable pub in_rows : Instruction → List ℕ → Effect
in_rows i registers = effect_of (rows (i ∷ [])) [] (one_frame registers)

-- Frame 0 stands at instruction j of function 0, frame 1 at instruction i of function 1, with these registers; its region
-- parameter, of type T, leads to region r. Page 1 is region 0's, page 2 region 1's.
unfoldable pub in_pair : Tree variable → (j i : Instruction) → List ℕ → ℕ → Effect
in_pair T j i registers r =
    effect_of (pair T (j ∷ []) (i ∷ [])) [] (state_of (frame 0 0 [] (0 ∷ []) ∷ frame 1 0 registers (r ∷ []) ∷ []) (0 ∷ 1 ∷ 2 ∷ []))

-- of `blobs`: the untyped region is live region 3 and has page 1, the typed one is 1 and has page 2
abbrev pub blob_frame : List ℕ → Frame
blob_frame registers = frame 0 0 registers (3 ∷ 1 ∷ [])

abbrev pub blob_state : List ℕ → View
blob_state registers = state_of (blob_frame registers ∷ []) (0 ∷ 4 ∷ 2 ∷ [])

-- the step of instruction i there
unfoldable pub in_blobs : Instruction → List ℕ → Effect
in_blobs i registers = effect_of (blobs (i ∷ [])) [] (blob_state registers)
