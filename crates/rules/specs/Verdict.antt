-- Document 01, "From the input": the verdict on a file, made of stages in the order of the refusals' numbers; and which rules
-- a file breaks, and where. Assumes nothing.
use Rattle.std.specs.Prelude.{◌≡◌, Bool, false, List, [], ◌∷◌, ◌++◌, ℕ, ◌-◌, ◌<◌, ◌≤◌}
use Rattle.std.proofs.Math.Decide.{ℕ_discrete}
use Rattle.words.specs.Bytes.{Bytes, list_of}
use Rattle.words.specs.First.{sum_below}
use Rattle.words.specs.Decide.{does, dec_both, dec_imp}
use Rattle.rules.specs.Limits.{bad_type, bad_function, bad_instruction, bad_end}
use Rattle.rules.specs.Stages.{Stage, verdict}
use Rattle.rules.specs.File.{blocks, records, length_right, place_right, check_right, length_stage, block_stage}
use Rattle.rules.specs.Records.{record_test, record_stage}
use Rattle.rules.specs.Module.{Module, Function}
use Rattle.rules.specs.Decode.{struct_start, module_of, start_of, instruction_at}
use Rattle.rules.specs.Typing.{Typed}
use Rattle.rules.specs.Decision.{dec_typed}
use Rattle.rules.specs.WellTyped.{TermOk, dec_term, StructOk, dec_struct, FunctionOk, dec_function, EntryOk, dec_entry, Last, dec_last}
use Rattle.rules.specs.Refusals.{Verdict, Accepted, Refused}

-- "5 has the first record of the term or name": the terms, then the names
unfoldable pub term_test : Module → ℕ → Bool
term_test m t = does (dec_term m (m.term t))

unfoldable pub struct_test : Module → ℕ → Bool
struct_test m N = does (dec_struct m N)

abbrev pub term_stage : Module → Stage
term_stage m = record { count = m.terms; test = term_test m; number = λ t. bad_type; place = λ t. t }

abbrev pub struct_stage : Module → Stage
struct_stage m = record { count = m.structs; test = struct_test m; number = λ N. bad_type; place = struct_start m.terms }

-- "6 the function's record 7"; function 0 must also be an entry
unfoldable pub function_test : Module → ℕ → Bool
function_test m g = does (dec_both (dec_function (m.function g)) (dec_imp (ℕ_discrete g 0) (dec_entry (m.function g))))

abbrev pub function_stage : Bytes → Module → Stage
function_stage f m = record { count = m.functions; test = function_test m; number = λ g. bad_function; place = start_of f }

-- "7 an instruction breaks its rule": one stage for each function, so that lower places come first
unfoldable pub instruction_test : Module → Function → ℕ → Bool
instruction_test m F i = does (dec_typed m F (F.code i))

unfoldable pub instruction_stage : Bytes → Module → ℕ → Stage
instruction_stage f m g = let F = m.function g in record { count = F.code_length; test = instruction_test m F; number = λ i. bad_instruction; place = instruction_at f g }

-- "8 the last is neither 31 nor 34 (place: that record)"
unfoldable pub last_test : Module → ℕ → Bool
last_test m g = let F = m.function g in does (dec_last (F.code (F.code_length - 1)))

abbrev pub last_stage : Bytes → Module → Stage
last_stage f m = record { count = m.functions; test = last_test m; number = λ g. bad_end; place = λ g. instruction_at f g ((m.function g).code_length - 1) }

unfoldable pub module_stages : Bytes → Module → List Stage
module_stages f m = term_stage m ∷ struct_stage m ∷ function_stage f m ∷ (list_of (instruction_stage f m) m.functions ++ last_stage f m ∷ [])

-- "prints terms, names, functions, instructions"
unfoldable pub instructions : Module → ℕ
instructions m = sum_below m.functions (λ g. (m.function g).code_length)

abbrev pub accepted_as : Module → Verdict
accepted_as m = Accepted m.terms m.structs m.functions (instructions m)

-- refusals 5 to 8: "Lower numbers first, then lower places"
unfoldable pub module_rules : Bytes → Verdict
module_rules f = let m = module_of f in verdict (module_stages f m) (accepted_as m)

-- refusals 4 to 8
unfoldable pub record_rules : Bytes → Verdict
record_rules f = verdict (record_stage f ∷ []) (module_rules f)

-- the verdict on a file
unfoldable pub verdict_of : Bytes → Verdict
verdict_of f = verdict (length_stage f ∷ block_stage f ∷ []) (record_rules f)

-- the verdict is accepted
abbrev pub IsAccepted : Verdict → Type 0
IsAccepted (Accepted t n f i) = Unit {0}
IsAccepted (Refused n p) = ⊥

-- rule n is broken at place p: "A refusal returns number and place (block for 2 and 3, record for 4 to 8, else 0)"
pub data Broken (f : Bytes) : ℕ → ℕ → Type 0 where
  -- "1 file length. 2 place or count of a block, 3 its check"
  file_length : length_right f ≡ false → Broken f 1 0
  place : (i : ℕ) → i < blocks f → place_right f i ≡ false → Broken f 2 i
  check : (i : ℕ) → i < blocks f → check_right f i ≡ false → Broken f 3 i
  -- "4 record unknown, out of order, over a limit or naming nothing"; "A file that ends too soon has its record count as place"
  fault : (r : ℕ) → r ≤ records f → record_test f r ≡ false → Broken f 4 r
  -- "5 term or name ..": "5 has the first record of the term or name"
  term : (t : ℕ) → t < (module_of f).terms → ¬ TermOk (module_of f) ((module_of f).term t) → Broken f 5 t
  struct : (N : ℕ) → N < (module_of f).structs → ¬ StructOk (module_of f) N → Broken f 5 (struct_start (module_of f).terms N)
  -- "6 function ..": "6 the function's record 7"
  function : (g : ℕ) → g < (module_of f).functions → ¬ FunctionOk ((module_of f).function g) → Broken f 6 (start_of f g)
  entry : 0 < (module_of f).functions → ¬ EntryOk ((module_of f).function 0) → Broken f 6 (start_of f 0)
  -- "7 an instruction breaks its rule"
  instruction : (g i : ℕ) → g < (module_of f).functions → i < ((module_of f).function g).code_length
      → ¬ Typed (module_of f) ((module_of f).function g) (((module_of f).function g).code i) → Broken f 7 (instruction_at f g i)
  -- "8 the last is neither 31 nor 34 (place: that record)"
  last : (g : ℕ) → g < (module_of f).functions → ¬ Last (((module_of f).function g).code (((module_of f).function g).code_length - 1))
      → Broken f 8 (instruction_at f g (((module_of f).function g).code_length - 1))
