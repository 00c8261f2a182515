-- Document 01, "From the input", "From the state": opening, going on, the state test and the reader of states, on bytes. Each
-- gives its one answer and the bytes that it leaves, for all inputs; refusals come in the order 1 to 8, 9, 20, 21, 22. The definitions
-- are those of a machine with any page range (`go_at`, ..); document 01's machine has them all but page 0 (`go_of`, ..). Assumes nothing.
use Rattle.std.specs.Prelude.{Bool, cond, ◌&&◌, List, [], ◌∷◌, ℕ, zero, suc, ◌+◌, ◌*◌, ◌/◌, ◌%◌, eqb, ltb, leb, length, get_or, replicate}
use Rattle.words.specs.Bytes.{Bytes, number}
use Rattle.rules.specs.Limits.{page_bytes, most_form, output_bytes, state_bytes, bad_input, bad_length, bad_state, not_running}
use Rattle.words.specs.Decide.{does}
use Rattle.rules.specs.Module.{Module}
use Rattle.rules.specs.Flat.{flat, count}
use Rattle.rules.specs.Decode.{module_of}
use Rattle.rules.specs.Verdict.{verdict_of}
use Rattle.rules.specs.State.{all_pages, View, view, written, put_range, put_frames, put_frame, page_place}
use Rattle.rules.specs.Heap.{type_of}
use Rattle.rules.specs.Step.{lowest_numbers}
use Rattle.rules.specs.Run.{Trace, no_steps, run_of, stuck_steps}
use Rattle.rules.specs.StateTest.{dec_passes}
use Rattle.rules.specs.declared.PageRange.{PageRange}
use Rattle.rules.specs.Refusals.{Verdict, Accepted, Refused}

-- ---- answers

-- "Going on returns ended with value, stopped, or running"
pub data Outcome : Type 0 where
  ended : (value : ℕ) → Outcome
  stopped : (number : ℕ) → Outcome
  running : Outcome

-- What going on answers, with the steps taken and the state and output that it leaves. A refused call leaves both as they were.
-- The last has no number: no definition turns a stuck step into an answer.
pub data Went : Type 0 where
  refused : (number place : ℕ) → Went
  went : (outcome : Outcome) (steps : ℕ) (state output : Bytes) → Went
  no_answer : Went

pub data Opened : Type 0 where
  not_opened : (number place : ℕ) → Opened
  opened : (state : Bytes) → Opened

pub data Tested : Type 0 where
  failed : (number place : ℕ) → Tested
  passed : Tested

-- the part of the lent state that is an object: where it starts and its size; a part of size 0 is empty
pub record Part : Type 0 where
  pub offset : ℕ
  pub size : ℕ

abbrev pub empty_part : Part
empty_part = record { offset = 0; size = 0 }

-- ---- the order of refusals

-- 1 to 8 come first, with their place
abbrev pub on_verdict : {B : Type 0} → (ℕ → ℕ → B) → Verdict → B → B
on_verdict refuse (Accepted t n f i) b = b
on_verdict refuse (Refused n p) b = refuse n p

-- refusal n, at place 0, where the test fails
abbrev pub unless : {B : Type 0} → (ℕ → ℕ → B) → Bool → ℕ → B → B
unless refuse test n b = cond test b (refuse n 0)

-- The calls are those of a machine with page range R, which its states say too. A state of a machine with another range is refused with 21.
abbrev pub ranged : PageRange → Bytes → Bool
ranged R s = eqb (view s).range.below R.below && eqb (view s).range.above R.above

-- "9 .. a form over 4,096 bytes", "20 state not 24,576 bytes, or output not 4,096 when going on", "21 state test fails",
-- "22 already ended or stopped"
abbrev pub go_with : {B : Type 0} → (ℕ → ℕ → B) → PageRange → Module → (form state output : Bytes) → B → B
go_with refuse R m form s o b =
    unless refuse (leb (length form) most_form) bad_input
    (unless refuse (eqb (length s) state_bytes && eqb (length o) output_bytes) bad_length
    (unless refuse (does (dec_passes m s) && ranged R s) bad_state
    (unless refuse (eqb (view s).status 0) not_running b)))

-- ---- going on

unfoldable pub outcome_of : View → Outcome
outcome_of v = cond (eqb v.status 0) running (cond (eqb v.status 1) (ended v.result) (stopped v.status))

unfoldable pub went_of : Trace → Went
went_of r = cond (eqb (stuck_steps r.steps) 0) (went (outcome_of (view r.state)) (length r.steps) r.state r.output) no_answer

-- GOING ON
unfoldable pub go_at : PageRange → (file form state output : Bytes) (budget : ℕ) → Went
go_at R f form s o b = on_verdict refused (verdict_of f) (go_with refused R (module_of f) form s o (went_of (run_of (module_of f) form b s o)))

-- its trace: a refused call has no steps and changes nothing
unfoldable pub trace_at : PageRange → (file form state output : Bytes) (budget : ℕ) → Trace
trace_at R f form s o b = on_verdict (λ n p. no_steps s o) (verdict_of f) (go_with (λ n p. no_steps s o) R (module_of f) form s o (run_of (module_of f) form b s o))

-- ---- opening

-- "arguments .. 4 bytes for each parameter of function 0"; the other registers start as zero
unfoldable pub first_register : Module → Bytes → ℕ → ℕ
first_register m xs i = cond (ltb i (m.function 0).params) (number 4 xs (4 * i)) 0

-- "Opening makes one such frame, function 0 at instruction 0 with the arguments; no page is owned and all page bytes are zero"
unfoldable pub first_at : PageRange → Module → Bytes → Bytes
first_at R m xs = written (put_range R ∷ put_frames 1 ∷ put_frame 0 0 (λ i. get_or (lowest_numbers (m.function 0).locals []) i 0) (first_register m xs) ∷ []) (replicate state_bytes 0)

-- OPENING: it looks at no byte of the old state
unfoldable pub open_at : PageRange → (file arguments state : Bytes) → Opened
open_at R f xs s =
    on_verdict not_opened (verdict_of f)
    (unless not_opened (eqb (length xs) (4 * ((module_of f).function 0).params)) bad_input
    (unless not_opened (eqb (length s) state_bytes) bad_length (opened (first_at R (module_of f) xs))))

-- ---- THE STATE TEST
unfoldable pub test_at : PageRange → (file state : Bytes) → Tested
test_at R f s =
    on_verdict failed (verdict_of f)
    (unless failed (eqb (length s) state_bytes) bad_length
    (unless failed (does (dec_passes (module_of f) s) && ranged R s) bad_state passed))

-- ---- the reader of states

-- "for an address, also one inside an object, the part of the lent memory that is the whole object there, used or free, or an
-- empty part": address a, whose page has this owner. Document 02, P3: "in untyped pages .. the reader's part is empty": no primitives
unfoldable pub object_in : Module → View → (address owner : ℕ) → Part
object_in m v a zero = empty_part
object_in m v a (suc r) =
    let L = flat m (type_of m v.fn v.map v.frames r) in
    let s = L.size in
    let j = a % page_bytes / s in
    cond ((ltb 0 s && ltb 0 (count L)) && leb (s * suc j) page_bytes) (record { offset = page_place (a / page_bytes) + s * j; size = s }) empty_part

-- "also when module or state is refused"
unfoldable pub object_at : PageRange → (file state : Bytes) (address : ℕ) → Part
object_at R f s a =
    on_verdict (λ n p. empty_part) (verdict_of f)
    (cond (does (dec_passes (module_of f) s) && ranged R s) (object_in (module_of f) (view s) a ((view s).owner (a / page_bytes))) empty_part)

-- ---- DOCUMENT 01'S MACHINE: it may own every page but page 0

abbrev pub go_of : (file form state output : Bytes) (budget : ℕ) → Went
go_of = go_at all_pages

abbrev pub trace_of : (file form state output : Bytes) (budget : ℕ) → Trace
trace_of = trace_at all_pages

abbrev pub first_state : Module → Bytes → Bytes
first_state = first_at all_pages

abbrev pub open_of : (file arguments state : Bytes) → Opened
open_of = open_at all_pages

abbrev pub test_of : (file state : Bytes) → Tested
test_of = test_at all_pages

abbrev pub object_of : (file state : Bytes) (address : ℕ) → Part
object_of = object_at all_pages

-- ---- what a call leaves of the state and of the output that it was lent

abbrev pub left_state : Went → Bytes → Bytes
left_state (refused n p) s = s
left_state (went a n t u) s = t
left_state no_answer s = s

abbrev pub left_output : Went → Bytes → Bytes
left_output (refused n p) o = o
left_output (went a n t u) o = u
left_output no_answer o = o

abbrev pub left_opened : Opened → Bytes → Bytes
left_opened (not_opened n p) s = s
left_opened (opened t) s = t

-- ---- the numbers of the C interface: for each answer the kind (0 refused, 1 accepted, opened, passed or found, 2 ended,
-- 3 stopped, 4 running) and its values

abbrev pub check_numbers : Verdict → List ℕ
check_numbers (Accepted t n f i) = 1 ∷ t ∷ n ∷ (f * 65536 + i) ∷ []
check_numbers (Refused n p) = 0 ∷ n ∷ p ∷ 0 ∷ []

abbrev pub go_numbers : Went → List ℕ
go_numbers (refused n p) = 0 ∷ n ∷ p ∷ 0 ∷ []
go_numbers (went (ended x) n s o) = 2 ∷ x ∷ n ∷ 0 ∷ []
go_numbers (went (stopped i) n s o) = 3 ∷ i ∷ n ∷ 0 ∷ []
go_numbers (went running n s o) = 4 ∷ 0 ∷ n ∷ 0 ∷ []
go_numbers no_answer = []

abbrev pub open_numbers : Opened → List ℕ
open_numbers (not_opened n p) = 0 ∷ n ∷ p ∷ 0 ∷ []
open_numbers (opened s) = 1 ∷ 0 ∷ 0 ∷ 0 ∷ []

abbrev pub test_numbers : Tested → List ℕ
test_numbers (failed n p) = 0 ∷ n ∷ p ∷ 0 ∷ []
test_numbers passed = 1 ∷ 0 ∷ 0 ∷ 0 ∷ []

unfoldable pub part_numbers : Part → List ℕ
part_numbers p = cond (eqb p.size 0) (0 ∷ 0 ∷ 0 ∷ 0 ∷ []) (1 ∷ p.offset ∷ p.size ∷ 0 ∷ [])
