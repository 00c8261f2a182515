-- Document 01, "A refusal returns number and place (block for 2 and 3, record for 4 to 8, else 0)": the number and the place of each
-- refusal, the verdict on a module file, and what the code's answer says of it. Assumes nothing.
use Rattle.std.specs.Prelude.{◌≡◌, refl, cond, ℕ, ◌+◌, eqb, Result, Ok, Err}
use Rattle.std.proofs.Math.Path.{sym}
use Rattle.std.proofs.Common.{ap, ◌∙◌}
use Rattle.rules.specs.Limits.{bad_file, bad_block, bad_record, bad_type, bad_function, bad_instruction, bad_end, bad_input, bad_length, bad_state, not_running}
use Rattle.rules.specs.declared.Counts.{Counts}
use Rattle.rules.specs.declared.refusal.Refusal.{Refusal}
use Rattle.rules.specs.declared.refusal.Refusal.TheVariants.{FileLength, Block, BlockCheck, Record, Term, Function, Instruction, End, Input, Length, State, NotRunning}

-- The verdict: accepted, with terms, names, functions and instructions; or refused, with number and place.
pub data Verdict : Type 0 where
  Accepted : (terms names functions instructions : ℕ) → Verdict
  Refused : (number place : ℕ) → Verdict

abbrev pub number_of : Refusal → ℕ
number_of FileLength = bad_file
number_of (Block i) = bad_block
number_of (BlockCheck i) = bad_block + 1
number_of (Record r) = bad_record
number_of (Term r) = bad_type
number_of (Function r) = bad_function
number_of (Instruction r) = bad_instruction
number_of (End r) = bad_end
number_of Input = bad_input
number_of Length = bad_length
number_of State = bad_state
number_of NotRunning = not_running

abbrev pub place_of : Refusal → ℕ
place_of FileLength = 0
place_of (Block i) = i
place_of (BlockCheck i) = i
place_of (Record r) = r
place_of (Term r) = r
place_of (Function r) = r
place_of (Instruction r) = r
place_of (End r) = r
place_of Input = 0
place_of Length = 0
place_of State = 0
place_of NotRunning = 0

-- what the code's answer says
abbrev pub verdict_meant : Result Counts Refusal → Verdict
verdict_meant (Ok c) = Accepted c.terms c.names c.functions c.instructions
verdict_meant (Err e) = Refused (number_of e) (place_of e)

-- ---- no two answers say the same: the refusal follows from its number and place, and the answer from the verdict

refusal_of : (number place : ℕ) → Refusal
refusal_of n p =
    cond (eqb n bad_file) FileLength
    (cond (eqb n bad_block) (Block p)
    (cond (eqb n (bad_block + 1)) (BlockCheck p)
    (cond (eqb n bad_record) (Record p)
    (cond (eqb n bad_type) (Term p)
    (cond (eqb n bad_function) (Function p)
    (cond (eqb n bad_instruction) (Instruction p)
    (cond (eqb n bad_end) (End p)
    (cond (eqb n bad_input) Input
    (cond (eqb n bad_length) Length
    (cond (eqb n bad_state) State NotRunning))))))))))

refusal_back : (e : Refusal) → refusal_of (number_of e) (place_of e) ≡ e
unfolding refusal_of
refusal_back FileLength = refl
refusal_back (Block i) = refl
refusal_back (BlockCheck i) = refl
refusal_back (Record r) = refl
refusal_back (Term r) = refl
refusal_back (Function r) = refl
refusal_back (Instruction r) = refl
refusal_back (End r) = refl
refusal_back Input = refl
refusal_back Length = refl
refusal_back State = refl
refusal_back NotRunning = refl

answer_of : Verdict → Result Counts Refusal
answer_of (Accepted t n f i) = Ok (record { terms = t; names = n; functions = f; instructions = i })
answer_of (Refused n p) = Err (refusal_of n p)

answer_back : (r : Result Counts Refusal) → answer_of (verdict_meant r) ≡ r
unfolding answer_of
answer_back (Ok c) = refl
answer_back (Err e) = ap Err (refusal_back e)

pub refusal_one : (d e : Refusal) → number_of d ≡ number_of e → place_of d ≡ place_of e → d ≡ e
refusal_one d e n p = sym (refusal_back d) ∙ (λ i. refusal_of (n i) (p i)) ∙ refusal_back e

pub answer_one : (r q : Result Counts Refusal) → verdict_meant r ≡ verdict_meant q → r ≡ q
answer_one r q h = sym (answer_back r) ∙ ap answer_of h ∙ answer_back q
