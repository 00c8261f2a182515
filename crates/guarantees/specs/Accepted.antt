-- What an accepted file gives to the code that reads its tables: what refusals 1 to 4 have made sure of, and that the counts of the
-- verdict are the module's. Assumes nothing but that the verdict accepts, where it says so.
use Rattle.std.specs.Prelude.{◌≡◌, List, ℕ}
use Rattle.std.proofs.Common.{sym, ap, ◌∙◌, subst, arith}
use Rattle.words.specs.Bytes.{Bytes}
use Rattle.rules.specs.Decode.{module_of}
use Rattle.rules.specs.Verdict.{instructions, verdict_of, IsAccepted}
use Rattle.rules.specs.Refusals.{Verdict, Accepted, Refused}
use Rattle.typing.specs.Walk.{Fits}
use Rattle.typing.specs.Accepted.{framed, records_fit, counts}
use Rattle.walk.specs.Tables.{tables_of}
use Rattle.walk.specs.declared.tables.Tables.{Tables}
use Rattle.terms.specs.Extents.{Counted}
use Rattle.functions.specs.Functions as functions
use Rattle.positions.specs.Table.{Ranged}
use Rattle.positions.specs.Maps.{Narrow}
use Rattle.stack.specs.Facts as stack
use Rattle.checker.specs.Ranges.{known, ranged}
use Rattle.checker.specs.Narrow.{narrow}

-- ---- the code's verdict

-- a verdict `Accepted` is acceptance
pub says_accepted : (f : Bytes) {v : Verdict} {n k c i : ℕ} → v ≡ verdict_of f → v ≡ Accepted n k c i → IsAccepted (verdict_of f)
says_accepted f e q = subst IsAccepted (sym q ∙ e) tt

-- ---- its counts

terms_in : Verdict → ℕ
terms_in (Accepted n k c i) = n
terms_in (Refused n p) = 0

structs_in : Verdict → ℕ
structs_in (Accepted n k c i) = k
structs_in (Refused n p) = 0

functions_in : Verdict → ℕ
functions_in (Accepted n k c i) = c
functions_in (Refused n p) = 0

instructions_in : Verdict → ℕ
instructions_in (Accepted n k c i) = i
instructions_in (Refused n p) = 0

-- terms, names, functions and instructions are those of the module
pub record CountsAre (f : Bytes) (n k c i : ℕ) : Type 0 where
  pub terms : n ≡ (module_of f).terms
  pub structs : k ≡ (module_of f).structs
  pub functions : c ≡ (module_of f).functions
  pub instructions : i ≡ instructions (module_of f)

pub counts_are : (f : Bytes) {v : Verdict} {n k c i : ℕ} → v ≡ verdict_of f → v ≡ Accepted n k c i → CountsAre f n k c i
unfolding terms_in structs_in functions_in instructions_in
counts_are f e q =
    let d = sym q ∙ e ∙ counts f (says_accepted f e q) in
    record { terms = ap terms_in d; structs = ap structs_in d; functions = ap functions_in d; instructions = ap instructions_in d }

-- ---- the tables of an accepted file

-- what the code is handed of a file with n terms, k structs, c functions and these starts
pub record Given (f : Bytes) (t : Tables) : Type 0 where
  pub functions : functions.Known f t.walk.terms t.walk.names t.walk.functions t.starts
  pub frames : stack.Known f t.starts t.walk.functions
  pub counted : Counted f t.walk.terms t.walk.names
  pub ranged : Ranged f t.walk.terms
  pub narrow : Narrow f

-- "1 to 64 blocks": no place of such a file is out of range
pub stack_known : (f : Bytes) {n k c : ℕ} {starts : List ℕ} → functions.Known f n k c starts → stack.Known f starts c
stack_known f h = let l = h.short in record { short = omega arith; table = h.starts; count = h.functions }

pub given : (f : Bytes) → IsAccepted (verdict_of f) → (t : Tables) → t ≡ tables_of f → Given f t
given f a t e =
    let w = framed f a in
    let ok : Fits f = records_fit f w in
    let h = known f ok w.file_length t e in
    record {
      functions = h;
      frames = stack_known f h;
      counted = h.counted;
      ranged = ranged f ok t.walk.terms h.counted.terms.are;
      narrow = narrow f ok;
    }
