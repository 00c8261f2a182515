-- Lines by computation; that nothing follows a refused module; and document 01's worked file: `accepted 1 0 1 2`, `ended 42 2`.
-- Assumes nothing.
use Rattle.std.specs.Prelude.{◌≡◌, refl, [], ◌∷◌, ◌++◌, ℕ, ◌*◌, eqb, length, replicate}
use Rattle.std.proofs.Common.{sym, ap, ◌∙◌, append-nil}
use Rattle.std.proofs.lemmas.List.{length-replicate}
use Rattle.words.specs.Bytes.{Bytes}
use Rattle.rules.specs.Limits.{state_bytes, bad_input, bad_length}
use Rattle.rules.specs.Decode.{module_of}
use Rattle.rules.specs.Verdict.{verdict_of}
use Rattle.rules.specs.Host.{ended, stopped, running, Went, refused, went, Opened, not_opened, opened, on_verdict, unless, first_state, open_of, open_at}
use Rattle.rules.specs.CasesFile as files
use Rattle.rules.specs.CasesMachine as machines
use Rattle.rules.specs.Refusals.{Verdict, Accepted, Refused}
use Rattle.soundness.specs.Worked.{same_file, worked_goes}
use Rattle.lines.specs.Lines.{digits_with, decimal, line_of, verdict_line, went_line, second_line, printed}

pub record Lines : Type 0 where
  -- "0", "42", "1000000", "4294967295"
  pub zero : decimal 0 ≡ 48 ∷ []
  pub two : decimal 42 ≡ 52 ∷ 50 ∷ []
  pub seven : decimal 1000000 ≡ 49 ∷ 48 ∷ 48 ∷ 48 ∷ 48 ∷ 48 ∷ 48 ∷ []
  pub ten : decimal 4294967295 ≡ 52 ∷ 50 ∷ 57 ∷ 52 ∷ 57 ∷ 54 ∷ 55 ∷ 50 ∷ 57 ∷ 53 ∷ []
  -- "accepted 1 0 1 2", "refused 4 7"
  pub accepts : verdict_line (Accepted 1 0 1 2) ≡ 97 ∷ 99 ∷ 99 ∷ 101 ∷ 112 ∷ 116 ∷ 101 ∷ 100 ∷ 32 ∷ 49 ∷ 32 ∷ 48 ∷ 32 ∷ 49 ∷ 32 ∷ 50 ∷ 10 ∷ []
  pub refuses : verdict_line (Refused 4 7) ≡ 114 ∷ 101 ∷ 102 ∷ 117 ∷ 115 ∷ 101 ∷ 100 ∷ 32 ∷ 52 ∷ 32 ∷ 55 ∷ 10 ∷ []
  -- "refused 9 0", "ended 42 2", "stopped 36 5", "running 10"
  pub refuses_form : went_line (refused 9 0) ≡ 114 ∷ 101 ∷ 102 ∷ 117 ∷ 115 ∷ 101 ∷ 100 ∷ 32 ∷ 57 ∷ 32 ∷ 48 ∷ 10 ∷ []
  pub ends : went_line (went (ended 42) 2 [] []) ≡ 101 ∷ 110 ∷ 100 ∷ 101 ∷ 100 ∷ 32 ∷ 52 ∷ 50 ∷ 32 ∷ 50 ∷ 10 ∷ []
  pub stops : went_line (went (stopped 36) 5 [] []) ≡ 115 ∷ 116 ∷ 111 ∷ 112 ∷ 112 ∷ 101 ∷ 100 ∷ 32 ∷ 51 ∷ 54 ∷ 32 ∷ 53 ∷ 10 ∷ []
  pub runs : went_line (went running 10 [] []) ≡ 114 ∷ 117 ∷ 110 ∷ 110 ∷ 105 ∷ 110 ∷ 103 ∷ 32 ∷ 49 ∷ 48 ∷ 10 ∷ []

pub lines : Lines
unfolding digits_with decimal line_of
lines = record {
  zero = refl;
  two = refl;
  seven = refl;
  ten = refl;
  accepts = refl;
  refuses = refl;
  refuses_form = refl;
  ends = refl;
  stops = refl;
  runs = refl;
}

-- after `refused` on the first line nothing follows
pub refused_alone : (f form : Bytes) {n p : ℕ} → verdict_of f ≡ Refused n p → printed f form ≡ verdict_line (Refused n p)
unfolding printed
refused_alone f form {n} {p} e =
    ap (λ (v : Verdict). verdict_line v ++ on_verdict (λ n p. []) v (second_line f form (open_of f [] (replicate state_bytes 0)))) e
    ∙ append-nil (verdict_line (Refused n p))

-- ---- the worked file

-- opening looks at no byte of the old state
open_same : (f xs s t : Bytes) → length s ≡ length t → open_of f xs s ≡ open_of f xs t
unfolding open_at
open_same f xs s t e =
    ap (λ (n : ℕ). on_verdict not_opened (verdict_of f) (unless not_opened (eqb (length xs) (4 * ((module_of f).function 0).params)) bad_input
    (unless not_opened (eqb n state_bytes) bad_length (opened (first_state (module_of f) xs))))) e

worked_verdict : verdict_of machines.worked_file ≡ Accepted 1 0 1 2
worked_verdict = ap verdict_of (sym same_file) ∙ (files.agrees).0

worked_opens : open_of machines.worked_file [] (replicate state_bytes 0) ≡ opened (first_state (module_of machines.worked_file) [])
worked_opens =
    open_same machines.worked_file [] (replicate state_bytes 0) (replicate state_bytes 7) (length-replicate {A = ℕ} state_bytes 0 ∙ sym (length-replicate {A = ℕ} state_bytes 7))
    ∙ (machines.worked).opens

pub worked_printed : printed machines.worked_file [] ≡ verdict_line (Accepted 1 0 1 2) ++ went_line (went (ended 42) 2 [] [])
unfolding printed second_line
worked_printed =
    ap (λ (v : Verdict). verdict_line v ++ on_verdict (λ n p. []) v (second_line machines.worked_file [] (open_of machines.worked_file [] (replicate state_bytes 0)))) worked_verdict
    ∙ ap (λ (o : Opened). verdict_line (Accepted 1 0 1 2) ++ second_line machines.worked_file [] o) worked_opens
    ∙ ap (λ (w : Went). verdict_line (Accepted 1 0 1 2) ++ went_line w) worked_goes
