-- The program's text from the code's answers: which line each gives, and how the lines stand in the bytes lent for them. Assumes nothing.
use Rattle.std.specs.Prelude.{◌≡◌, refl, [], ◌++◌, ℕ, ◌≤◌, length, replicate, Result, Ok, Err}
use Rattle.std.proofs.Common.{sym, ◌∙◌}
use Rattle.std.proofs.Math.Path.{ap}
use Rattle.words.specs.Bytes.{Bytes}
use Rattle.rules.specs.Limits.{state_bytes, output_bytes}
use Rattle.rules.specs.Verdict.{verdict_of}
use Rattle.rules.specs.Host as rules
use Rattle.rules.specs.declared.refusal.Refusal.{Refusal}
use Rattle.rules.specs.declared.Counts.{Counts}
use Rattle.rules.specs.Refusals.{Verdict, number_of, place_of, verdict_meant}
use Rattle.opening.specs.Opening.{OpenedBy}
use Rattle.host.specs.Going.{went_meant, WentBy}
use Rattle.host.specs.declared.go.Went.{Went}
use Rattle.run.specs.Outcomes.{outcome_meant}
use Rattle.run.specs.declared.Outcome.{Outcome}
use Rattle.run.specs.declared.Outcome.TheVariants.{Running, Ended, Stopped}
use Rattle.lines.specs.Lines.{verdict_line, refused_line, went_line, program_budget, second_line, printed}
use Rattle.lines.specs.Writing.{Puts, puts_length}
use Rattle.lines.specs.Cases.{refused_alone}

-- ---- the second line

-- the line of an answer of the code: it says nothing of the bytes left
abbrev pub answer_line : Result Went Refusal → Bytes
answer_line w = went_line (went_meant w [] [])

answer_line_law : (w : Result Went Refusal) (t u : Bytes) → went_line (went_meant w t u) ≡ answer_line w
answer_line_law (Ok w) t u = of_outcome w.outcome
  where
    of_outcome : (x : Outcome) → went_line (rules.went (outcome_meant x) w.steps t u) ≡ went_line (rules.went (outcome_meant x) w.steps [] [])
    of_outcome Running = refl
    of_outcome (Ended x) = refl
    of_outcome (Stopped n) = refl
answer_line_law (Err e) t u = refl

module _ (f form : Bytes) {t : Bytes} where
  pub second_refused : {e : Refusal} → OpenedBy (Err e) (replicate state_bytes 0) t (rules.open_of f [] (replicate state_bytes 0))
      → second_line f form (rules.open_of f [] (replicate state_bytes 0)) ≡ refused_line (number_of e) (place_of e)
  unfolding second_line
  second_refused l = ap (second_line f form) (sym l.answer)

  pub second_went : OpenedBy (Ok tt) (replicate state_bytes 0) t (rules.open_of f [] (replicate state_bytes 0))
      → {w : Result Went Refusal} {q u : Bytes} → WentBy w t q (replicate output_bytes 0) u (rules.go_of f form t (replicate output_bytes 0) program_budget)
      → second_line f form (rules.open_of f [] (replicate state_bytes 0)) ≡ answer_line w
  unfolding second_line
  second_went l {w} {q} {u} g = ap (second_line f form) (sym l.answer) ∙ ap went_line (sym g.answer) ∙ answer_line_law w q u

-- ---- both lines

pub printed_accepted : (f form : Bytes) {v : Result Counts Refusal} {c : Counts} → verdict_meant v ≡ verdict_of f → v ≡ Ok c
    → printed f form ≡ verdict_line (verdict_meant v) ++ second_line f form (rules.open_of f [] (replicate state_bytes 0))
unfolding printed
printed_accepted f form {v} e d =
    ap (λ (x : Verdict). verdict_line x ++ rules.on_verdict (λ n p. []) x (second_line f form (rules.open_of f [] (replicate state_bytes 0)))) (sym e)
    ∙ ap (λ (x : Result Counts Refusal). verdict_line (verdict_meant v) ++ rules.on_verdict (λ n p. []) (verdict_meant x) (second_line f form (rules.open_of f [] (replicate state_bytes 0)))) d

pub printed_refused : (f form : Bytes) {v : Result Counts Refusal} {d : Refusal} → verdict_meant v ≡ verdict_of f → v ≡ Err d → printed f form ≡ verdict_line (verdict_meant v)
printed_refused f form e d = refused_alone f form (sym e ∙ ap verdict_meant d) ∙ ap (λ (x : Result Counts Refusal). verdict_line (verdict_meant x)) (sym d)

-- a text that was put at the start ends inside the bytes, which keep their length
pub puts_inside : {s t text : Bytes} {r : ℕ} → Puts s t 0 r text → r ≤ length s → Puts s t 0 r text × (r ≤ length t)
puts_inside p h = (p, rw (puts_length p) h)
