-- Calls of `go_at` in turn, and so of `go`, each with the state that the last one left: by its contract alone they are a list of calls of
-- demand 3, so that its claim is about what the code does. Assumes nothing.
use Rattle.std.specs.Prelude.{◌≡◌, List, [], ◌∷◌, ℕ, ◌+◌, ◌<◌, Result, Ok, Err}
use Rattle.std.proofs.Math.Path.{refl, ap}
use Rattle.std.proofs.Common.{sym, ◌∙◌, subst, inl}
use native.Mathlib.Omega.{arith}
use Rattle.std.proofs.Math.ListN.{length, length-append}
use Rattle.words.specs.Bytes.{Bytes}
use Rattle.rules.specs.Verdict.{verdict_of, IsAccepted}
use Rattle.rules.specs.State.{all_pages}
use Rattle.rules.specs.Host as rules
use Rattle.rules.specs.Calls.{Call, go_call, trace_call, Lent, steps_of, final_of, Answered, was_refused, was_run, AllAnswered, Start}
use Rattle.rules.specs.Claim.{Claim}
use Rattle.rules.specs.declared.PageRange.{PageRange}
use Rattle.soundness.specs.Demand3.{demand_at}
use Rattle.host.specs.Going.{went_meant, WentBy}
use Rattle.host.specs.declared.go.Went.{Went}
use Rattle.rules.specs.declared.refusal.Refusal.{Refusal}
use Rattle.host.specs.declared.twice.Both.{Both}

-- ---- a list of calls

-- what a call of `go_at` gives back: its answer, and the output as it left it
pub record Given : Type 0 where
  pub answer : Result Went Refusal
  pub output : Bytes

-- the steps that an answer reports, and those of all answers
abbrev pub steps_said : Result Went Refusal → ℕ
steps_said (Ok w) = w.steps
steps_said (Err e) = 0

unfoldable pub all_steps : List Given → ℕ
all_steps [] = 0
all_steps (g ∷ given) = steps_said g.answer + all_steps given

-- the steps of the definition's answer
abbrev steps_in : rules.Went → ℕ
steps_in (rules.refused n p) = 0
steps_in (rules.went a n t u) = n
steps_in rules.no_answer = 0

said : (r : Result Went Refusal) (t u : Bytes) → steps_said r ≡ steps_in (went_meant r t u)
said (Ok w) t u = refl
said (Err e) t u = refl

-- ---- of the machine with page range R

module _ (R : PageRange) where
  -- "Each call gets the state, byte for byte, as the last one left it": these calls gave this, from state s to state t.
  pub data Called : List Call → List Given → (s t : Bytes) → Type 0 where
    none : {s : Bytes} → Called [] [] s s
    next : {c : Call} {calls : List Call} {g : Given} {given : List Given} {s t u : Bytes}
        → WentBy g.answer s t c.output g.output (go_call R c s) → Called calls given t u → Called (c ∷ calls) (g ∷ given) s u

  -- each answer, and each output left, is that of the definition at its turn
  abbrev pub AllGiven : List Call → List Given → Bytes → Type 0
  AllGiven [] [] s = Unit {0}
  AllGiven [] (g ∷ given) s = ⊥
  AllGiven (c ∷ calls) [] s = ⊥
  AllGiven (c ∷ calls) (g ∷ given) s = WentBy g.answer s (rules.left_state (go_call R c s) s) c.output g.output (go_call R c s) × AllGiven calls given (rules.left_state (go_call R c s) s)

  -- What calls of `go_at` on the module of file f gave and left is what demand 3 claims of them.
  pub record Meets (f : Bytes) (calls : List Call) (given : List Given) (s t : Bytes) : Type 0 where
    -- the claim holds of the calls: among other things no step was stuck
    pub claim : Claim R f calls s
    -- the state left is the last of the claim, and passes the test
    pub state : t ≡ final_of R calls s
    pub test : rules.test_at R f t ≡ rules.passed
    -- each answer is the definition's, and the steps that they report are those of the claim
    pub answers : AllGiven calls given s
    pub counted : all_steps given ≡ length (steps_of R calls s)

  called_final : {calls : List Call} {given : List Given} {s t : Bytes} → Called calls given s t → t ≡ final_of R calls s
  unfolding final_of
  called_final none = refl
  called_final (next {calls = calls} w h) = called_final h ∙ ap (final_of R calls) w.state

  called_given : {calls : List Call} {given : List Given} {s t : Bytes} → Called calls given s t → AllGiven calls given s
  called_given none = tt
  called_given (next {c} {calls} {g} {given} {s} w h) =
      (subst (λ (x : Bytes). WentBy g.answer s x c.output g.output (go_call R c s)) w.state w, subst (λ (x : Bytes). AllGiven calls given x) w.state (called_given h))

  answered_steps : {c : Call} {s : Bytes} → Answered R c s → steps_in (go_call R c s) ≡ length (trace_call R c s).steps
  answered_steps (was_refused n p e z) = ap steps_in e ∙ sym (ap length z)
  answered_steps (was_run a e h) = ap steps_in e

  called_steps : {calls : List Call} {given : List Given} {s t : Bytes} → Called calls given s t → AllAnswered R calls s → all_steps given ≡ length (steps_of R calls s)
  unfolding all_steps steps_of
  called_steps none a = refl
  called_steps (next {c} {calls} {g} {given} {s} {t} w h) a =
      let e : steps_said g.answer ≡ length (trace_call R c s).steps = said g.answer t g.output ∙ ap steps_in w.answer ∙ answered_steps a.0 in
      let i : all_steps given ≡ length (steps_of R calls t) = called_steps h (subst (λ (x : Bytes). AllAnswered R calls x) (sym w.state) a.1) in
      let j : length (steps_of R calls t) ≡ length (steps_of R calls (rules.left_state (go_call R c s) s)) = ap (λ (x : Bytes). length (steps_of R calls x)) w.state in
      let k = length-append (trace_call R c s).steps (steps_of R calls (rules.left_state (go_call R c s) s)) in
      omega arith

  -- of an accepted file, from a start
  pub called_meets : R.below < 256 → R.above < 256 → (f : Bytes) → IsAccepted (verdict_of f) → {calls : List Call} {given : List Given} {s t : Bytes}
      → Start R f s → Lent R f calls s → Called calls given s t → Meets f calls given s t
  called_meets below above f acc {calls} {given} {s} {t} b l h =
      let k : Claim R f calls s = demand_at R below above f acc calls s b l in
      let e = called_final h in
      record { claim = k; state = e; test = ap (rules.test_at R f) e ∙ k.test; answers = called_given h; counted = called_steps h k.answers }

-- ---- two calls

-- The first call's answer is `goes` of state s, the second's is `goes_on` of the state which that leaves; what they leave of the state
-- is t, of their outputs o and p it is u and v.
pub record WentTwice (r : Both) (s t o u p v : Bytes) (goes goes_on : Bytes → rules.Went) : Type 0 where
  pub first : WentBy r.first s (rules.left_state (goes s) s) o u (goes s)
  pub second : WentBy r.second (rules.left_state (goes s) s) t p v (goes_on (rules.left_state (goes s) s))

pub went_twice : {r : Both} {s m t o u p v : Bytes} {goes goes_on : Bytes → rules.Went}
    → WentBy r.first s m o u (goes s) → WentBy r.second m t p v (goes_on m) → WentTwice r s t o u p v goes goes_on
went_twice {r} {s} {m} {t} {o} {u} {p} {v} {goes} {goes_on} a b = record {
  first = subst (λ (x : Bytes). WentBy r.first s x o u (goes s)) a.state a;
  second = subst (λ (x : Bytes). WentBy r.second x t p v (goes_on x)) a.state b;
}

-- the contract of `go_twice` is that of a list of two calls, which meets the claim
pub twice_called : {r : Both} {c d : Call} {s t u v : Bytes} → WentTwice r s t c.output u d.output v (go_call all_pages c) (go_call all_pages d)
    → Called all_pages (c ∷ d ∷ []) (record { answer = r.first; output = u } ∷ record { answer = r.second; output = v } ∷ []) s t
twice_called w = next w.first (next w.second none)

pub twice_meets : (f : Bytes) → IsAccepted (verdict_of f) → {r : Both} {c d : Call} {s t u v : Bytes} → c.file ≡ f → d.file ≡ f → Start all_pages f s
    → WentTwice r s t c.output u d.output v (go_call all_pages c) (go_call all_pages d)
    → Meets all_pages f (c ∷ d ∷ []) (record { answer = r.first; output = u } ∷ record { answer = r.second; output = v } ∷ []) s t
twice_meets f acc e d b w = called_meets all_pages (omega arith) (omega arith) f acc b (inl e, (inl d, tt)) (twice_called w)
