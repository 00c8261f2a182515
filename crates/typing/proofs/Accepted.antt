-- The verdict accepts a file exactly when all the rules hold of it. Assumes nothing.
use Rattle.std.specs.Prelude.{◌≡◌, true, cond, ◌↔◌, [], ◌∷◌, ℕ, ◌-◌, ◌*◌, ◌/◌, ◌%◌, ◌<◌, eqb}
use Rattle.std.proofs.Common.{sym, subst, arith, eq-eqb, ne_eqb}
use Rattle.std.proofs.Math.Decide.{ℕ_discrete}
use Rattle.words.specs.Bytes.{Bytes, list_of}
use Rattle.words.specs.Decide.{dec_both, dec_imp}
use Rattle.rules.specs.File.{blocks, place_right, check_right, block_test}
use Rattle.rules.specs.Decode.{module_of}
use Rattle.rules.specs.Decision.{dec_typed}
use Rattle.rules.specs.WellTyped.{EntryOk, WellTyped, dec_term, dec_struct, dec_function, dec_entry, dec_last}
use Rattle.rules.specs.Verdict.{term_test, struct_test, function_test, instruction_test, instruction_stage, last_stage, last_test, module_stages, accepted_as, verdict_of, IsAccepted}
use Rattle.typing.specs.Tests.{true_does}
use Rattle.typing.specs.Stages.{append_pass, each_pass}
use Rattle.typing.specs.Accepted.{Framed, framed, passes_accepted, records_fit, accepted}

block_passes : (f : Bytes) → Framed f → (p : ℕ) → p < 2 * blocks f → block_test f p ≡ true
unfolding block_test
block_passes f w p h = go (ℕ_discrete (p % 2) 0)
  where
    go : Dec (p % 2 ≡ 0) → cond (eqb (p % 2) 0) (place_right f (p / 2)) (check_right f (p / 2)) ≡ true
    go (yes z) = rw (eq-eqb (p % 2) 0 z) (w.places (p / 2) (omega arith))
    go (no z) = rw (ne_eqb (p % 2) 0 z) (w.checks (p / 2) (omega arith))

-- a file whose framing and records pass, and whose module is well typed, is accepted, with its module's counts
pub complete : (f : Bytes) → Framed f → WellTyped (module_of f) → verdict_of f ≡ accepted_as (module_of f)
unfolding module_stages term_test struct_test function_test instruction_test instruction_stage last_test
complete f w t =
    let m = module_of f in
    passes_accepted f (
      (λ j h. w.file_length),
      (
        block_passes f w,
        (
          records_fit f w,
          (
            (λ i h. true_does (dec_term m (m.term i)) (t.terms i h)),
            (
              (λ N h. true_does (dec_struct m N) (t.structs N h)),
              (
                (λ g h. true_does (dec_both (dec_function (m.function g)) (dec_imp (ℕ_discrete g 0) (dec_entry (m.function g))))
                    (t.functions g h, λ e. subst (λ (k : ℕ). EntryOk (m.function k)) (sym e) t.entry)),
                append_pass (list_of (instruction_stage f m) m.functions) (last_stage f m ∷ [])
                    (each_pass (instruction_stage f m) 0 m.functions (λ g h l i k. true_does (dec_typed m (m.function g) ((m.function g).code i)) (t.typed g i (omega arith) k)))
                    ((λ g h. true_does (dec_last ((m.function g).code ((m.function g).code_length - 1))) (t.lasts g h)), tt),
              ),
            ),
          ),
        ),
      ),
    )

-- the verdict accepts a file exactly when all the rules hold of it
pub accepted_iff : (f : Bytes) → IsAccepted (verdict_of f) ↔ (Framed f × WellTyped (module_of f))
accepted_iff f = (λ a. (framed f a, accepted f a), λ h. subst IsAccepted (sym (complete f h.0 h.1)) tt)
