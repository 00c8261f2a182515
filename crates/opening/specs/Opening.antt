-- Opening's answer as rules' `Opened`, and `open_at` case by case, as the code goes. Assumes nothing.
use Rattle.std.specs.Prelude.{◌≡◌, refl, ◌≢◌, ℕ, ◌*◌, ◌≤◌, eqb, length, Result, Ok, Err}
use Rattle.std.proofs.Common.{sym, ◌∙◌, subst, arith}
use Rattle.std.proofs.Math.Path.{ap}
use Rattle.words.specs.Bytes.{Bytes}
use Rattle.words.specs.Choose.{cond_eq, cond_ne}
use Rattle.rules.specs.Limits.{state_bytes, most_entries, most_regions, bad_input, bad_length}
use Rattle.rules.specs.File.{parameters_of}
use Rattle.rules.specs.Walk.{whole}
use Rattle.rules.specs.Records.{head_of}
use Rattle.rules.specs.Decode.{function_of, module_of}
use Rattle.rules.specs.Verdict.{verdict_of, IsAccepted}
use Rattle.rules.specs.Host as rules
use Rattle.rules.specs.declared.PageRange.{PageRange}
use Rattle.rules.specs.declared.Record.{Record}
use Rattle.rules.specs.declared.refusal.Refusal.{Refusal}
use Rattle.rules.specs.Refusals.{Verdict, number_of, place_of}
use Rattle.rules.specs.Refusals as verdicts
use Rattle.typing.specs.Accepted.{accepted}
use Rattle.guarantees.specs.Verdicts.{on_refused, on_accepted}

-- the answer, where the bytes left are t
abbrev pub opened_meant : Result (Unit {0}) Refusal → Bytes → rules.Opened
opened_meant (Ok x) t = rules.opened t
opened_meant (Err e) t = rules.not_opened (number_of e) (place_of e)

-- ---- what refusals 1 to 4 say of function 0

module _ (f : Bytes) {x : Record} (e : x ≡ head_of f (whole f) 0) where
  pub params_are : {n : ℕ} → n ≡ parameters_of x → n ≡ ((module_of f).function 0).params
  unfolding module_of function_of
  params_are d = d ∙ ap parameters_of e

  pub locals_are : {n : ℕ} → n ≡ x.b → n ≡ ((module_of f).function 0).locals
  unfolding module_of function_of
  locals_are d = d ∙ ap (λ (y : Record). y.b) e

module _ (f : Bytes) (acc : IsAccepted (verdict_of f)) where
  pub params_few : {n : ℕ} → n ≡ ((module_of f).function 0).params → n ≤ most_entries
  params_few e = let w = accepted f acc in rw e (w.ranges 0 w.tables.some).params

  pub locals_few : {n : ℕ} → n ≡ ((module_of f).function 0).locals → n ≤ most_regions
  locals_few e = let w = accepted f acc in let r = (w.ranges 0 w.tables.some).regions in omega arith

-- ---- case by case

module _ (R : PageRange) (f xs s : Bytes) where
  pub open_refused : {v : Verdict} {n p : ℕ} → v ≡ verdict_of f → v ≡ verdicts.Refused n p → rules.not_opened n p ≡ rules.open_at R f xs s
  unfolding rules.open_at
  open_refused e d = on_refused rules.not_opened f _ e d

  module _ (acc : IsAccepted (verdict_of f)) where
    open_accepted : rules.open_at R f xs s ≡ rules.unless rules.not_opened (eqb (length xs) (4 * ((module_of f).function 0).params)) bad_input
        (rules.unless rules.not_opened (eqb (length s) state_bytes) bad_length (rules.opened (rules.first_at R (module_of f) xs)))
    unfolding rules.open_at
    open_accepted = on_accepted rules.not_opened f _ acc

    module _ {n : ℕ} (params : n ≡ ((module_of f).function 0).params) where
      pub open_arguments : length xs ≢ 4 * n → rules.not_opened bad_input 0 ≡ rules.open_at R f xs s
      open_arguments h = sym (open_accepted ∙ cond_ne _ _ (λ e. h (e ∙ ap (λ (i : ℕ). 4 * i) (sym params))))

      pub open_length : length xs ≡ 4 * n → length s ≢ state_bytes → rules.not_opened bad_length 0 ≡ rules.open_at R f xs s
      open_length e h = sym (open_accepted ∙ cond_eq _ _ (e ∙ ap (λ (i : ℕ). 4 * i) params) ∙ cond_ne _ _ h)

      pub open_opened : length xs ≡ 4 * n → length s ≡ state_bytes → rules.opened (rules.first_at R (module_of f) xs) ≡ rules.open_at R f xs s
      open_opened e d = sym (open_accepted ∙ cond_eq _ _ (e ∙ ap (λ (i : ℕ). 4 * i) params) ∙ cond_eq _ _ d)

-- ---- the contract from the answer

-- the answer is o, and t is what it leaves of s
pub record OpenedBy (r : Result (Unit {0}) Refusal) (s t : Bytes) (o : rules.Opened) : Type 0 where
  pub answer : opened_meant r t ≡ o
  pub left : t ≡ rules.left_opened o s

pub opened_refused : {e : Refusal} {s t : Bytes} {o : rules.Opened} → t ≡ s → rules.not_opened (number_of e) (place_of e) ≡ o → OpenedBy (Err e) s t o
opened_refused {e} {s} {t} {o} d h = subst (λ (o : rules.Opened). OpenedBy (Err e) s t o) h (record { answer = refl; left = d })

pub opened_made : {s t u : Bytes} {o : rules.Opened} → t ≡ u → rules.opened u ≡ o → OpenedBy (Ok tt) s t o
opened_made {s} {t} {u} e d = subst (λ (o : rules.Opened). OpenedBy (Ok tt) s t o) d (record { answer = ap rules.opened e; left = e })
