-- Refusal 8 as the code tests it: document 01, "8 the last is neither 31 nor 34". Assumes nothing.
use Rattle.std.specs.Prelude.{◌≡◌, Bool, false, cond, ◌||◌, ℕ, ◌+◌, ◌-◌, ◌≤◌, eqb, get_or}
use Rattle.std.proofs.Math.Path.{refl, sym}
use Rattle.std.proofs.Common.{ap, ◌∙◌, arith, eq-eqb, ne_eqb}
use Rattle.std.proofs.Math.Logic.{⊎_elim}
use Rattle.std.proofs.Math.Decide.{ℕ_discrete}
use Rattle.words.specs.Bytes.{Bytes}
use Rattle.words.specs.Choose.{cond_split, split_eq, neither_of, left_of, right_of}
use Rattle.words.specs.Decide.{does, dec_either}
use Rattle.rules.specs.File.{record_of, parameters_of, kind_call, first_control, last_control}
use Rattle.rules.specs.Module.{Instruction}
use Rattle.rules.specs.Decode.{call_of, arithmetic_of, memory_of, control_of, by_group, instruction_of, code_of, module_of, start_of}
use Rattle.rules.specs.Walk.{whole}
use Rattle.rules.specs.WellTyped.{dec_last}
use Rattle.rules.specs.Verdict.{last_test}
use Rattle.rules.specs.declared.Record.{Record}
use Rattle.rules.specs.declared.Group.{Group}
use Rattle.typing.specs.Groups.{group_split}
use Rattle.functions.specs.Functions.{function_at, function_at_law, instruction_in, place_in, code_at_law}

-- a record of this kind ends a function
abbrev pub ends : ℕ → Bool
ends kind = eqb kind 31 || eqb kind 34

abbrev is_last : Instruction → Bool
is_last i = does (dec_last i)

module _ (x : Record) where
  not_last : (k : ℕ) (i j : Instruction) → is_last i ≡ false → is_last j ≡ false → is_last (cond (eqb x.kind k) i j) ≡ false
  not_last k i j p q = cond_split (λ (i : Instruction). is_last i ≡ false) (eqb x.kind k) i j (λ e. p) (λ e. q)

  arithmetic_not : is_last (arithmetic_of x) ≡ false
  unfolding arithmetic_of dec_last dec_either ℕ_discrete
  arithmetic_not = not_last 16 _ _ refl (not_last 17 _ _ refl (not_last 18 _ _ refl (not_last 19 _ _ refl (not_last 20 _ _ refl (not_last 21 _ _ refl refl)))))

  memory_not : is_last (memory_of x) ≡ false
  unfolding memory_of dec_last dec_either ℕ_discrete
  memory_not = not_last 23 _ _ refl (not_last 24 _ _ refl (not_last 25 _ _ refl (not_last 26 _ _ refl (not_last 27 _ _ refl (not_last 28 _ _ refl (not_last 36 _ _ refl (not_last 37 _ _ refl (not_last 38 _ _ refl refl))))))))

  other_kind : (x.kind ≡ 31 → ⊥) → (x.kind ≡ 34 → ⊥) → ends x.kind ≡ false
  other_kind n m = neither_of (ne_eqb x.kind 31 n) (ne_eqb x.kind 34 m)

  control_ends : (c : Instruction) → is_last c ≡ false → first_control ≤ x.kind → x.kind ≤ last_control → is_last (control_of x c) ≡ ends x.kind
  unfolding control_of dec_last dec_either ℕ_discrete
  control_ends c h low high =
      split_eq P x.kind 29 _ _ (λ e. sym (other_kind (λ q. omega arith) (λ q. omega arith)))
      (λ a. split_eq P x.kind 30 _ _ (λ e. sym (other_kind (λ q. omega arith) (λ q. omega arith)))
      (λ b. split_eq P x.kind 31 _ _ (λ e. sym (left_of (eqb x.kind 31) (eqb x.kind 34) (eq-eqb x.kind 31 e)))
      (λ d. split_eq P x.kind 32 _ _ (λ e. sym (other_kind (λ q. omega arith) (λ q. omega arith)))
      (λ e. split_eq P x.kind kind_call _ _ (λ q. h ∙ sym (other_kind (λ z. omega arith) (λ z. omega arith)))
      (λ q. sym (right_of (eqb x.kind 31) (eqb x.kind 34) (eq-eqb x.kind 34 (omega arith))))))))
    where
      P : Instruction → Type 0
      P i = is_last i ≡ ends x.kind

  pub instruction_ends : (y : Record) (p q : ℕ) → is_last (instruction_of x (call_of x y p q)) ≡ ends x.kind
  unfolding instruction_of by_group call_of dec_last dec_either ℕ_discrete
  instruction_ends y p q =
      group_split (λ (g : Group). is_last (by_group g x (call_of x y p q)) ≡ ends x.kind) x.kind
      (λ o. arithmetic_not ∙ sym (other_kind (λ e. ⊎_elim (λ a. omega arith) (λ a. omega arith) o) (λ e. ⊎_elim (λ a. omega arith) (λ a. omega arith) o)))
      (λ l h. memory_not ∙ sym (other_kind (λ e. omega arith) (λ e. omega arith)))
      (λ l h. memory_not ∙ sym (other_kind (λ e. omega arith) (λ e. omega arith))) (λ l h. control_ends (call_of x y p q) refl l h)

pub record_ends : (f : Bytes) (r : ℕ) → is_last (instruction_in f r) ≡ ends (record_of f r).kind
unfolding instruction_in code_of
record_ends f r = instruction_ends (record_of f r) (record_of f (r + 1)) (record_of f (get_or (whole f).starts (record_of f r).b 0)).a (parameters_of (record_of f (get_or (whole f).starts (record_of f r).b 0)))

-- refusal 8's test of function g
pub last_test_law : (f : Bytes) (g : ℕ) → ends (record_of f (place_in f (start_of f g) ((function_at f (start_of f g)).code_length - 1))).kind ≡ last_test (module_of f) g
unfolding last_test
last_test_law f g =
    let h = start_of f g in
    sym (ap (λ F. is_last (F.code (F.code_length - 1))) (function_at_law f g)
    ∙ ap is_last (code_at_law f h ((function_at f h).code_length - 1))
    ∙ record_ends f (place_in f h ((function_at f h).code_length - 1)))
