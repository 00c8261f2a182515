-- Refusal 6 as the code tests it: document 01, "6 function: a register or return that is not primitive; a region type, register or
-- return using regions beyond its scope; function 0 ..". Each test is the decision's answer. Assumes nothing.
use Rattle.std.specs.Prelude.{◌≡◌, Bool, true, false, cond, not, ◌||◌, ℕ, eqb}
use Rattle.std.proofs.Math.Path.{refl, sym, ap, ap₂}
use Rattle.std.proofs.Common.{◌∙◌}
use Rattle.std.proofs.Math.Bool.{◌&&◌, and_assoc}
use Rattle.words.specs.First.{all_below}
use Rattle.words.specs.Decide.{does}
use Rattle.rules.specs.Types.{variable, Tree, int, bytes, dec_tree, dec_uses, dec_primitive}
use Rattle.rules.specs.Module.{Function, Module, regions}
use Rattle.rules.specs.WellTyped.{scope_of, dec_function, dec_entry}
use Rattle.rules.specs.Verdict.{function_test}
use Rattle.terms.specs.Compare.{does_map, does_both, does_nat}
use Rattle.words.specs.Bytes.{Bytes}
use Rattle.rules.specs.File.{record_of, return_of, parameters_of, untyped_mark}
use Rattle.rules.specs.Decode.{region_type_of, module_of, function_of, start_of}
use Rattle.functions.specs.Functions.{function_at, function_at_law, register_term, region_term, scope_in}
use Rattle.functions.specs.Does.{does_all, does_imp, all_and}

module _ (F : Function) where
  -- a region type uses its scope
  unfoldable pub region_fits : ℕ → Bool
  region_fits i = does (dec_uses (scope_of F F.region_params i) (F.region_type i))

  -- a register is primitive and uses its scope
  unfoldable pub register_fits : ℕ → Bool
  register_fits a = does (dec_primitive (F.register_type a)) && does (dec_uses (scope_of F F.params a) (F.register_type a))

  unfoldable pub regions_fit : Bool
  regions_fit = all_below (regions F) region_fits

  unfoldable pub registers_fit : Bool
  registers_fit = all_below F.registers register_fits

  unfoldable pub result_fits : Bool
  result_fits = does (dec_primitive F.result) && does (dec_uses F.region_params F.result)

  unfoldable pub declared : Bool
  declared = regions_fit && (registers_fit && result_fits)

  -- a parameter of function 0 is i32
  unfoldable pub parameter_fits : ℕ → Bool
  parameter_fits a = does (dec_tree (F.register_type a) (int 4))

  unfoldable pub parameters_fit : Bool
  parameters_fit = all_below F.params parameter_fits

  unfoldable pub entry : Bool
  entry = eqb F.region_params 0 && (parameters_fit && does (dec_tree F.result (int 4)))

  pub declared_is : declared ≡ does (dec_function F)
  unfolding declared regions_fit registers_fit result_fits region_fits register_fits dec_function
  declared_is = sym (does_map _ _ _ ∙ does_both _ _
      ∙ ap₂ ◌&&◌ (sym (does_all (λ i. dec_uses (scope_of F F.region_params i) (F.region_type i)) (regions F)))
      (does_both _ _
      ∙ ap₂ ◌&&◌ (sym (does_all (λ a. dec_primitive (F.register_type a)) F.registers))
      (does_both _ _ ∙ ap₂ ◌&&◌ (sym (does_all (λ a. dec_uses (scope_of F F.params a) (F.register_type a)) F.registers)) (does_both _ _))
      ∙ sym (and_assoc (all_below F.registers (λ a. does (dec_primitive (F.register_type a)))) (all_below F.registers (λ a. does (dec_uses (scope_of F F.params a) (F.register_type a)))) (does (dec_primitive F.result) && does (dec_uses F.region_params F.result)))
      ∙ ap (λ (b : Bool). b && (does (dec_primitive F.result) && does (dec_uses F.region_params F.result))) (sym (all_and F.registers (λ a. does (dec_primitive (F.register_type a))) (λ a. does (dec_uses (scope_of F F.params a) (F.register_type a)))))))

  pub entry_is : entry ≡ does (dec_entry F)
  unfolding entry parameters_fit parameter_fits dec_entry
  entry_is = sym (does_map _ _ _ ∙ does_both _ _
      ∙ ap₂ ◌&&◌ (does_nat F.region_params 0)
      (does_both _ _ ∙ ap (λ (b : Bool). b && does (dec_tree F.result (int 4))) (sym (does_all (λ a. dec_tree (F.register_type a) (int 4)) F.params))))

-- refusal 6's test of function g
pub function_test_law : (m : Module) (g : ℕ) → declared (m.function g) && (not (eqb g 0) || entry (m.function g)) ≡ function_test m g
unfolding function_test
function_test_law m g = sym (does_both _ _ ∙ ap₂ ◌&&◌ (sym (declared_is (m.function g)))
    (does_imp _ _ ∙ ap₂ (λ (a b : Bool). not a || b) (does_nat g 0) (sym (entry_is (m.function g)))))

-- ---- by the records of the function with record 7 at h

-- untyped bytes use no region
uses_entry : (most v : ℕ) (T : Tree variable) → eqb v untyped_mark || does (dec_uses most T) ≡ does (dec_uses most (cond (eqb v untyped_mark) bytes T))
unfolding dec_uses
uses_entry most v T = go (eqb v untyped_mark)
  where
    go : (b : Bool) → b || does (dec_uses most T) ≡ does (dec_uses most (cond b bytes T))
    go true = refl
    go false = refl

module _ (f : Bytes) (h : ℕ) where
  pub region_fits_law : (i : ℕ) → let v = region_term f h i in
      eqb v untyped_mark || does (dec_uses (scope_in (record_of f h) (record_of f h).a i) ((module_of f).term v)) ≡ region_fits (function_at f h) i
  unfolding region_fits function_at function_of scope_of scope_in module_of region_term region_type_of
  region_fits_law i = uses_entry (scope_in (record_of f h) (record_of f h).a i) (region_term f h i) ((module_of f).term (region_term f h i))

  pub register_fits_law : (a : ℕ) → does (dec_primitive ((module_of f).term (register_term f h a))) && does (dec_uses (scope_in (record_of f h) (parameters_of (record_of f h)) a) ((module_of f).term (register_term f h a))) ≡ register_fits (function_at f h) a
  unfolding register_fits function_at function_of scope_of scope_in module_of register_term
  register_fits_law a = refl

  pub result_fits_law : does (dec_primitive ((module_of f).term (return_of (record_of f h)))) && does (dec_uses (record_of f h).a ((module_of f).term (return_of (record_of f h)))) ≡ result_fits (function_at f h)
  unfolding result_fits function_at function_of module_of
  result_fits_law = refl

  pub parameter_fits_law : (a : ℕ) → does (dec_tree ((module_of f).term (register_term f h a)) (int 4)) ≡ parameter_fits (function_at f h) a
  unfolding parameter_fits function_at function_of module_of register_term
  parameter_fits_law a = refl

  pub entry_fits : eqb (record_of f h).a 0 && (parameters_fit (function_at f h) && does (dec_tree ((module_of f).term (return_of (record_of f h))) (int 4))) ≡ entry (function_at f h)
  unfolding entry function_at function_of module_of
  entry_fits = refl

-- and of function g, which starts there
pub function_fits_law : (f : Bytes) (g : ℕ) → declared (function_at f (start_of f g)) && (not (eqb g 0) || entry (function_at f (start_of f g))) ≡ function_test (module_of f) g
function_fits_law f g = rw (← function_at_law f g) (function_test_law (module_of f) g)
