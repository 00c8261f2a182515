-- The facts of an accepted file (`ModuleFacts`, function by function), from its verdict. Assumes nothing.
use Rattle.std.specs.Prelude.{◌≡◌, ◌⊎◌, ℕ, suc, ◌-◌, ◌<◌, ◌≤◌}
use Rattle.std.proofs.Common.{sym, subst, inl, inr, arith}
use Rattle.std.proofs.Math.Decide.{ℕ_discrete}
use Rattle.words.specs.Bytes.{Bytes}
use Rattle.rules.specs.Types.{width}
use Rattle.rules.specs.Module.{Module, Instruction, constant, copy, operate, zero_extend, sign_extend, address, check, field, index, load, store, new, free, input, output, jump, branch, call, return, new_bytes, load_byte, store_byte, check_bytes}
use Rattle.rules.specs.Decode.{module_of}
use Rattle.rules.specs.WellTyped.{FunctionOk, Last, WellTyped}
use Rattle.rules.specs.Verdict.{verdict_of, IsAccepted}
use Rattle.typing.specs.Accepted.{accepted}
use Rattle.typing.specs.Types.{Deep, deep_target, primitive_width, width_small, DeepFunction, DeepModule}
use Rattle.typing.proofs.Types.{deep}
use Rattle.typing.proofs.Flat.{deep_sized, region_sized, struct_sized}
use Rattle.typing.specs.Facts.{scope_in_law, scope_all, GoesOn, FunctionFacts, ModuleFacts}

goes_before : (c : Instruction) (i n : ℕ) → suc i < n → GoesOn c i n
goes_before (constant a d) i n h = h
goes_before (copy a b) i n h = h
goes_before (operate o a b c) i n h = h
goes_before (zero_extend a b) i n h = h
goes_before (sign_extend a b) i n h = h
goes_before (address a b) i n h = h
goes_before (check a b) i n h = h
goes_before (field a b d) i n h = h
goes_before (index a b c) i n h = h
goes_before (load a b) i n h = h
goes_before (store a b) i n h = h
goes_before (new a) i n h = h
goes_before (free a) i n h = h
goes_before (input a c) i n h = h
goes_before (output b) i n h = h
goes_before (jump d) i n h = tt
goes_before (branch a d) i n h = h
goes_before (call a g rs xs) i n h = h
goes_before (return a) i n h = tt
goes_before (new_bytes a) i n h = h
goes_before (load_byte a b c) i n h = h
goes_before (store_byte a b c) i n h = h
goes_before (check_bytes a b) i n h = h

-- no other kind is last
other_kind : {A : Type 0} (k : ℕ) → (k ≡ 31) ⊎ (k ≡ 34) → (k ≡ 31 → ⊥) → (k ≡ 34 → ⊥) → A
other_kind k (inl e) a b = absurd (a e)
other_kind k (inr e) a b = absurd (b e)

goes_last : (c : Instruction) (i n : ℕ) → Last c → GoesOn c i n
goes_last (constant a d) i n h = other_kind 16 h (λ e. omega arith) (λ e. omega arith)
goes_last (copy a b) i n h = other_kind 17 h (λ e. omega arith) (λ e. omega arith)
goes_last (operate o a b c) i n h = other_kind 18 h (λ e. omega arith) (λ e. omega arith)
goes_last (zero_extend a b) i n h = other_kind 19 h (λ e. omega arith) (λ e. omega arith)
goes_last (sign_extend a b) i n h = other_kind 20 h (λ e. omega arith) (λ e. omega arith)
goes_last (address a b) i n h = other_kind 21 h (λ e. omega arith) (λ e. omega arith)
goes_last (check a b) i n h = other_kind 22 h (λ e. omega arith) (λ e. omega arith)
goes_last (field a b d) i n h = other_kind 23 h (λ e. omega arith) (λ e. omega arith)
goes_last (index a b c) i n h = other_kind 24 h (λ e. omega arith) (λ e. omega arith)
goes_last (load a b) i n h = other_kind 25 h (λ e. omega arith) (λ e. omega arith)
goes_last (store a b) i n h = other_kind 26 h (λ e. omega arith) (λ e. omega arith)
goes_last (new a) i n h = other_kind 27 h (λ e. omega arith) (λ e. omega arith)
goes_last (free a) i n h = other_kind 28 h (λ e. omega arith) (λ e. omega arith)
goes_last (input a c) i n h = other_kind 29 h (λ e. omega arith) (λ e. omega arith)
goes_last (output b) i n h = other_kind 30 h (λ e. omega arith) (λ e. omega arith)
goes_last (jump d) i n h = tt
goes_last (branch a d) i n h = other_kind 32 h (λ e. omega arith) (λ e. omega arith)
goes_last (call a g rs xs) i n h = other_kind 33 h (λ e. omega arith) (λ e. omega arith)
goes_last (return a) i n h = tt
goes_last (new_bytes a) i n h = other_kind 36 h (λ e. omega arith) (λ e. omega arith)
goes_last (load_byte a b c) i n h = other_kind 37 h (λ e. omega arith) (λ e. omega arith)
goes_last (store_byte a b c) i n h = other_kind 38 h (λ e. omega arith) (λ e. omega arith)
goes_last (check_bytes a b) i n h = other_kind 39 h (λ e. omega arith) (λ e. omega arith)

module _ (m : Module) (t : WellTyped m) (d : DeepModule m) where
  pub function_facts : (g : ℕ) → g < m.functions → FunctionFacts m (m.function g)
  function_facts g h =
      let F = m.function g in
      let k : FunctionOk F = t.functions g h in
      let e : DeepFunction m F = d.function g in
      let few : F.params ≤ F.registers = (t.ranges g h).few_params in
      record {
        ranges = t.ranges g h;
        deep = e;
        register_primitive = k.primitive;
        register_width = λ a l. width_small (width (F.register_type a)) (primitive_width (e.register_type a) (k.primitive a l));
        register_scope = λ a l. scope_all F F.params a (k.registers a l);
        param_scope = λ a l. scope_in_law F F.params a l (k.registers a (omega arith));
        region_scope = λ i l. scope_all F F.region_params i (k.region_types i l);
        region_param_scope = λ i l. scope_in_law F F.region_params i l (k.region_types i (omega arith));
        result_scope = k.returns;
        result_primitive = k.return_primitive;
        target_size = λ a T r q. deep_sized m t d (deep_target (subst (Deep m) q (e.register_type a)));
        region_size = λ i. region_sized m t d (e.region_type i);
        typed = λ i l. t.typed g i h l;
        goes_on = λ i l. goes i l (ℕ_discrete i (F.code_length - 1));
      }
    where
      goes : (i : ℕ) → i < (m.function g).code_length → Dec (i ≡ (m.function g).code_length - 1) → GoesOn ((m.function g).code i) i (m.function g).code_length
      goes i l (yes q) = goes_last ((m.function g).code i) i (m.function g).code_length
          (subst (λ (j : ℕ). Last ((m.function g).code j)) (sym q) (t.lasts g h))
      goes i l (no q) = goes_before ((m.function g).code i) i (m.function g).code_length (omega arith)

  pub module_facts : ModuleFacts m
  module_facts = record {
    some = t.tables.some;
    function_limit = t.tables.functions;
    function = function_facts;
    entry = t.entry;
    fields = d.fields;
    field_scope = λ N h. (t.structs N h).uses;
    struct_size = struct_sized m t d;
  }

-- what an accepted file has
pub facts : (f : Bytes) → IsAccepted (verdict_of f) → ModuleFacts (module_of f)
facts f a = module_facts (module_of f) (accepted f a) (deep f a)
