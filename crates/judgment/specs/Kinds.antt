-- The instruction at a record, by the group of its kind. Assumes nothing.
use Rattle.std.specs.Prelude.{◌≡◌, ℕ, ◌+◌, get_or}
use Rattle.std.proofs.Common.{sym, ◌∙◌}
use Rattle.std.proofs.Math.Path.{ap}
use Rattle.words.specs.Bytes.{Bytes}
use Rattle.rules.specs.File.{record_of, parameters_of, group_of}
use Rattle.rules.specs.Module.{Instruction}
use Rattle.rules.specs.Decode.{call_of, arithmetic_of, memory_of, control_of, by_group, instruction_of, code_of}
use Rattle.rules.specs.Walk.{whole}
use Rattle.rules.specs.declared.Group.{Group}
use Rattle.rules.specs.declared.Group.TheVariants.{Arithmetic, Memory, Control}
use Rattle.functions.specs.Functions.{instruction_in}

-- the call at record r, where it is one
unfoldable pub call_at : Bytes → ℕ → Instruction
call_at f r =
    let x = record_of f r in
    let h = record_of f (get_or (whole f).starts x.b 0) in
    call_of x (record_of f (r + 1)) h.a (parameters_of h)

-- the instruction, by the group of its kind
module _ (f : Bytes) (r : ℕ) {g : Group} (e : g ≡ group_of (record_of f r).kind) where
  in_group : instruction_in f r ≡ by_group g (record_of f r) (call_at f r)
  unfolding instruction_in code_of instruction_of call_at
  in_group = ap (λ (g : Group). by_group g (record_of f r) (call_at f r)) (sym e)

  pub kind_arithmetic : g ≡ Arithmetic → instruction_in f r ≡ arithmetic_of (record_of f r)
  unfolding by_group
  kind_arithmetic h = in_group ∙ ap (λ (g : Group). by_group g (record_of f r) (call_at f r)) h

  pub kind_memory : g ≡ Memory → instruction_in f r ≡ memory_of (record_of f r)
  unfolding by_group
  kind_memory h = in_group ∙ ap (λ (g : Group). by_group g (record_of f r) (call_at f r)) h

  pub kind_control : g ≡ Control → instruction_in f r ≡ control_of (record_of f r) (call_at f r)
  unfolding by_group
  kind_control h = in_group ∙ ap (λ (g : Group). by_group g (record_of f r) (call_at f r)) h
