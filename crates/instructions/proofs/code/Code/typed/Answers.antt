-- `instructions::code::Code::typed` meets its contract: a law for each group of kinds.
use mathlib.Core.Path.{sym, ap, ◌∙◌}
use Rattle.rules.specs.File.{group_of}
use Rattle.rules.specs.Decode.{arithmetic_of, memory_of}
use Rattle.rules.specs.declared.Record.{Record}
use Rattle.judgment.specs.Function.{keeps_rule}
use Rattle.judgment.specs.Kinds.{kind_arithmetic, kind_memory, kind_control}
use Rattle.instructions.proofs.code.Code.typed.Goals as goal

pub returns-in-Arithmetic-clause-rule : goal.returns-in-Arithmetic-clause-rule
returns-in-Arithmetic-clause-rule c =
    let s = c.args.self.now.function in
    let xe = c.record_at-x.ensures in
    let g = c.group_of.ensures ∙ ap (λ (x : Record). group_of x.kind) xe in
    c.arithmetic.ensures ∙ ap (keeps_rule s) (ap arithmetic_of xe ∙ sym (kind_arithmetic s.file.now c.args.r g c.in-Arithmetic.is))

pub returns-in-Memory-clause-rule : goal.returns-in-Memory-clause-rule
returns-in-Memory-clause-rule c =
    let s = c.args.self.now.function in
    let xe = c.record_at-x.ensures in
    let g = c.group_of.ensures ∙ ap (λ (x : Record). group_of x.kind) xe in
    c.memory.ensures.rule ∙ ap (keeps_rule s) (ap memory_of xe ∙ sym (kind_memory s.file.now c.args.r g c.in-Memory.is))

pub returns-in-Control-clause-rule : goal.returns-in-Control-clause-rule
returns-in-Control-clause-rule c =
    let s = c.args.self.now.function in
    let xe = c.record_at-x.ensures in
    let g = c.group_of.ensures ∙ ap (λ (x : Record). group_of x.kind) xe in
    c.control.ensures ∙ ap (keeps_rule s) (sym (kind_control s.file.now c.args.r g c.in-Control.is))
