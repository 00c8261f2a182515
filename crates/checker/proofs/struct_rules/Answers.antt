-- `checker::struct_rules` meets its contract: one stage.
use mathlib.Core.Path.{ap, ◌∙◌}
use Prim.Native.Nat.{ℕ, ◌+◌, ◌*◌}
use Rattle.rules.specs.Limits.{bad_type}
use Rattle.rules.specs.Decode.{module_of}
use Rattle.rules.specs.Verdict.{struct_stage, struct_test}
use Rattle.framing.specs.Outcome.{Refused, first_passes, first_refuses}
use Rattle.checker.specs.Rules.{found, ended}
use Rattle.checker.proofs.struct_rules.Goals as goal

pub returns-then-s-k : goal.returns-then-s-k
returns-then-s-k c =
    let m = module_of c.args.f.now in
    ap (λ (n : ℕ). Refused bad_type (n + 2 * c.first_struct-s.result)) c.requires.terms.are
    ∙ first_refuses (struct_stage m) (found (struct_test m) c.requires.structs c.first_struct-s.ensures c.if-s-k.true)

pub returns-else-s-k : goal.returns-else-s-k
returns-else-s-k c = let m = module_of c.args.f.now in first_passes (struct_stage m) (ended (struct_test m) c.requires.structs c.first_struct-s.ensures c.if-s-k.false)
