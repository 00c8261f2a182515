-- `functions::last::last_place` meets its contract: the place of the last instruction.
use mathlib.Core.Path.{sym, ap, ◌∙◌}
use Prim.Native.Nat.{ℕ, ◌-◌}
use Rattle.rules.specs.declared.Record.{Record}
use Rattle.functions.specs.Functions.{place_in, length_at}
use Rattle.rules.specs.File.{instructions_of}
use Rattle.functions.proofs.last.last_place.Goals as goal

pub returns : goal.returns
returns c = let a = c.args in c.place_in.ensures ∙ ap (place_in a.f.now a.h) (c.saturating_sub.ensures ∙ ap (λ (n : ℕ). n - 1) (c.instructions_of-count.ensures.0 ∙ ap (λ (x : Record). instructions_of x) c.record_at-x.ensures ∙ sym (length_at a.f.now a.h)))
