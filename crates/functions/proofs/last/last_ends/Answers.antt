-- `functions::last::last_ends` meets its contract: the kind of the last instruction's record.
use mathlib.Core.Path.{ap, ◌∙◌}
use Prim.Native.Nat.{ℕ, ◌-◌}
use Rattle.rules.specs.declared.Record.{Record}
use Rattle.functions.specs.Functions.{place_in, function_at}
use Rattle.functions.specs.Last.{ends, last_test_law}
use Rattle.rules.specs.File.{record_of}
use Rattle.functions.proofs.last.last_ends.Goals as goal

pub returns : goal.returns
returns c =
    let a = c.args in
    let f = a.f.now in
    c.ends.ensures ∙ ap (λ (x : Record). ends x.kind) c.record_at-x.ensures ∙ ap (λ (r : ℕ). ends (record_of f r).kind) c.requires.fact_2
    ∙ ap (λ (h : ℕ). ends (record_of f (place_in f h ((function_at f h).code_length - 1))).kind) c.requires.fact_1
    ∙ last_test_law f a.g
