-- `instructions::untyped::into_bytes` meets its contract: by the callees' contracts.
use mathlib.Core.Path.{ap, ◌∙◌}
use mathlib.Core.Bool.{Bool, ◌&&◌}
use lib.Dec.{eqb}
use Rattle.rules.specs.File.{entry_of, untyped_mark}
use Rattle.rules.specs.declared.Record.{Record}
use Rattle.functions.specs.Functions.{region_term}
use Rattle.instructions.specs.Untyped.{into_bytes_law}
use Rattle.instructions.proofs.untyped.into_bytes.Goals as goal

pub returns : goal.returns
unfolding region_term
returns c =
    let a = c.args in
    let s = a.function.now in
    let v = c.from-v.result in
    let u = c.entry_of-u.result in
    ap (λ (b : Bool). eqb c.entry-e.result.form 11 && (b && eqb u untyped_mark)) c.in_scope.ensures
    ∙ into_bytes_law s.file.now s.head a.a c.entry-e.ensures v u c.from-v.ensures (c.entry_of-u.ensures.0 ∙ ap (λ (x : Record). entry_of x v) c.record_at-x.ensures)
