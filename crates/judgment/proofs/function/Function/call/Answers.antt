-- `judgment::function::Function::call` meets its contract: the callee's records, and the regions given.
use mathlib.Core.Path.{◌≡◌, sym, ap, ap₂, ◌∙◌}
use Rattle.rules.specs.declared.Record.{Record}
use mathlib.Core.Bool.{◌&&◌}
use lib.Dec.{ltb}
use mathlib.Core.List.{map}
use lib.ListN.{take, length-take}
use Rattle.functions.specs.Functions.{function_at, start_small, region_params_at}
use Rattle.rules.specs.File.{record_of}
use Rattle.rules.specs.Types.{region}
use Rattle.rules.specs.Decode.{region_bytes, start_of}
use Rattle.judgment.specs.Calls.{call_parts, call_test, given_regions}
use native.Mathlib.Omega.{arith}
use Rattle.judgment.proofs.function.Function.call.Goals as goal

pub slice_bounds-call_parts-end : goal.slice_bounds-call_parts-end
slice_bounds-call_parts-end c = simp length-take (omega (arith, c.given-bytes.ensures.long))

pub call_parts-requires : goal.call_parts-requires
call_parts-requires c = let s = start_small c.args.self.now.file.now c.requires.known.short c.from-g.result in omega (arith, c.start_of-e.ensures)

pub returns : goal.returns
returns c =
    let a = c.args in
    let f = a.self.now.file.now in
    let h = a.self.now.head in
    let to = take c.from-p.result c.given-bytes.result in
    let e = c.start_of-e.result in
    let xe = c.record_at-x.ensures in
    let at : e ≡ start_of f (record_of f a.r).b = c.start_of-e.ensures ∙ ap (start_of f) c.from-g.ensures ∙ ap (λ (x : Record). start_of f x.b) xe in
    let is : map region to ≡ region_bytes (record_of f a.r) (function_at f e).region_params =
    given_regions c.record_at-x.result c.from-p.result c.given-bytes.result (omega arith) c.given-bytes.ensures
    ∙ ap₂ region_bytes xe (c.from-p.ensures ∙ ap (λ (z : Record). z.a) c.record_at-z.ensures ∙ sym (region_params_at f e)) in
    ap₂ ◌&&◌ (ap₂ ltb (c.from-g.ensures ∙ ap (λ (x : Record). x.b) xe) c.requires.known.functions)
    (c.call_parts.ensures ∙ ap₂ (λ (x y : Record). call_parts f h e to x y) xe c.record_at-y.ensures)
    ∙ call_test f h e to a.r is at
