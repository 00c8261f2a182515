-- `functions::readers::place_in` meets its contract: r is the record behind the instructions passed.
use mathlib.Core.Path.{ap, ◌∙◌}
use Rattle.functions.specs.Functions.{place_begin, place_more, place_far, place_found, place_none}
use Rattle.rules.specs.File.{instructions_of}
use Rattle.rules.specs.declared.Record.{Record}
use native.Mathlib.Omega.{arith}
use Rattle.functions.proofs.readers.place_in.Goals as goal

pub returns-then-i-count : goal.returns-then-i-count
returns-then-i-count c = place_none c.args.f.now c.args.h c.instructions_of-count.result c.args.i (c.instructions_of-count.ensures.0 ∙ ap (λ (x : Record). instructions_of x) c.record_at-x.ensures) c.if-i-count.true

pub loop-init : goal.loop-init
loop-init c = c.code_at-r.ensures ∙ place_begin _ _

pub after-r-requires : goal.after-r-requires
after-r-requires c = let a = c.args in place_far a.f.now a.h c.record_at-x.result c.record_at-x.ensures (omega arith) c.requires c.loop.counter c.loop.r c.loop.invariant (omega arith)

pub loop-preserved : goal.loop-preserved
loop-preserved c = c.after-r.ensures ∙ place_more c.args.f.now c.args.h _ _ c.loop.invariant

pub returns : goal.returns
returns c = let a = c.args in place_found a.f.now a.h c.instructions_of-count.result a.i _ c.loop.counter (c.instructions_of-count.ensures.0 ∙ ap (λ (x : Record). instructions_of x) c.record_at-x.ensures) (omega arith) c.loop.invariant (omega arith)
