-- `values::memory::pointer_ok` meets its contract: zero, or where its run stands, or its bytes lie. Assumes nothing.
use Rattle.std.proofs.Common.{rules}
use Rattle.stack.specs.Tells.{tells_yes}
use Rattle.registers.specs.Value.{map_short, number_few}
use Rattle.values.specs.Memory.{aim_points, to_none, to_bytes, to_run, remembered, aim_kept, pointer_zero, pointer_none, pointer_bytes, pointer_run}
use Rattle.values.proofs.memory.pointer_ok.Goals as goal

pub returns-then-v-eq0 : goal.returns-then-v-eq0
returns-then-v-eq0 c = (tells_yes (pointer_zero c.word-v.ensures (aim_points c.requires.holds) c.if-v-eq0.true), c.requires.holds)

pub returns-in-Nowhere : goal.returns-in-Nowhere
returns-in-Nowhere c = (pointer_none c.word-v.ensures c.if-v-eq0.false (to_none c.requires.holds c.in-Nowhere.is), c.requires.holds)

pub in_untyped-requires : goal.in_untyped-requires
in_untyped-requires c =
    number_few c.args.f.now c.args.terms c.args.aim.now.t (search rules) c.requires.table.counted.terms (to_bytes c.requires.holds c.in-Untyped.is).number

pub returns-in-Untyped : goal.returns-in-Untyped
returns-in-Untyped c = (pointer_bytes c.word-v.ensures c.requires.narrow c.if-v-eq0.false (to_bytes c.requires.holds c.in-Untyped.is) c.owner-owner.ensures c.in_untyped.ensures, c.requires.holds)

pub stands_known-requires : goal.stands_known-requires
stands_known-requires c =
    let w = to_run c.requires.holds c.in-Run.is in
    record { fact_1 = (c.requires.table, map_short _ _ w.map_is, search rules, w.size); fact_2 = remembered c.requires.holds c.in-Run.is }

pub returns-in-Run : goal.returns-in-Run
returns-in-Run c =
    (pointer_run c.word-v.ensures c.requires.narrow c.if-v-eq0.false (to_run c.requires.holds c.in-Run.is) c.owner-owner-in-Run.ensures c.stands_known.ensures.0, aim_kept c.requires.holds c.in-Run.is c.stands_known.ensures.1)
