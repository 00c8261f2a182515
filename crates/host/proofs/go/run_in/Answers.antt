-- `host::go::run_in` meets its contract: the file has room, and what a run asks.
use Rattle.host.specs.Ready.{run_asks}
use native.Mathlib.Omega.{arith}
use borrow.Author.Rules.{rules}
use Rattle.host.proofs.go.run_in.Goals as goal

pub fill-requires : goal.fill-requires
fill-requires g c =
    let p = c.requires in
    let accepted = p.ready.accepted in
    search (rules, p.room.0)

pub whole_as_slice-fill : goal.whole_as_slice-fill
whole_as_slice-fill g c = omega (arith, c.requires.room.1)

pub shared_whole_as_slice-run : goal.shared_whole_as_slice-run
shared_whole_as_slice-run g c = omega (arith, c.requires.room.1)

pub slice_bounds-run-end : goal.slice_bounds-run-end
slice_bounds-run-end g c = search (rules, c.well_formed)

pub run-requires : goal.run-requires
run-requires g c =
    let p = c.requires in
    let a = c.args in
    run_asks a.form.now a.o.now a.budget p.ready (λ j. (c.type_inv.form j).fits) (λ j. (c.slice_known-1.given j).fits) p.running.0 p.running.1 p.output c.fill.ensures
