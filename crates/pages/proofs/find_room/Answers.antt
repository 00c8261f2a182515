-- `pages::find_room` meets its contract: a scan for the first page with room, which keeps the last page that it looked at.
use mathlib.Core.Path.{◌≡◌, refl, ◌∙◌}
use mathlib.Core.Logic.{◌≢◌}
use Prim.Native.Nat.{suc, ◌-◌, ◌≤◌}
use native.Mathlib.Omega.{arith}
use Rattle.rules.specs.State.{page_owner, page_mark}
use Rattle.rules.specs.Step.{last_owned, run_starts, unused_place}
use Rattle.pages.specs.Search.{last_own, last_other, found_here, found_none, none_own, none_other}
use Rattle.pages.proofs.find_room.Goals as goal
use Rattle.pages.proofs.find_room.Goals.{else-from, then-from+in-None}

pub loop-p-init : goal.loop-p-init
unfolding last_owned
loop-p-init c = record { short = omega arith; full = λ j a b. absurd (omega arith); used = c.requires.3; looked = let z : c.args.low - c.args.low ≡ 0 = omega arith in rw z refl }

pub place_in-requires : goal.place_in-requires
place_in-requires c = (c.requires.0, (let h = c.loop-p-test.true in let g = c.requires.1 in omega arith), (let h = c.requires.2 in omega arith), c.loop-p.invariant.used)

pub returns-in-Some : goal.returns-in-Some
returns-in-Some c =
    let owner = page_owner c.args.s.now in
    let own : owner c.loop-p.p ≡ suc c.args.r.0 = omega arith in
    let inside = c.in-Some.ensures.0.0 in
    let first = c.in-Some.ensures.0.1 in
    (found_here owner (page_mark c.args.s.now) c.args.low c.args.past c.args.r.0 c.args.n 1 c.loop-p.p c.loop-p.invariant.full c.loop-p.auto.p c.in-Some.j c.loop-p-test.true own c.in-Some.ensures.0.1 (omega arith), c.place_in.ensures.1)

pub loop-p-preserved : goal.loop-p-preserved
loop-p-preserved c =
    let owner = page_owner c.args.s.now in
    let mark = page_mark c.args.s.now in
    let p = c.loop-p.p in
    elim c.if-from.branch [
      | then-from+in-None w ↦
          let own : owner p ≡ suc c.args.r.0 = let h = w.if-from.true in omega arith in
          let full : run_starts c.args.n 1 ≤ unused_place mark c.args.n 1 p = let h = w.in-None.ensures.0 in omega arith in
          record {
            short = omega arith;
            full = none_own owner mark c.args.low c.args.past c.args.r.0 c.args.n 1 p c.loop-p.invariant.full c.loop-p.auto.p _ own refl full;
            used = rw w.known-is w.place_in.ensures.1;
            looked = w.last-is ∙ last_own owner c.args.r.0 c.args.low p c.loop-p.auto.p own;
          }
      | else-from w ↦
          let other : owner p ≢ suc c.args.r.0 = λ e. w.if-from.false (omega arith) in
          record {
            short = omega arith;
            full = none_other owner mark c.args.low c.args.past c.args.r.0 c.args.n 1 p c.loop-p.invariant.full c.loop-p.auto.p other;
            used = rw w.known-is c.loop-p.invariant.used;
            looked = w.last-is ∙ last_other owner c.args.r.0 c.args.low p c.loop-p.auto.p other c.loop-p.last c.loop-p.invariant.looked;
          }
    ]

pub returns : goal.returns
returns c = (found_none (page_owner c.args.s.now) (page_mark c.args.s.now) c.args.low c.args.past c.args.r.0 c.args.n 1 c.loop-p.p c.loop-p.invariant.full c.loop-p.auto.p c.loop-p.last c.loop-p.invariant.short c.loop-p-test.false c.loop-p.invariant.looked, c.loop-p.invariant.used)
