-- `pages::bytes::allocate_bytes` meets its contract: a scan for the first page with room, and what it finds decides the definition's tests.
use Rattle.std.specs.Prelude.{Option}
use Rattle.std.specs.Option.{option_map}
use borrow.Author.Rules.{rules}
use Rattle.pages.specs.declared.Chosen.TheVariants.{Page}
use mathlib.Core.Path.{◌≡◌, refl, ap, ap₂, ◌∙◌}
use mathlib.Core.Logic.{◌≢◌}
use Prim.Native.Nat.{ℕ, suc, ◌≤◌}
use native.Mathlib.Omega.{arith}
use Rattle.rules.specs.Limits.{page_bytes}
use Rattle.rules.specs.State.{low_page, end_page, view, page_owner, page_mark}
use Rattle.rules.specs.Step.{run_starts, unused_place}
use Rattle.pages.specs.Search.{found_here, none_own, none_other, none_found}
use Rattle.pages.specs.Meaning.{chosen, place_chosen, unowned_chosen, page_within}
use Rattle.pages.specs.declared.Chosen.{Chosen}
use Rattle.pages.proofs.bytes.allocate_bytes.Goals as goal
use Rattle.pages.proofs.bytes.allocate_bytes.Goals.{then-from+in_default, else-from}

pub loop-p-init : goal.loop-p-init
loop-p-init c = record { full = λ j a b. absurd (omega arith); used = c.requires.3 }

pub run_in-requires : goal.run_in-requires
run_in-requires c =
    let start = c in
    (start.requires.0, (let h = c.loop-p-test.true in let g = c.end_page-past.ensures.1 in omega arith), start.requires.1, start.requires.2, c.loop-p.invariant.used)

pub returns-in-Some : goal.returns-in-Some
unfolding view
returns-in-Some c =
    let start = c in
    let s = start.args.s.now in
    let own = c.range-own.ensures in
    let low = c.low_page-low.ensures ∙ ap low_page own in
    let end = c.end_page-past.ensures.0 ∙ ap end_page own in
    let past = c.end_page-past.ensures.1 in
    let loop = c.loop-p in
    let at : ℕ → ℕ → Option Chosen = λ lo hi. chosen (page_owner s) (page_mark s) lo hi start.args.r.0 page_bytes start.args.c in
    let own_page : page_owner s loop.p ≡ suc start.args.r.0 = let h = c.if-from.true in omega arith in
    let there = c.loop-p-test.true in
    let inside = c.in-Some.ensures.0.0 in
    let first = c.in-Some.ensures.0.1 in
    let found = (found_here (page_owner s) (page_mark s) _ _ start.args.r.0 page_bytes start.args.c loop.p loop.invariant.full loop.auto.p c.in-Some.j there own_page first (omega arith)).there in (
      place_chosen (page_owner s) (page_mark s) _ _ start.args.r.0 page_bytes start.args.c loop.p there found.page c.in-Some.j first ∙ ap₂ at low end,
      (omega arith, omega arith),
      c.run_in.ensures.1,
    )

pub loop-p-preserved : goal.loop-p-preserved
loop-p-preserved c =
    let start = c in
    let s = start.args.s.now in
    let loop = c.loop-p in
    let past = c.end_page-past.result in
    elim c.if-from.branch [
      | then-from+in_default w ↦
          let own_page : page_owner s loop.p ≡ suc start.args.r.0 = let h = w.if-from.true in omega arith in
          let full : run_starts page_bytes start.args.c ≤ unused_place (page_mark s) page_bytes start.args.c loop.p = let h = w.in_default.ensures.0 in omega arith in
          record {
            full = none_own (page_owner s) (page_mark s) _ past start.args.r.0 page_bytes start.args.c loop.p loop.invariant.full loop.auto.p _ own_page refl full;
            used = rw w.known-is w.run_in.ensures.1;
          }
      | else-from w ↦
          let other : page_owner s loop.p ≢ suc start.args.r.0 = λ e. w.if-from.false (omega arith) in
          record {
            full = none_other (page_owner s) (page_mark s) _ past start.args.r.0 page_bytes start.args.c loop.p loop.invariant.full loop.auto.p other;
            used = rw w.known-is loop.invariant.used;
          }
    ]

pub returns : goal.returns
unfolding view
returns c =
    let start = c in
    let s = start.args.s.now in
    let own = c.range-own.ensures in
    let low = c.low_page-low.ensures ∙ ap low_page own in
    let end = c.end_page-past.ensures.0 ∙ ap end_page own in
    let past = c.end_page-past.ensures.1 in
    let loop = c.loop-p in
    let at : ℕ → ℕ → Option Chosen = λ lo hi. chosen (page_owner s) (page_mark s) lo hi start.args.r.0 page_bytes start.args.c in
    let full = none_found (page_owner s) (page_mark s) _ _ start.args.r.0 page_bytes start.args.c loop.p loop.invariant.full loop.auto.p c.loop-p-test.false in
    let free = c.unowned_page in
    let mapped : c.map.result ≡ option_map Page free.result = search rules in (
      mapped ∙ unowned_chosen (page_owner s) (page_mark s) _ _ start.args.r.0 page_bytes start.args.c full free.result free.ensures ∙ ap₂ at low end,
      rw mapped (page_within (page_owner s) (page_mark s) _ _ start.args.r.0 page_bytes start.args.c _ _ free.result free.ensures past),
      loop.invariant.used,
    )
