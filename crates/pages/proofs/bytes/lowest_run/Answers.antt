-- `pages::bytes::lowest_run` meets its contract: the scan starts behind the known places, goes on behind each used one, and ends where no run
-- can start.
use mathlib.Core.Path.{◌≡◌, sym, ap, ◌∙◌}
use Prim.Native.Nat.{◌+◌, ◌-◌}
use native.Mathlib.Omega.{arith}
use Rattle.rules.specs.Limits.{page_bytes}
use Rattle.rules.specs.State.{page_mark}
use Rattle.state.specs.Runs.{scan_more, scan_past, scan_found}
use Rattle.pages.specs.Untyped.{scan_from, scan_over}
use Rattle.pages.proofs.bytes.lowest_run.Goals as goal
use Rattle.pages.proofs.bytes.lowest_run.Goals.{then-mark-ne0+else-start-c-gt-PAGE_BYTES, else-mark-ne0+else-k-start}

pub returns-then-c-from : goal.returns-then-c-from
returns-then-c-from c = λ l.
    let e = scan_over c.args.s.now c.args.c c.args.p page_bytes c.args.from 0 (omega arith) (scan_from c.args.s.now c.args.c c.args.p c.requires.2 c.args.from c.requires.4) in
    omega arith

pub loop-k-init : goal.loop-k-init
loop-k-init c =
    let z : 0 ≡ c.args.from - c.args.from = omega arith in
    record { above = omega arith; short = omega arith; scanned = rw z at (scan_from c.args.s.now c.args.c c.args.p c.requires.2 c.args.from c.requires.4) }

pub loop-k-preserved : goal.loop-k-preserved
loop-k-preserved c =
    let k = c.loop-k.k in
    let start = c.loop-k.start in
    let mark = page_mark c.args.s.now in
    let here : start + (k - start) ≡ k = omega arith in
    elim c.if-mark-ne0.branch [
      | then-mark-ne0+else-start-c-gt-PAGE_BYTES w ↦
          let past = scan_past _ _ _ _ _ c.loop-k.invariant.short c.loop-k.invariant.scanned (λ e. w.if-mark-ne0.true (c.mark.ensures.0 ∙ ap (mark c.args.p) (sym here) ∙ e)) in
          let z : k + 1 - c.if-mark-ne0.start ≡ 0 = let e = w.start-is in omega arith in
          let d : c.if-mark-ne0.start ≡ start + (k - start) + 1 = let e = w.start-is in omega arith in
          record { above = omega arith; short = omega arith; scanned = rw (z, d) past }
      | else-mark-ne0+else-k-start w ↦
          let more = scan_more _ _ _ _ _ c.loop-k.invariant.scanned (ap (mark c.args.p) here ∙ sym c.mark.ensures.0 ∙ w.if-mark-ne0.false) in
          let z : k + 1 - c.if-mark-ne0.start ≡ k - start + 1 = omega arith in
          record { above = omega arith; short = omega arith; scanned = rw (z, w.start-is) more }
    ]

pub returns-then-start-c-gt-PAGE_BYTES : goal.returns-then-start-c-gt-PAGE_BYTES
returns-then-start-c-gt-PAGE_BYTES c = λ l.
    let k = c.loop-k.k in
    let start = c.loop-k.start in
    let mark = page_mark c.args.s.now in
    let here : start + (k - start) ≡ k = omega arith in
    let past = scan_past _ _ _ _ _ c.loop-k.invariant.short c.loop-k.invariant.scanned (λ e. c.if-mark-ne0.true (c.mark.ensures.0 ∙ ap (mark c.args.p) (sym here) ∙ e)) in
    let e = scan_over c.args.s.now c.args.c c.args.p page_bytes (start + (k - start) + 1) 0 (let b = c.if-start-c-gt-PAGE_BYTES.true in omega arith) past in
    omega arith

pub returns-then-k-start : goal.returns-then-k-start
returns-then-k-start c =
    let k = c.loop-k.k in
    let start = c.loop-k.start in
    let mark = page_mark c.args.s.now in
    let here : start + (k - start) ≡ k = omega arith in
    let more = scan_more _ _ _ _ _ c.loop-k.invariant.scanned (ap (mark c.args.p) here ∙ sym c.mark.ensures.0 ∙ c.if-mark-ne0.false) in
    let z : k - start + 1 ≡ c.args.c = omega arith in
    let e = scan_found _ page_bytes c.args.c c.args.p start (omega arith) (rw z at more) in
    (rw (← e) (omega arith), e)

pub returns : goal.returns
returns c = λ l.
    let e = scan_over c.args.s.now c.args.c c.args.p page_bytes c.loop-k.start (c.loop-k.k - c.loop-k.start) (omega arith) c.loop-k.invariant.scanned in
    omega arith
