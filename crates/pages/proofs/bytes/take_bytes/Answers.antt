-- `pages::bytes::take_bytes` meets its contract, by the definition.
use mathlib.Core.Path.{◌≡◌, sym, ap₂, ◌∙◌}
use mathlib.Core.List.{[], ◌∷◌}
use Prim.Native.Nat.{ℕ, ◌+◌, ◌*◌}
use native.Mathlib.Omega.{arith}
use Rattle.rules.specs.Limits.{page_bytes}
use Rattle.rules.specs.State.{written, put_marks, clear_memory}
use Rattle.state.specs.Puts.{after}
use Rattle.state.specs.Closing.{written_append}
use Rattle.pages.proofs.bytes.take_bytes.Goals as goal

pub returns : goal.returns
unfolding written
returns c =
    let start = c in
    let p = start.args.p in
    let j = start.args.j in
    let n = start.args.c in
    let s = start.args.s.now in
    let e : page_bytes * p + j ≡ page_bytes * p + 1 * j = omega arith in
    let d : n ≡ 1 * n = omega arith in (
      e,
      (rw c.set_marks.ensures at c.clear_memory.ensures)
          ∙ ap₂ (λ (x i : ℕ). after (clear_memory x i) (written (put_marks s p j n) s)) e d
          ∙ sym (written_append (put_marks s p j n) (clear_memory (page_bytes * p + 1 * j) (1 * n) ∷ []) s),
    )
