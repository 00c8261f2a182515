use Prim.Native.Nat.{ℕ, ◌<◌}
use Rattle.values.specs.Memory.{LastHolds}
use Rattle.values.specs.Pages.{OwnedPosition}
use Rattle.values.proofs.pages.positions_ok.Given as goal

abbrev pub invariant-loop-i : goal.invariant-loop-i
invariant-loop-i l =
    let s = l.mapped.typed.state in
    record {
      right : (z : ℕ) → z < l.i → OwnedPosition s.file.now s.bytes.now s.frames l.p z;
      last : LastHolds s.file.now s.bytes.now s.frames l.last l.memo;
    }
