use Prim.Native.Nat.{ℕ, ◌<◌}
use Rattle.values.specs.Memory.{AimHolds}
use Rattle.values.specs.Pages.{PlaceOk}
use Rattle.values.proofs.pages.places_ok.Given as goal

abbrev pub invariant-loop-j : goal.invariant-loop-j
invariant-loop-j l =
    let s = l.mapped.typed.state in
    record {
      right : (z : ℕ) → z < l.j → PlaceOk s.file.now s.bytes.now s.frames l.p l.size l.aim.to l.aim.t l.d z;
      holds : AimHolds s.file.now s.bytes.now s.frames l.aim l.memo;
    }
