use Prim.Native.Nat.{ℕ, ◌<◌}
use Rattle.values.specs.Memory.{AimHolds}
use Rattle.values.specs.Pages.{OwnedPlaces}
use Rattle.values.proofs.pages.all_places.Given as goal

abbrev pub invariant-loop-q : goal.invariant-loop-q
invariant-loop-q l =
    let s = l.mapped.typed.state in
    record {
      right : (z : ℕ) → z < l.q → OwnedPlaces s.file.now s.bytes.now s.frames l.owner l.size l.aim.to l.aim.t l.d z;
      holds : AimHolds s.file.now s.bytes.now s.frames l.aim l.memo;
    }
