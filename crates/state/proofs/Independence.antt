-- Of the bytes that a step leaves: a page byte that its effect does not change stays, and one that it clears is zero. Assumes nothing.
use Rattle.std.specs.Prelude.{◌≡◌, length}
use Rattle.std.proofs.Math.Path.{ap}
use Rattle.std.proofs.Common.{sym, ◌∙◌}
use Prim.Native.Nat.{ℕ, ◌<◌}
use Rattle.words.specs.Bytes.{Bytes, AllBytes, byte_at}
use Rattle.rules.specs.Limits.{memory_bytes, state_bytes}
use Rattle.rules.specs.Module.{Module}
use Rattle.rules.specs.State.{memory_place, View, view}
use Rattle.rules.specs.Step.{Effect}
use Rattle.rules.specs.Writes.{apply_state}
use Rattle.rules.specs.Footprint.{footprint, Within}
use Rattle.rules.specs.SafeStep.{Changes}
use Rattle.state.specs.Effects.{Bounded, view_apply}
use Rattle.state.specs.Independence.{memory_kept, memory_cleared, memory_byte_law}

pub keeps_law : (m : Module) (s : Bytes) → length s ≡ state_bytes → AllBytes s → (k : ℕ) (e : Effect) → Bounded (view s) k e
    → (i : ℕ) → i < memory_bytes → ¬ Changes e i → byte_at (apply_state m k e s) (memory_place i) ≡ byte_at s (memory_place i)
keeps_law m s sized bytes k e b i l n =
    sym (memory_byte_law (apply_state m k e s) i l)
    ∙ ap (λ (v : View). v.memory i) (view_apply m s sized bytes k e b)
    ∙ memory_kept m k e (view s) i n
    ∙ memory_byte_law s i l

pub clears_law : (m : Module) (s : Bytes) → length s ≡ state_bytes → AllBytes s → (k : ℕ) (e : Effect) → Bounded (view s) k e
    → (i : ℕ) → i < memory_bytes → Within (footprint e).clears i → byte_at (apply_state m k e s) (memory_place i) ≡ 0
clears_law m s sized bytes k e b i l h =
    sym (memory_byte_law (apply_state m k e s) i l)
    ∙ ap (λ (v : View). v.memory i) (view_apply m s sized bytes k e b)
    ∙ memory_cleared m k e (view s) i h
