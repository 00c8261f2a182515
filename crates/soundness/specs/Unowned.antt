-- The incident that the auditor asks about: a read into a region already closed, where another patient's record lay. For an accepted
-- module there is none. States that differ in any way in the bytes of pages that no live region owns do the same steps, write out the same
-- bytes, and still differ in such pages only: what lies there bears on nothing, whatever the form (`unowned_bytes`, in proofs/Unowned).
-- Assumes nothing.
use Rattle.std.specs.Prelude.{◌≡◌, ◌≢◌}
use Prim.Native.Nat.{ℕ, ◌/◌, ◌<◌}
use Rattle.words.specs.Bytes.{Bytes, byte_at}
use Rattle.rules.specs.Limits.{page_bytes, memory_bytes}
use Rattle.rules.specs.State.{view, memory_place}
use Rattle.rules.specs.SafeStep.{SameButPages}

-- t is s but for bytes of pages that no region owns
pub record SameButUnowned (t s : Bytes) : Type 0 where
  pub rest : SameButPages t s
  pub owned : (i : ℕ) → i < memory_bytes → (view s).owner (i / page_bytes) ≢ 0 → byte_at t (memory_place i) ≡ byte_at s (memory_place i)
