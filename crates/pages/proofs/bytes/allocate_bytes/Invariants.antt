use mathlib.Core.Path.{◌≡◌}
use mathlib.Core.Bool.{true}
use Prim.Native.Nat.{ℕ, ◌<◌, ◌≤◌}
use Rattle.rules.specs.Limits.{page_bytes}
use Rattle.rules.specs.State.{page_owner, page_mark}
use Rattle.pages.specs.Search.{no_room}
use Rattle.pages.specs.Known.{Used}
use Rattle.pages.proofs.bytes.allocate_bytes.Given as goal

abbrev pub invariant-loop-p : goal.invariant-loop-p
invariant-loop-p l = record {
  full : (j : ℕ) → l.low ≤ j → j < l.p → no_room (page_owner l.s) (page_mark l.s) l.r.0 page_bytes l.c j ≡ true;
  used : Used l.known l.s;
}
