use mathlib.Core.Path.{◌≡◌}
use mathlib.Core.Bool.{true}
use Prim.Native.Nat.{ℕ, ◌-◌, ◌<◌, ◌≤◌}
use Rattle.rules.specs.State.{page_owner, page_mark}
use Rattle.rules.specs.Step.{last_owned}
use Rattle.pages.specs.Search.{no_room}
use Rattle.pages.specs.Known.{Used}
use Rattle.pages.proofs.find_room.Given as goal

abbrev pub invariant-loop-p : goal.invariant-loop-p
invariant-loop-p l = record {
  short : l.p - l.low ≤ l.past - l.low;
  full : (j : ℕ) → l.low ≤ j → j < l.p → no_room (page_owner l.s) (page_mark l.s) l.r.0 l.n 1 j ≡ true;
  used : Used l.known l.s;
  looked : l.last ≡ last_owned (page_owner l.s) l.r.0 l.low (l.p - l.low);
}
