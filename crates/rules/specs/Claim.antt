-- DEMAND 3 as a type. `Demand3`: for every file that the checker accepts, every state where a list of calls of going on may start and
-- every such list, one record `Claim` about the list as a whole. `demand_3` (crate soundness) inhabits it. The record says:
-- answers: each call is refused and changes nothing, or reports the rules' own steps and leaves their last state and output;
-- stuck: no step is stuck; stray: no load or store touches a byte outside the value that its pointer's type names, which is a run of
--   primitives whole inside one object, used or free, of a live region in scope;
-- steps: each step moves on, ends or stops for a listed reason; a load fetches a value of its register's type; no other page byte bears
--   on a step and none other is changed; what a step reads or changes is in pages that the machine may own; an object that is handed out
--   was free and is all zeros, and else a store alone changes an object's bytes, free or used (document 02, P1); and after each step the
--   state passes the state test;
-- range: each step starts from a state of this machine, by its page range;
-- test, bytes: after the list the state passes the state test, and its elements are bytes;
-- pages, none: owned at the end + handed back = owned at the start + granted, and no page is owned once the module has ended.
-- `DemandAt R` says it, with the same words, of a machine that may own the pages of R alone (`demand_at`); document 01's machine may own all
-- but page 0.
-- What these words mean stands in SafeStep (one step) and Calls (lists of calls); the machine in Host, Run and Step. Assumes nothing.
use Rattle.std.specs.Prelude.{◌≡◌, List, ◌+◌}
use Rattle.words.specs.Bytes.{Bytes, AllBytes}
use Rattle.rules.specs.Decode.{module_of}
use Rattle.rules.specs.Verdict.{verdict_of, IsAccepted}
use Rattle.rules.specs.State.{all_pages, view}
use Rattle.rules.specs.Run.{stuck_steps}
use Rattle.rules.specs.Host.{passed, test_at}
use Rattle.rules.specs.SafeStep.{stray_bytes, AllSafe, AllRanged}
use Rattle.rules.specs.Calls.{Call, Lent, steps_of, final_of, AllAnswered, Start, owned, granted, handed_back}
use Rattle.rules.specs.declared.PageRange.{PageRange}

-- DEMAND 3, of the machine with page range R, for the module of file f, a list of calls and the state where it starts.
pub record Claim (R : PageRange) (f : Bytes) (calls : List Call) (s : Bytes) : Type 0 where
  pub answers : AllAnswered R calls s
  pub stuck : stuck_steps (steps_of R calls s) ≡ 0
  pub stray : stray_bytes (module_of f) (steps_of R calls s) ≡ 0
  pub steps : AllSafe (module_of f) (steps_of R calls s)
  pub range : AllRanged R (steps_of R calls s)
  pub test : test_at R f (final_of R calls s) ≡ passed
  pub bytes : AllBytes (final_of R calls s)
  pub pages : owned (final_of R calls s) + handed_back (module_of f) (steps_of R calls s) ≡ owned s + granted (steps_of R calls s)
  pub none : (view (final_of R calls s)).status ≡ 1 → owned (final_of R calls s) ≡ 0

-- DEMAND 3 for every accepted file, every list of calls and every start
abbrev pub DemandAt : PageRange → Type 0
DemandAt R = (f : Bytes) → IsAccepted (verdict_of f) → (calls : List Call) (s : Bytes) → Start R f s → Lent R f calls s → Claim R f calls s

-- of document 01's machine
abbrev pub Demand3 : Type 0
Demand3 = DemandAt all_pages
