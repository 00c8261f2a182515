-- What a call finds of an accepted file once, and hands to the code that reads types and functions; and what a run asks. Assumes nothing.
use Rattle.std.specs.Prelude.{◌≡◌, List, ℕ, length}
use Rattle.words.specs.Bytes.{Bytes, AllBytes}
use Rattle.rules.specs.Limits.{output_bytes}
use Rattle.rules.specs.Decode.{module_of}
use Rattle.rules.specs.State.{view}
use Rattle.rules.specs.Run.{run_of}
use Rattle.rules.specs.StateTest.{Passes}
use Rattle.rules.specs.Verdict.{verdict_of, IsAccepted}
use Rattle.walk.specs.declared.tables.Tables as walk
use Rattle.walk.specs.Tables.{tables_of}
use Rattle.functions.specs.Functions as functions
use Rattle.positions.specs.Table.{Table}
use Rattle.positions.specs.Maps.{Narrow}
use Rattle.stack.specs.Facts as stack
use Rattle.prepared.specs.Program.{program}
use Rattle.prepared.specs.HotRun.{AllSteady}
use Rattle.prepare.specs.Filled.{Filled}
use Rattle.turns.specs.Stepped.{SetUp}
use Rattle.turns.specs.Turns.{Started}
use Rattle.guarantees.specs.Accepted.{given}
use Rattle.guarantees.specs.Steady.{started, accepted_steady}
use Rattle.host.specs.declared.tables.Tables.{Tables}

-- the file is accepted, and the tables are its own
pub record Ready (f : Bytes) (t : Tables) : Type 0 where
  pub accepted : IsAccepted (verdict_of f)
  pub functions : functions.Known f t.terms t.structs t.functions t.starts
  pub frames : stack.Known f t.starts t.functions
  pub table : Table f t.terms t.structs t.extents
  pub narrow : Narrow f

-- as the code fills them
pub ready : (f : Bytes) (t : walk.Tables) (x : List ℕ) → IsAccepted (verdict_of f) → t ≡ tables_of f → Table f t.walk.terms t.walk.names x
    → Ready f (record { terms = t.walk.terms; structs = t.walk.names; functions = t.walk.functions; starts = t.starts; extents = x })
ready f t x acc e h =
    let g = given f acc t e in
    record { accepted = acc; functions = g.functions; frames = g.frames; table = h; narrow = g.narrow }

-- what a run asks of an accepted file, a running state that passes the test, and what is filled
pub run_asks : {f s : Bytes} {x : Tables} {code functions : List ℕ} {given own : Bytes} (form o : Bytes) (b : ℕ) → Ready f x → AllBytes form → AllBytes s → Passes (module_of f) s
    → (view s).status ≡ 0 → length o ≡ output_bytes → Filled (module_of f) code functions given own
    → SetUp (module_of f) (program code functions) given own × Started s × AllSteady (module_of f) (run_of (module_of f) form b s o).steps × (length o ≡ output_bytes)
    × Table f x.terms x.structs x.extents × Narrow f
run_asks {f} {s} form o b r h l p z k y = (
  record { prepared = y.prepared; tables = y.tables; bounded = y.bounded },
  started (module_of f) s l p z,
  accepted_steady f form b s o r.accepted h l p,
  k,
  r.table,
  r.narrow,
)
