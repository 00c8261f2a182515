-- What the theorem takes of a module: ranges, scopes and types of each function, the rule of each instruction, that control goes on
-- after all kinds but 31 and 34, and the types' laws. All of it follows from the verdict (`accepted_ok`). Assumes nothing.
use Rattle.std.specs.Prelude.{ℕ, ◌<◌, ◌≤◌}
use Rattle.words.specs.Bytes.{Bytes}
use Rattle.rules.specs.Limits.{most_functions}
use Rattle.rules.specs.Module.{Module}
use Rattle.rules.specs.Decode.{module_of}
use Rattle.rules.specs.WellTyped.{WellTyped, EntryOk}
use Rattle.rules.specs.Verdict.{verdict_of, IsAccepted}
use Rattle.layout.specs.TypesOk.{TypesOk}
use Rattle.typing.specs.Accepted.{accepted}
use Rattle.typing.specs.Types.{DeepModule}
use Rattle.typing.proofs.Types.{deep}
use Rattle.typing.proofs.Flat.{types_ok}
use Rattle.typing.specs.Facts.{FunctionFacts}
use Rattle.typing.proofs.Facts.{function_facts}

pub record ModuleOk (m : Module) : Type 0 where
  pub types : TypesOk m
  pub some : 1 ≤ m.functions
  pub few : m.functions ≤ most_functions
  pub function : (g : ℕ) → g < m.functions → FunctionFacts m (m.function g)
  pub entry : EntryOk (m.function 0)

pub module_ok : (m : Module) → WellTyped m → DeepModule m → ModuleOk m
module_ok m t d = record {
  types = types_ok m t d;
  some = t.tables.some;
  few = t.tables.functions;
  function = function_facts m t d;
  entry = t.entry;
}

-- the module of an accepted file
pub accepted_ok : (f : Bytes) → IsAccepted (verdict_of f) → ModuleOk (module_of f)
accepted_ok f a = module_ok (module_of f) (accepted f a) (deep f a)
