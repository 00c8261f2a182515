-- A function as the code has it, in the terms of the rules.
use Rattle.std.specs.Prelude.{Bool}
use Rattle.words.specs.Decide.{does}
use Rattle.rules.specs.Module.{Instruction}
use Rattle.rules.specs.Module as program
use Rattle.rules.specs.Decision.{dec_typed}
use Rattle.rules.specs.Decode.{module_of}
use Rattle.functions.specs.Functions.{function_at}
use Rattle.judgment.specs.declared.function.Function.{Function}

-- which function of the file it is
abbrev pub in_file : Function → program.Function
in_file s = function_at s.file.now s.head

-- the instruction keeps the rule of its kind
abbrev pub keeps_rule : Function → Instruction → Bool
keeps_rule s i = does (dec_typed (module_of s.file.now) (in_file s) i)
