-- Document 01, "The module file", "Order: terms, names, functions, then filler": the walk over the records. It goes by the
-- kinds and by the counts as written, also where a count is over its limit, and breaks at a record whose kind cannot stand
-- there. Behind a break nothing is known. Assumes nothing.
use Rattle.std.specs.Prelude.{Bool, true, false, cond, ◌||◌, List, [], ◌∷◌, ◌++◌, ℕ, zero, suc, ◌+◌, ◌-◌, ltb, leb, eqb}
use Rattle.words.specs.Bytes.{Bytes}
use Rattle.rules.specs.Limits.{most_entries}
use Rattle.rules.specs.File.{records, record_of, regions_of, instructions_of, kind_filler, kind_name, kind_fields, kind_function, kind_regions, kind_registers, kind_call, kind_arguments, is_term, is_instruction}
use Rattle.rules.specs.declared.Record.{Record}
use Rattle.rules.specs.declared.Walk.{Walk}
use Rattle.rules.specs.declared.Phase.{Phase}
use Rattle.rules.specs.declared.Phase.TheVariants.{Terms, Names, Fields, Functions, Regions, Registers, Code, Arguments, Filler, Broken}

-- w, waiting for p, with other counts of terms, of names and of what is to come, and another callee
abbrev pub changed : Walk → Phase → (terms names left callee : ℕ) → Walk
changed w p terms names left callee = record {
  phase = p;
  terms = terms;
  names = names;
  functions = w.functions;
  head = w.head;
  regions = w.regions;
  registers = w.registers;
  instructions = w.instructions;
  left = left;
  callee = callee;
}

-- the same counts, waiting for p, of which n are to come
abbrev pub to : Walk → Phase → ℕ → Walk
to w p n = changed w p w.terms w.names n w.callee

abbrev pub start : Walk
start = record { phase = Terms; terms = 0; names = 0; functions = 0; head = 0; regions = 0; registers = 0; instructions = 0; left = 0; callee = 0 }

-- after the record 9s the code, where there is any
unfoldable pub to_code : Walk → Walk
to_code w = cond (ltb 0 w.instructions) (to w Code w.instructions) (to w Functions 0)

-- after record 8: "9, as many as needed: register types, seven to a record"
unfoldable pub to_registers : Walk → Walk
to_registers w = cond (ltb 0 w.registers) (to w Registers w.registers) (to_code w)

-- record 7 at r: "Then 8, if a + b > 0"
abbrev pub headed : Walk → Record → ℕ → Walk
headed w x r = record {
  phase = Regions;
  terms = w.terms;
  names = w.names;
  functions = w.functions + 1;
  head = r;
  regions = regions_of x;
  registers = x.c;
  instructions = instructions_of x;
  left = regions_of x;
  callee = 0;
}

unfoldable pub opened : Walk → Record → ℕ → Walk
opened w x r = cond (ltb 0 (regions_of x)) (headed w x r) (to_registers (headed w x r))

abbrev pub to_term : Walk → Walk
to_term w = changed w Terms (w.terms + 1) w.names 0 w.callee

-- "5 name with a regions and b fields, then 6"
abbrev pub named : Walk → Record → Walk
named w x = changed w Fields w.terms (w.names + 1) x.b w.callee

-- an instruction is over: the next, or after the last another function
unfoldable pub done : Walk → Walk
done w = cond (leb w.left 1) (to w Functions 0) (to w Code (w.left - 1))

-- "33 calls function b ..; record 35 follows"
abbrev pub called : Walk → Record → Walk
called w x = changed w Arguments w.terms w.names w.left x.b

-- a function, or filler
unfoldable pub to_function : Walk → Record → ℕ → Walk
to_function w x r = cond (eqb x.kind kind_function) (opened w x r) (cond (eqb x.kind kind_filler) (to w Filler 0) (to w Broken 0))

unfoldable pub to_name : Walk → Record → ℕ → Walk
to_name w x r = cond (eqb x.kind kind_name) (named w x) (to_function w x r)

-- record r is read
unfoldable pub step : Phase → Walk → Record → ℕ → Walk
step Terms w x r = cond (is_term x.kind) (to_term w) (to_name w x r)
step Names w x r = to_name w x r
step Fields w x r = cond (eqb x.kind kind_fields) (to w Names 0) (to w Broken 0)
step Functions w x r = to_function w x r
step Regions w x r = cond (eqb x.kind kind_regions) (to_registers w) (to w Broken 0)
step Registers w x r = cond (eqb x.kind kind_registers) (cond (leb w.left most_entries) (to_code w) (to w Registers (w.left - most_entries))) (to w Broken 0)
step Code w x r = cond (eqb x.kind kind_call) (called w x) (cond (is_instruction x.kind) (done w) (to w Broken 0))
step Arguments w x r = cond (eqb x.kind kind_arguments) (done w) (to w Broken 0)
step Filler w x r = w
step Broken w x r = w

unfoldable pub next : Walk → Record → ℕ → Walk
next w x r = step w.phase w x r

-- the walk, and the record 7 of each function that it reached
pub record Scan : Type 0 where
  pub walk : Walk
  pub starts : List ℕ

-- a function starts at a record where their number grows
unfoldable pub next_scan : Bytes → Scan → ℕ → Scan
next_scan f s r =
    let w = next s.walk (record_of f r) r in
    record { walk = w; starts = cond (ltb s.walk.functions w.functions) (s.starts ++ r ∷ []) s.starts }

-- what is known before record r
unfoldable pub scan : Bytes → ℕ → Scan
scan f zero = record { walk = start; starts = [] }
scan f (suc r) = next_scan f (scan f r) r

-- what is known of the whole file
unfoldable pub whole : Bytes → Scan
whole f = scan f (records f)

-- the end of the names was reached: a record 7, filler or the file's end follows
abbrev pub names_end : Walk → Bool
names_end t = ltb 0 t.functions || is_names t.phase
  where
    is_names : Phase → Bool
    is_names Terms = true
    is_names Names = true
    is_names Fields = false
    is_names Functions = true
    is_names Regions = true
    is_names Registers = true
    is_names Code = true
    is_names Arguments = true
    is_names Filler = true
    is_names Broken = false

-- the end of the functions was reached: filler or the file's end follows. A file may end here
abbrev pub is_end : Phase → Bool
is_end Terms = false
is_end Names = false
is_end Fields = false
is_end Functions = true
is_end Regions = false
is_end Registers = false
is_end Code = false
is_end Arguments = false
is_end Filler = true
is_end Broken = false
