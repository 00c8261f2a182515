-- `instructions::known::run_known` meets its contract: what is remembered, or what is found and then remembered.
use mathlib.Core.Path.{sym, ap, ◌∙◌}
use Prim.Native.Nat.{◌%◌}
use native.Mathlib.Omega.{arith}
use Rattle.words.specs.Bytes.{Bytes}
use Rattle.words.specs.Decide.{does}
use Rattle.rules.specs.Types.{variable, sub}
use Rattle.rules.specs.Flat.{flat, dec_run}
use Rattle.rules.specs.Decode.{module_of}
use Rattle.terms.specs.Compare.{under}
use Rattle.instructions.specs.Known.{most_runs, run_stands, remembered_more}
use Rattle.instructions.proofs.known.run_known.Goals as goal

pub returns-then-known-i : goal.returns-then-known-i
returns-then-known-i c =
    let a = c.args in
    let p = c.requires in
    (sym (p.fact_3.each (c.run_key-key.result % most_runs) (omega arith) a.s a.d a.t p.fact_2.0 p.fact_2.1 (c.if-known-i.true ∙ c.run_key-key.ensures)), p.fact_3)

pub returns-then-stands : goal.returns-then-stands
unfolding run_stands
returns-then-stands c =
    let a = c.args in
    let m = module_of a.f.now in
    let p = c.requires in
    let e = c.run_from-stands.ensures.0 ∙ ap (λ (l : Bytes). does (dec_run (flat m (sub (under {k = variable} l) (m.term a.s))) a.d (flat m (sub (under {k = variable} l) (m.term a.t))))) c.themselves-same.ensures in
    (e, remembered_more (c.run_key-key.result % most_runs) a.s a.d a.t (omega arith) p.fact_2.0 p.fact_2.1 c.run_key-key.ensures (sym e ∙ c.if-stands.true) p.fact_3)

pub returns-else-stands : goal.returns-else-stands
unfolding run_stands
returns-else-stands c =
    let a = c.args in
    let m = module_of a.f.now in
    let p = c.requires in
    let e = c.run_from-stands.ensures.0 ∙ ap (λ (l : Bytes). does (dec_run (flat m (sub (under {k = variable} l) (m.term a.s))) a.d (flat m (sub (under {k = variable} l) (m.term a.t))))) c.themselves-same.ensures in
    (e, p.fact_3)
