-- Instructions in a row: the walk counts each and does no more, up to a call, the last instruction, or a record that is none. Assumes nothing.
use Rattle.std.specs.Prelude.{◌≡◌, refl, Bool, true, false, ◌&&◌, not, ℕ, ◌+◌, ◌-◌, ◌<◌, ◌≤◌, ltb, eqb}
use Rattle.std.proofs.Common.{sym, ◌∙◌, arith, ltb-true, le-ltb}
use Rattle.std.proofs.lemmas.Bool.{lt-leb, not-true}
use Rattle.words.specs.Bytes.{Bytes}
use Rattle.words.specs.Choose.{both}
use Rattle.rules.specs.File.{record_of, is_instruction, kind_call}
use Rattle.rules.specs.Walk.{to, done, step, next, scan}
use Rattle.rules.specs.declared.Record.{Record}
use Rattle.rules.specs.declared.Walk.{Walk}
use Rattle.rules.specs.declared.Phase.{Phase}
use Rattle.rules.specs.declared.Phase.TheVariants.{Terms, Names, Fields, Functions, Regions, Registers, Code, Arguments, Filler, Broken}
use Rattle.walk.specs.Scan.{next_in, walk_more}
use Rattle.walk.specs.Tables.{starts_more}

abbrev pub in_code : Phase → Bool
in_code Terms = false
in_code Names = false
in_code Fields = false
in_code Functions = false
in_code Regions = false
in_code Registers = false
in_code Code = true
in_code Arguments = false
in_code Filler = false
in_code Broken = false

pub in_code_law : (p : Phase) → in_code p ≡ true → p ≡ Code
in_code_law Terms e = cc
in_code_law Names e = cc
in_code_law Fields e = cc
in_code_law Functions e = cc
in_code_law Regions e = cc
in_code_law Registers e = cc
in_code_law Code e = refl
in_code_law Arguments e = cc
in_code_law Filler e = cc
in_code_law Broken e = cc

-- an instruction of this kind, with so many to come
abbrev pub counted_only : ℕ → ℕ → Bool
counted_only kind left = ltb 1 left && (not (eqb kind kind_call) && is_instruction kind)

-- from record r, before which the walk is w, to record e: the records between are counted and no more
pub record Run (f : Bytes) (n : ℕ) (w : Walk) (r e : ℕ) : Type 0 where
  pub from : r ≤ e
  pub below : e < n
  pub many : e - r ≤ w.left
  pub walk : to w w.phase (w.left - (e - r)) ≡ (scan f e).walk
  pub starts : (scan f e).starts ≡ (scan f r).starts

pub run_none : (f : Bytes) {n r : ℕ} {w : Walk} → w ≡ (scan f r).walk → r < n → Run f n w r r
run_none f {n} {r} {w} hw h = record {
  from = omega arith;
  below = h;
  many = omega arith;
  walk = let z : w.left - (r - r) ≡ w.left = omega arith in rw z hw;
  starts = refl;
}

counted_next : (w : Walk) (x : Record) (r : ℕ) → w.phase ≡ Code → counted_only x.kind w.left ≡ true → next w x r ≡ to w Code (w.left - 1)
unfolding step done
counted_next w x r p e =
    let a = both (ltb 1 w.left) (not (eqb x.kind kind_call) && is_instruction x.kind) e in
    let b = both (not (eqb x.kind kind_call)) (is_instruction x.kind) a.1 in
    next_in w x r p ∙ rw (not-true (eqb x.kind kind_call) b.0, b.1, lt-leb w.left 1 (ltb-true 1 w.left a.0))

pub run_more : (f : Bytes) {n r e : ℕ} {w : Walk} → Run f n w r e → w.phase ≡ Code → e + 1 < n
    → counted_only (record_of f e).kind (w.left - (e - r)) ≡ true → Run f n w r (e + 1)
run_more f {n} {r} {e} {w} a p h t =
    let v = to w w.phase (w.left - (e - r)) in
    let l = ltb-true 1 (w.left - (e - r)) (both (ltb 1 (w.left - (e - r))) _ t).0 in
    let m : w.left - (e + 1 - r) ≡ w.left - (e - r) - 1 = omega (arith, a.from) in
    let s : (scan f (e + 1)).walk ≡ to v Code (v.left - 1) = walk_more f e ∙ rw (← a.walk) (counted_next v (record_of f e) e p t) in
    record {
      from = omega (arith, a.from);
      below = h;
      many = omega (arith, a.from, a.many);
      walk = rw (m, p) (sym s);
      starts = starts_more f e ∙ rw (s, ← a.walk, le-ltb w.functions w.functions (omega arith)) a.starts;
    }
