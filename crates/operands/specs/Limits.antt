-- Operands that fit because they are below the limit of their class: a test that needs no choice by the class. Assumes nothing.
use Rattle.std.specs.Prelude.{◌≡◌, Bool, false, cond, ◌&&◌, List, [], ◌∷◌, get_or}
use Rattle.std.proofs.Math.Path.{refl}
use Rattle.std.proofs.Common.{sym, ap, ◌∙◌, arith}
use Rattle.std.proofs.Math.Bool.{true}
use Prim.Native.Nat.{ℕ, zero, suc, ◌+◌}
use Rattle.std.proofs.Math.Dec.{ltb, leb, eqb}
use borrow.Author.Tests.{ltb-true, eq-eqb, le-leb}
use Rattle.words.specs.Choose.{cond_nlt, both, both_of}
use Rattle.rules.specs.Operands.{last_operation, operand_fits, classes_of}
use Rattle.rules.specs.declared.Record.{Record}

-- by class; 0 for a function and for regions, which need another test
abbrev pub limits_of : ℕ → ℕ → List ℕ
limits_of registers instructions = 1 ∷ registers ∷ 0 ∷ instructions ∷ (last_operation + 1) ∷ 4294967296 ∷ 0 ∷ 0 ∷ []

abbrev pub limit_in : List ℕ → ℕ → ℕ
limit_in l class = cond (ltb class 8) (get_or l class 0) 0

unfoldable pub below_limits : List ℕ → Record → Bool
below_limits l x = let k = classes_of x.kind in
    (ltb x.a (limit_in l k.a) && ltb x.b (limit_in l k.b)) && (ltb x.c (limit_in l k.c) && ltb x.d (limit_in l k.d))

module _ (registers instructions : ℕ) (p q : Bool) where
  below_fits : (class v : ℕ) → ltb v (limit_in (limits_of registers instructions) class) ≡ true → operand_fits class v registers instructions p q ≡ true
  unfolding operand_fits
  below_fits zero v h = let k : eqb v 0 ≡ true = eq-eqb v 0 (let l = ltb-true v 1 h in omega arith) in rw k
  below_fits (suc zero) v h = let k : ltb v registers ≡ true = h in rw k
  below_fits (suc (suc zero)) v h = absurd (let l = ltb-true v 0 h in omega arith)
  below_fits (suc (suc (suc zero))) v h = let k : ltb v instructions ≡ true = h in rw k
  below_fits (suc (suc (suc (suc zero)))) v h = let k : leb v last_operation ≡ true = le-leb v last_operation (let l = ltb-true v (last_operation + 1) h in omega arith) in rw k
  below_fits (suc (suc (suc (suc (suc zero))))) v h = refl
  below_fits (suc (suc (suc (suc (suc (suc zero)))))) v h = absurd (let l = ltb-true v 0 h in omega arith)
  below_fits (suc (suc (suc (suc (suc (suc (suc zero))))))) v h = absurd (let l = ltb-true v 0 h in omega arith)
  below_fits (suc (suc (suc (suc (suc (suc (suc (suc class)))))))) v h =
      let e = cond_nlt (get_or (limits_of registers instructions) (suc (suc (suc (suc (suc (suc (suc (suc class)))))))) 0) 0 {m = suc (suc (suc (suc (suc (suc (suc (suc class)))))))} {n = 8} (omega arith) in
      absurd (let l = ltb-true v 0 (ap (ltb v) (sym e) ∙ h) in omega arith)

-- each operand fits, whatever the other tests say
pub limits_fit : (registers instructions : ℕ) (there right : Bool) (x : Record) → below_limits (limits_of registers instructions) x ≡ true → let k = classes_of x.kind in
    (operand_fits k.a x.a registers instructions false false && operand_fits k.b x.b registers instructions there false)
    && (operand_fits k.c x.c registers instructions false false && operand_fits k.d x.d registers instructions false right) ≡ true
unfolding below_limits
limits_fit registers instructions there right x h =
    let k = classes_of x.kind in
    let l = limits_of registers instructions in
    let s = both (ltb x.a (limit_in l k.a) && ltb x.b (limit_in l k.b)) (ltb x.c (limit_in l k.c) && ltb x.d (limit_in l k.d)) h in
    let u = both (ltb x.a (limit_in l k.a)) (ltb x.b (limit_in l k.b)) s.0 in
    let v = both (ltb x.c (limit_in l k.c)) (ltb x.d (limit_in l k.d)) s.1 in
    both_of
    (both_of (below_fits registers instructions false false k.a x.a u.0) (below_fits registers instructions there false k.b x.b u.1))
    (both_of (below_fits registers instructions false false k.c x.c v.0) (below_fits registers instructions false right k.d x.d v.1))
