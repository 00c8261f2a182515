-- `positions::substituted` meets its contract: as many bytes as are held, and nowhere after them.
use Rattle.std.proofs.Common.{◌≡◌, ℕ, zero, suc, ◌+◌, ◌≤◌, ◌<◌, List, get_or, sym, ◌∙◌, subst, ⊎_elim, arith, rules}
use Rattle.std.proofs.Math.ListN.{get_or-eq_default}
use Rattle.std.specs.Array.{IsFromFnResultFrom}
use Rattle.std.specs.Fn.{Called}
use denote.Param.Members.{Mut}
use Rattle.words.specs.Choose.{lt_or_le}
use Rattle.positions.specs.Positions.{arg_byte, arg_out}
use Rattle.positions.proofs.substituted.Goals as goal

-- what `from_fn` gives of a closure that stays as it is
from_fn_same : {F : Type 0} {g : Mut F (ℕ × Unit {0}) ℕ} (h : ℕ → ℕ) {f : F} → ((i y : ℕ) (q : F) → Called g f (i, tt) y q → (q ≡ f) × (y ≡ h i))
    → (ys : List ℕ) (i n : ℕ) → IsFromFnResultFrom g f ys i n → (v d : ℕ) → i ≤ v → v < i + n → get_or ys v d ≡ h v
from_fn_same h call ys i zero s v d a b = absurd (omega arith)
from_fn_same {F} {g} h {f} call ys i (suc n) s v d a b =
    let k = call i s.1 s.0 s.3 in
    ⊎_elim
    (λ (l : v < i + 1). let e : v ≡ i = omega arith in rw e (s.2.1 d ∙ k.1))
    (λ (l : i + 1 ≤ v). from_fn_same h call ys (i + 1) n (subst (λ (p : F). IsFromFnResultFrom g p ys (i + 1) n) k.0 s.4) v d l (omega arith))
    (lt_or_le v (i + 1))

pub returns : goal.returns
returns g c = λ v.
    let a = c.args in
    let r = c.from_fn.ensures.items in
    ⊎_elim
    (λ l. from_fn_same (arg_byte a.to.now a.d a.count) (λ i y q k. search rules) c.from_fn.result 0 g.row.N r.each v 255 (omega arith) (omega arith))
    (λ l. get_or-eq_default c.from_fn.result 255 (omega (arith, r.long)) ∙ sym (arg_out a.to.now a.d a.count v (let h = c.requires in omega arith)))
    (lt_or_le v g.row.N)
