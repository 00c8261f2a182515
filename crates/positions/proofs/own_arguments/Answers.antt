-- `positions::own_arguments` meets its contract: four bytes, and nowhere after them.
use Rattle.std.proofs.Common.{sym, ◌∙◌, ⊎_elim, arith, rules}
use Rattle.std.proofs.Math.ListN.{get_or-eq_default}
use Rattle.words.specs.Choose.{lt_or_le}
use Rattle.positions.specs.Positions.{own_out}
use Rattle.positions.proofs.own_arguments.Goals as goal

pub returns : goal.returns
returns c = λ v. let a = c.args in let r = c.from_fn.ensures.items in
    ⊎_elim
    (λ l. let w = r.at v 255 l in let k = w.2 in search rules)
    (λ l. get_or-eq_default c.from_fn.result 255 (omega (arith, r.long)) ∙ sym (own_out a.d a.count v (let h = c.requires.0 in omega arith)))
    (lt_or_le v 4)
